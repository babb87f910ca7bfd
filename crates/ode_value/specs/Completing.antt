-- The end of a transaction's work: last points and deferred actions, soft constraints, and the weight of what is to be kept.
use Rattle.std.specs.Prelude.{ℕ, zero, suc, ◌+◌, ◌-◌, [], length, nat_le, Option, Some, None, slice_get}
use Rattle.ode_value.specs.declared.event.Kind.TheVariants.{TComplete}
use Rattle.ode_value.specs.declared.reason.Reason.TheVariants.{Space}
use Rattle.ode_value.specs.Pasts.{Past}
use Rattle.ode_value.specs.Acts.{Deed, ◌>>=◌, ◌>>◌, needs, reads, sees, looks, nothing, when, each}
use Rattle.ode_value.specs.Changes.{asks_live}
use Rattle.ode_value.specs.Constraints.{tests_soft}
use Rattle.ode_value.specs.Executing.{first_actions}
use Rattle.ode_value.specs.Keeping.{kept_bones}
use Rattle.ode_value.specs.Limits.{budget_limit, cascade_limit, weight_limit}
use Rattle.ode_value.specs.Posting.{posts, runs}
use Rattle.ode_value.specs.Transactions.{Tx, Firing}
use Rattle.ode_value.specs.Weights.{weight}
use Rattle.ode_value.specs.Worlds.{Object}
use Rattle.ode_value.specs.Denoting.{object_at}

module _ {O A : Type 0} where
  -- More rounds than there can be: each posts a last point or runs a deferred action; a statement that runs in one touches
  -- one object at most.
  abbrev pub rounds : Tx O A → ℕ
  rounds x = (budget_limit - x.run) + length x.touched + cascade_limit

  -- the soft constraints of an object that is still there
  abbrev pub tests_object : Option Object → Deed O A
  tests_object None = nothing
  tests_object (Some o) = tests_soft o

  -- of a touched object
  abbrev pub tests_touched : ℕ → Deed O A
  tests_touched id = do
    o ← sees (λ b. object_at b id)
    tests_object o

  -- of all touched objects, by a look at each
  unfoldable pub tests_all : Deed O A
  tests_all = do
    touched ← reads (λ x. x.touched)
    looks touched
    each tests_touched touched

  -- what is to be kept isn't too heavy
  unfoldable pub weighs : Deed O A
  weighs = needs Space (λ x. nat_le (weight (kept_bones x.now.bones)) weight_limit)

module _ {O A : Type 0} (past : Past O A) where
  -- the last point of an object that is still there
  unfoldable pub posts_tcomplete : ℕ → Deed O A
  posts_tcomplete id = do
    live ← asks_live id
    when live (posts past (first_actions past) id TComplete [])

  -- a round, and what comes behind it: the first object that hasn't had its last point; else the first action that hasn't run
  abbrev pub round : Option ℕ → Option Firing → (at ran : ℕ) → (ℕ → ℕ → Deed O A) → Deed O A
  round (Some id) f at ran rest = do
    posts_tcomplete id
    rest (suc at) ran
  round None (Some f) at ran rest = do
    runs (first_actions past) f
    rest at (suc ran)
  round None None at ran rest = nothing

  -- the rounds, from a place in the touched objects and one in the deferred firings on
  unfoldable pub goes_round : ℕ → (at ran : ℕ) → Deed O A
  goes_round zero at ran = nothing
  goes_round (suc n) at ran = do
    id ← reads (λ x. slice_get x.touched at)
    f ← reads (λ x. slice_get x.deferred ran)
    round id f at ran (goes_round n)

  -- the whole completion
  unfoldable pub completes : Deed O A
  completes = do
    n ← reads rounds
    goes_round n 0 0
    tests_all
    weighs
