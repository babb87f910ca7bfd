-- Rounds, the tests of soft constraints and the last points of a settling come to the same.
use Rattle.std.proofs.Common.{◌≡◌, ℕ, zero, suc, ◌+◌, Bool, true, false, List, [], ◌∷◌, length, Option, Some, None, refl, sym, ap, ◌∙◌, subst}
use Rattle.std.specs.Prelude.{◌-◌, nat_le, slice_get}
use Rattle.ode_footprint_laws.proofs.Among.{Within, within_first, within_rest}
use Rattle.ode_footprint_laws.proofs.Depends.{Anything, Depends, Ends, each_in, looked_in, next_in, nothing_in, reads_in, then_in, weaken_in, when_in}
use Rattle.ode_footprint_laws.proofs.DependsPosting.{arises_in, collects_in, listed_in, posts_in, runs_in}
use Rattle.ode_footprint_laws.proofs.DependsReading.{agreed_live, asks_in, line_in, soft_in}
use Rattle.ode_footprint_laws.proofs.DependsStatements.{first_in}
use Rattle.ode_footprint_laws.proofs.Grows.{ListDeed, needs_grow, tested}
use Rattle.ode_footprint_laws.proofs.Meets.{Meets, Steady}
use Rattle.ode_footprint_laws.specs.Agreeing.{Agree, IsAmong}
use Rattle.ode_value.specs.declared.event.Kind.{Kind}
use Rattle.ode_value.specs.declared.event.Kind.TheVariants.{TComplete}
use Rattle.ode_value.specs.declared.reason.Reason.TheVariants.{Space}
use Rattle.ode_value.specs.Acts.{◌>>=◌, ◌>>◌, each, looks, reads, when}
use Rattle.ode_value.specs.Changes.{asks_live}
use Rattle.ode_value.specs.Completing.{completes, goes_round, posts_tcomplete, round, rounds, tests_all, tests_object, tests_touched, weighs}
use Rattle.ode_value.specs.Denoting.{object_at}
use Rattle.ode_value.specs.Executing.{first_actions}
use Rattle.ode_value.specs.Firings.{Place, arises}
use Rattle.ode_value.specs.Footprints.{Footprint}
use Rattle.ode_value.specs.Keeping.{kept_bones}
use Rattle.ode_value.specs.Language.{ListTx}
use Rattle.ode_value.specs.Limits.{budget_limit, cascade_limit, weight_limit}
use Rattle.ode_value.specs.Objects.{Histories, Starts}
use Rattle.ode_value.specs.Pasts.{lists}
use Rattle.ode_value.specs.Posting.{collects, is_listed, posts, runs}
use Rattle.ode_value.specs.Settling.{arises_last, posts_last, posts_last_listed, says}
use Rattle.ode_value.specs.Transactions.{Firing}
use Rattle.ode_value.specs.Weights.{weight}
use Rattle.ode_value.specs.Worlds.{Object}

module _ {f : Footprint} (m : Meets f) where
  -- ---- soft constraints

  object_tests : {Pre : Type 0} (o : Option Object) → Depends m Pre Anything (tests_object o)
  object_tests None = nothing_in m
  object_tests (Some o) = soft_in m o

  touched_in : (id : ℕ) → Depends m (IsAmong id f.looked) Anything (tests_touched id)
  touched_in id = reads_in m (λ x. object_at x.now.bones id) tests_object (λ among y x a. agreed_live f y x a id among) object_tests

  all_touched : (ids : List ℕ) → Depends m (Within ids f.looked) Anything (each tests_touched ids)
  all_touched [] = nothing_in m
  all_touched (id ∷ ids) =
      next_in m (tests_touched id) (each tests_touched ids) (touched_in id) (λ within. within_first id ids f.looked within)
      (weaken_in m (all_touched ids) (λ k. within_rest id ids f.looked k.0))

  pub tests_all_in : Depends m (Unit {0}) Anything tests_all
  unfolding tests_all
  tests_all_in =
      reads_in m (λ x. x.touched) looked (λ k y x a. a.touched) (λ ids.
      next_in m (looks ids) (each tests_touched ids) (looked_in m ids) (λ k. k) (weaken_in m (all_touched ids) (λ k. k.1)))
    where
      looked : List ℕ → ListDeed
      looked ids = looks ids >> each tests_touched ids

  -- ---- last points

  posts_last_in : {Pre : Type 0} (place : Place Histories Starts) (kind : Kind) (id : ℕ) → Depends m Pre Anything (posts_last lists place kind id)
  unfolding posts_last
  posts_last_in place kind id =
      then_in m (asks_live id) (λ live. when live (posts_last_listed lists place kind id)) (asks_in m id) (λ k. tt) (λ live.
      when_in m live (posts_last_listed lists place kind id)
      (then_in m (is_listed id kind) (λ listed. when listed (arises_last lists place kind id)) (listed_in m id kind) (λ k. k.1) (λ listed.
      when_in m listed (arises_last lists place kind id)
      (then_in m (arises lists place id kind []) (each (collects says true)) (arises_in m place id kind []) (λ k. k.0.1) (λ firings.
      each_in m (collects says true) (collects_in m says (line_in m) true) firings)))))

  pub last_in : (place : Place Histories Starts) (kind : Kind) (ids : List ℕ) → Depends m (Unit {0}) Anything (each (posts_last lists place kind) ids)
  last_in place kind ids = each_in m (posts_last lists place kind) (posts_last_in place kind) ids

module _ {f : Footprint} (s : Steady f) where
  abbrev m' : Meets f
  m' = s.meets

  tcomplete_in : {Pre : Type 0} (id : ℕ) → Depends m' Pre Anything (posts_tcomplete lists id)
  unfolding posts_tcomplete
  tcomplete_in id =
      then_in m' (asks_live id) (λ live. when live (posts lists (first_actions lists) id TComplete [])) (asks_in m' id) (λ k. tt) (λ live.
      when_in m' live (posts lists (first_actions lists) id TComplete []) (weaken_in m' (posts_in s (first_actions lists) (first_in s) id TComplete []) (λ k. k.1)))

  -- a whole completion, where both are one transaction: its last test weighs the whole world
  weighs_in : ((y x : ListTx) → m'.Related y x → y ≡ x) → Depends m' (Unit {0}) Anything weighs
  unfolding weighs
  weighs_in one = record {
    grows = needs_grow Space light;
    alike = λ k y x h reached. subst (λ b. Ends m' Anything (tested b Space y) (tested (light x) Space x)) (sym (ap light (one y x h))) (by_test (light x) y x h);
  }
    where
      light : ListTx → Bool
      light x = nat_le (weight (kept_bones x.now.bones)) weight_limit

      by_test : (b : Bool) (y x : ListTx) → m'.Related y x → Ends m' Anything (tested b Space y) (tested b Space x)
      by_test true y x h = (refl, tt, h)
      by_test false y x h = (refl, h)

  pub first_runs_in : {Pre : Type 0} (g : Firing) → Depends m' Pre Anything (runs (first_actions lists) g)
  first_runs_in g = runs_in s (first_actions lists) (first_in s) g

  round_in : (id : Option ℕ) (g : Option Firing) (at ran : ℕ) (rest : ℕ → ℕ → ListDeed) → ((at ran : ℕ) → Depends m' (Unit {0}) Anything (rest at ran)) → Depends m' (Unit {0}) Anything (round lists id g at ran rest)
  round_in (Some id) g at ran rest are = next_in m' (posts_tcomplete lists id) (rest (suc at) ran) (tcomplete_in id) (λ k. k) (weaken_in m' (are (suc at) ran) (λ k. tt))
  round_in None (Some g) at ran rest are = next_in m' (runs (first_actions lists) g) (rest at (suc ran)) (first_runs_in g) (λ k. k) (weaken_in m' (are at (suc ran)) (λ k. tt))
  round_in None None at ran rest are = nothing_in m'

  pub goes_round_in : (most at ran : ℕ) → Depends m' (Unit {0}) Anything (goes_round lists most at ran)
  unfolding goes_round
  goes_round_in zero at ran = nothing_in m'
  goes_round_in (suc most) at ran =
      reads_in m' (λ x. slice_get x.touched at) (λ id. reads (λ x. slice_get x.deferred ran) >>= λ g. round lists id g at ran (goes_round lists most)) (λ k y x a. ap (λ ids. slice_get ids at) a.touched) (λ id.
      reads_in m' (λ x. slice_get x.deferred ran) (λ g. round lists id g at ran (goes_round lists most)) (λ k y x a. ap (λ gs. slice_get gs ran) a.deferred) (λ g.
      round_in id g at ran (goes_round lists most) (goes_round_in most)))

  rounds_same : (y x : ListTx) → Agree f y x → rounds y ≡ rounds x
  rounds_same y x a =
      ap (λ run. (budget_limit - run) + length y.touched + cascade_limit) a.run ∙ ap (λ ids. (budget_limit - x.run) + length ids + cascade_limit) a.touched

  pub completes_in : ((y x : ListTx) → m'.Related y x → y ≡ x) → Depends m' (Unit {0}) Anything (completes lists)
  unfolding completes
  completes_in one =
      reads_in m' rounds (λ most. goes_round lists most 0 0 >> (tests_all >> weighs)) (λ k y x a. rounds_same y x a) (λ most.
      next_in m' (goes_round lists most 0 0) (tests_all >> weighs) (goes_round_in most 0 0) (λ k. k)
      (next_in m' tests_all weighs (tests_all_in m') (λ k. tt) (weaken_in m' (weighs_in one) (λ k. tt))))
