-- How a call of a context goes.
use Rattle.std.specs.Prelude.{ℕ, [], Result, IfErr, slice_get}
use Rattle.ode_interpreter.specs.declared.stop.Stop.{Stop}
use Rattle.ode_machine.specs.TimeRows.{kinds_of}
use Rattle.ode_run.specs.Contexts.{EndsWhere}
use Rattle.ode_run.specs.Knowing.{IsSound}
use Rattle.ode_value.specs.Acts.{Deed, Outcome, ◌>>=◌, ◌>>◌, finds, reads, when}
use Rattle.ode_value.specs.Changes.{is_live, object, there}
use Rattle.ode_value.specs.Classes.{trigger_at}
use Rattle.ode_value.specs.Draining.{firing_in}
use Rattle.ode_value.specs.Executing.{first_actions}
use Rattle.ode_value.specs.Language.{ListTx}
use Rattle.ode_value.specs.Objects.{Histories, Starts}
use Rattle.ode_value.specs.Pasts.{Past}
use Rattle.ode_value.specs.Posting.{posts, runs, touches}
use Rattle.ode_value.specs.Worlds.{Entry}

-- it ended as an act over lists, where this holds of what the act reached, and no record is damaged
pub record Goes {R : Type 0} (result : Result R Stop) (P : ListTx → Type 0) (outcome : Outcome Histories Starts R) : Type 0 where
  pub ends : EndsWhere result P outcome
  pub sound : IfErr result IsSound

-- ---- the parts of what a transaction does

module _ {O A : Type 0} (past : Past O A) where
  -- an object is touched where it is there
  abbrev pub touches_there : ℕ → Deed O A
  touches_there id = reads (is_live id) >>= λ live. when live (touches past (first_actions past) id)

  -- the action of an entry
  abbrev pub fires : Entry → Deed O A
  fires e = finds (λ b. trigger_at b.classes e.class e.trigger) >>= λ t. runs (first_actions past) (firing_in e t)

  -- an object's point of the kind at a place of a class
  abbrev pub posts_kind : (id place class : ℕ) → Deed O A
  posts_kind id place class = finds (λ b. slice_get (kinds_of b.classes class) place) >>= λ kind. posts past (first_actions past) id kind []

  -- that of its own class
  abbrev pub posts_place : (id place : ℕ) → Deed O A
  posts_place id place = there id >> (object id >>= λ o. posts_kind id place o.class)
