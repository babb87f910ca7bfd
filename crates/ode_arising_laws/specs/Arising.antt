-- Points of touched objects, as a running transaction has them.
use Rattle.std.specs.Prelude.{◌≡◌, ℕ, List, true, nat_le, Option, Ok, Err}
use Rattle.std.specs.List.{AllByRecursion}
use Rattle.std.specs.Option.{IsSome, option_and_then}
use Rattle.ode_interpreter.specs.declared.firing.Firing as code
pub use Rattle.ode_key_laws.specs.Keys.{HoldsKeys}
pub use Rattle.ode_object_laws.specs.Objects.{TakesTrigger}
use Rattle.ode_objects.specs.declared.object.Object.{Object}
use Rattle.ode_objects.specs.declared.tracked.Tracked.{Tracked}
use Rattle.ode_overlay.specs.Answers.{Answer}
use Rattle.ode_overlay.specs.Layers.{Layer, tracked_at}
use Rattle.ode_overlay.specs.Reading.{if_live}
use Rattle.ode_schema.specs.Parts.{Parts, table_by, trigger_under}
use Rattle.ode_states.specs.Machine.{IsOf, checked}
use Rattle.ode_states.specs.declared.fired.Fired.{Fired}
use Rattle.ode_types.specs.declared.running.Running.{Running}
use Rattle.ode_value.specs.Lengths.{values_length}
use Rattle.ode_value.specs.Limits.{args_limit}
use Rattle.ode_value.specs.Worlds.{Declared}

-- a tracked object, where it is there
abbrev pub live_in : ℕ → Layer → Option Object
live_in id x = option_and_then (λ (t : Tracked). if_live t.current) (tracked_at id x)

-- an activation of an object of a class goes on by its trigger's table, and the trigger is one that the class has
pub record IsGoing (p : Parts) (class : ℕ) (a : Running) : Type 0 where
  pub declared : IsSome (trigger_under p.classes a.class a.trigger)
  pub of : (classes : List Declared) → checked classes ≡ p.classes → IsOf (table_by p.tables p.maps) p.tables p.alphabets classes class a

-- activations are had, and each goes on
abbrev pub AllGo : Parts → ℕ → Answer (List Running) → Type 0
AllGo p class (Ok there) = AllByRecursion (IsGoing p class) there
AllGo p class (Err why) = ⊥

-- a firing of an object
abbrev pub firing_by : ℕ → Fired → code.Firing
firing_by id f = record { object = id; activation = f.activation; trigger = record { class = f.class; place = f.trigger }; args = f.args }

-- arguments for which a record has room
abbrev pub HasShortArgs : Running → Type 0
HasShortArgs a = nat_le (values_length a.args) args_limit ≡ true

abbrev pub IsShortlyFired : Fired → Type 0
IsShortlyFired f = nat_le (values_length f.args) args_limit ≡ true
