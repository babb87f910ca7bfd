-- What tests of constraints go by.
use Rattle.std.specs.Prelude.{ℕ, Option}
use Rattle.std.specs.Option.{option_and_then, option_map}
use Rattle.ode_interpreter.specs.declared.stop.Stop.{Stop}
use Rattle.ode_interpreter.specs.declared.stop.Stop.TheVariants as stop
use Rattle.ode_objects.specs.declared.object.Object.{Object}
use Rattle.ode_objects.specs.declared.tracked.Tracked.{Tracked}
use Rattle.ode_overlay.specs.Layers.{Layer, tracked_at}
use Rattle.ode_overlay_laws.specs.Standing.{object_as}
use Rattle.ode_value.specs.Denoting.{if_live}
use Rattle.ode_value.specs.Worlds as worlds

-- nothing was asked of the disk
abbrev pub IsCalm : Stop → Type 0
IsCalm (stop.Abort why) = Unit {0}
IsCalm stop.Memory = Unit {0}
IsCalm stop.DiskFault = ⊥
IsCalm (stop.Damaged key) = ⊥

-- an object that may be there, as the machine has it
abbrev pub seen_as : ℕ → Option Object → Option worlds.Object
seen_as id o = option_and_then (λ o. if_live (object_as id o)) o

-- one that is tracked, as it is now
abbrev pub current_at : ℕ → Layer → Option worlds.Object
current_at id x = seen_as id (option_map (λ (t : Tracked). t.current) (tracked_at id x))
