-- What the clock goes through in a world: each object with the kinds that its class lists.
use Rattle.std.specs.Prelude.{ℕ, List, [], map}
use Rattle.std.specs.Option.{option_map_or}
use Rattle.ode_value.specs.declared.class.Class.{Class}
use Rattle.ode_value.specs.declared.event.Kind.{Kind}
use Rattle.ode_value.specs.Worlds.{Declared, Object, Bones, class_numbered}
use Rattle.ode_timer.specs.declared.clock.TimeRow.{TimeRow}

-- the kinds that a class lists
abbrev pub kinds_of : List Declared → ℕ → List Kind
kinds_of classes number = option_map_or (λ (c : Class). c.kinds) (class_numbered number classes) []

-- the row of an object
abbrev pub time_row : List Declared → Object → TimeRow
time_row classes o = record { object = o.id; kinds = kinds_of classes o.class }

-- the rows of all objects
abbrev pub time_rows : Bones → List TimeRow
time_rows b = map (time_row b.classes) b.objects
