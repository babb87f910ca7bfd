-- The states of triggers' tables, as they are noted.
use Rattle.std.specs.Prelude.{ℕ, List, Bool, false, slice_index_or}
use Rattle.std.specs.List.{slice_get}
use Rattle.std.specs.Option.{option_map_or}
use Rattle.ode_opening_objects.specs.Triggers.{table_place}
use Rattle.ode_opening_objects.specs.declared.states.States.{States}

-- a state of the table at a place is noted
abbrev pub is_flagged : List (List Bool) → ℕ → ℕ → Bool
is_flagged seen at state = option_map_or (λ flags. slice_index_or flags state false) (slice_get seen at) false

-- a state of a trigger's table is
abbrev pub is_seen : States → ℕ → ℕ → ℕ → Bool
is_seen s class place state = option_map_or (λ at. is_flagged s.seen at state) (table_place s.maps class place) false
