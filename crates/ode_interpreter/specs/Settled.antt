-- Where the points of a settling go.
use Rattle.std.specs.Prelude.{Bool, true, false}
use Rattle.ode_value.specs.Firings.{Place, both_lists, whole_list}
use Rattle.ode_value.specs.Pasts.{Past}

-- at a commit into both lists, at an abort into the list of all points alone
abbrev pub last_place : {O A : Type 0} → Past O A → Bool → Place O A
last_place past true = both_lists past
last_place past false = whole_list past
