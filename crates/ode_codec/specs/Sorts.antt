-- Which values have a sort.
use Rattle.std.specs.Prelude.{Bool, true, false}
use Rattle.ode_value.specs.declared.statement.Sort.{Sort}
use Rattle.ode_value.specs.declared.statement.Sort.TheVariants as sort
use Rattle.ode_value.specs.declared.value.Value.{Value}
use Rattle.ode_value.specs.declared.value.Value.TheVariants as value

abbrev pub has_sort : Sort → Value → Bool
has_sort sort.Int (value.Int n) = true
has_sort sort.Bool (value.Bool b) = true
has_sort sort.Text (value.Text t) = true
has_sort (sort.Reference class) (value.Reference r) = true
has_sort _ _ = false
