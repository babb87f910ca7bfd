-- The condition on the numbers of a comparison.
use Rattle.std.specs.Prelude.{◌≡◌, true}
use Rattle.ode_syntax.specs.declared.asked.Comparison.{Comparison}
use Rattle.ode_value.specs.Numbers.{has_numbers}

-- each number of a `choose` or an `every` in both event expressions is in its range
abbrev pub HaveNumbers : Comparison → Type 0
HaveNumbers c = (has_numbers c.first ≡ true) × (has_numbers c.second ≡ true)
