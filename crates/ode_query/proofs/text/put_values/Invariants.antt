use Rattle.std.proofs.Common.{◌≡◌, ◌++◌, drop}
use Rattle.std.specs.List.{flat_map}
use Rattle.ode_query.specs.Texts.{blank_value}
use Rattle.ode_query.proofs.text.put_values.Given as goal

abbrev pub invariant-loop-value : goal.invariant-loop-value
invariant-loop-value l = l.text.items ++ flat_map blank_value (drop l.value-index l.values) ≡ l.fn.text.items ++ flat_map blank_value l.values
