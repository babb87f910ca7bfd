use Rattle.std.proofs.Common.{◌≡◌, ◌++◌, drop}
use Rattle.ode_dump.specs.Lines.{values_text}
use Rattle.ode_dump.proofs.lines.put_values.Given as goal

abbrev pub invariant-loop-value : goal.invariant-loop-value
invariant-loop-value l = l.text.items ++ values_text (drop l.value-index l.values) ≡ l.fn.text.items ++ values_text l.values
