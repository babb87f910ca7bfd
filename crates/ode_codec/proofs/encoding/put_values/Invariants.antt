use Rattle.std.proofs.Common.{◌≡◌, ◌++◌, take}
use Rattle.ode_codec.specs.Spelling.{values}
use Rattle.ode_codec.proofs.encoding.put_values.Given as goal

abbrev pub invariant-loop-value : goal.invariant-loop-value
invariant-loop-value l = l.out.items ≡ l.initial.out.items ++ values (take l.value-index l.all)
