-- What is put and what is still to be put are all the lines.
use Rattle.std.proofs.Common.{◌≡◌, ◌++◌, ◌-◌, ◌<◌, ◌^◌}
use Rattle.ode_gen.specs.Generating.{lines_from}
use Rattle.ode_gen.proofs.generation.put_calls.Given as goal

abbrev pub invariant-loop-done : goal.invariant-loop-done
invariant-loop-done l = record {
  lines : l.text.items ++ lines_from (l.count - l.done) l.last ≡ l.fn.text.items ++ lines_from l.count l.first;
  small : l.last < 2 ^ 32;
}
