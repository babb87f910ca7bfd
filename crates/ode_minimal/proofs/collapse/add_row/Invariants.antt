use Rattle.std.proofs.Common.{◌<◌, length}
use Rattle.ode_minimal.specs.Collapse.{IsCollapse}
use Rattle.ode_minimal.proofs.collapse.add_row.Given as goal

abbrev pub invariant-loop-s : goal.invariant-loop-s
invariant-loop-s l = record {
  head : l.head < length l.kept.states;
  collapse : IsCollapse l.t l.kept l.head l.s;
}
