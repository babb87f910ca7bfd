use Rattle.std.proofs.Common.{◌-◌}
use Rattle.ode_minimal.specs.Collapse.{IsCollapse}
use Rattle.ode_minimal.proofs.collapse.collapse_alike.Given as goal

abbrev pub invariant-loop-head : goal.invariant-loop-head
invariant-loop-head l = IsCollapse l.t l.kept l.head 0

abbrev pub decreases-loop-head : goal.decreases-loop-head
decreases-loop-head l = l.t.states - l.head
