use Rattle.std.proofs.Common.{◌-◌}
use Rattle.ode_walk.specs.Reaching.{IsFront}
use Rattle.ode_walk.proofs.reaching.reached.Given as goal

abbrev pub invariant-loop-head : goal.invariant-loop-head
invariant-loop-head l = IsFront l.table l.front.states l.front.seen l.head 0

abbrev pub decreases-loop-head : goal.decreases-loop-head
decreases-loop-head l = l.table.states - l.head
