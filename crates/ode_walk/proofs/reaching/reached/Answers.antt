use Rattle.std.proofs.Common.{arith}
use Rattle.ode_walk.proofs.FrontLaws.{front_end}
use Rattle.ode_walk.proofs.reaching.reached.Goals as goal

pub returns : goal.returns
returns c = front_end c.args.table.now c.loop-head.front.states c.loop-head.front.seen c.loop-head.head (omega arith) c.loop-head.invariant
