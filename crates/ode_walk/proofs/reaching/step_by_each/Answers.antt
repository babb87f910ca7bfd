use Rattle.std.proofs.Common.{arith}
use Rattle.ode_walk.proofs.FrontLaws.{front_next}
use Rattle.ode_walk.proofs.reaching.step_by_each.Goals as goal

pub returns : goal.returns
returns c =
    front_next c.args.table.now c.loop-symbol.front.states c.loop-symbol.front.seen c.args.head c.loop-symbol.symbol c.loop-symbol.invariant.within (omega arith) c.loop-symbol.invariant.front
