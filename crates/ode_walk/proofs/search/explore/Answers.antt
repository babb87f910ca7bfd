use Rattle.std.proofs.Common.{arith}
use Rattle.ode_walk.proofs.SearchLaws.{search_end}
use Rattle.ode_walk.proofs.search.explore.Goals as goal

pub returns-clause-ok : goal.returns-clause-ok
returns-clause-ok c = search_end c.args.stored.now c.args.built.now c.loop-head.search.visits c.loop-head.search.seen c.loop-head.head (omega arith) c.loop-head.invariant
