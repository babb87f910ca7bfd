use Rattle.std.proofs.Common.{arith}
use Rattle.ode_walk.proofs.SearchLaws.{search_next}
use Rattle.ode_walk.proofs.search.step_by_each.Goals as goal

pub returns-clause-ok : goal.returns-clause-ok
returns-clause-ok c =
    search_next c.args.stored.now c.args.built.now c.loop-symbol.search.visits c.loop-symbol.search.seen c.args.head c.loop-symbol.symbol c.loop-symbol.invariant.within (omega arith) c.loop-symbol.invariant.search
