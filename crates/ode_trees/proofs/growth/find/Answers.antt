use Rattle.std.proofs.Common.{arith, sym, ◌∙◌}
use Rattle.ode_trees.proofs.FoundLaws.{get-same}
use Rattle.ode_trees.proofs.growth.find.Goals as goal

pub returns-then-same-clause-some : goal.returns-then-same-clause-some
returns-then-same-clause-some c =
    get-same c.args.trees.now c.loop-i.i c.args.s.now c.index-trees-i.result (omega arith) c.index-trees-i.is (sym c.same.ensures ∙ c.if-same.true)
