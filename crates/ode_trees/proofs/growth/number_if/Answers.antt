use Rattle.std.proofs.Common.{arith, sym, ◌∙◌}
use Rattle.ode_trees.proofs.FoundLaws.{get-same}
use Rattle.ode_trees.proofs.growth.number_if.Goals as goal

pub returns-then-same : goal.returns-then-same
returns-then-same c =
    get-same c.args.trees.now c.args.number c.args.s.now c.index-trees-number.result (omega arith) c.index-trees-number.is (sym c.same.ensures ∙ c.if-same.true)
