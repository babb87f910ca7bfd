use Rattle.std.proofs.Common.{sym, ◌∙◌, arith}
use Rattle.ode_value.specs.TreeOrder.{pair_cmp, tree_cmp}
use Rattle.ode_trees.proofs.OrderLaws.{shorter}
use Rattle.ode_trees.proofs.order.+order.Goals as goal

pub compare_pairs-returns-then-xs-ys : goal.compare_pairs-returns-then-xs-ys
compare_pairs-returns-then-xs-ys t c =
    shorter pair_cmp c.args.xs.now c.args.ys.now c.loop-i.i (omega arith) (omega arith) ∙ sym c.loop-i.invariant.1

pub compare_trees-returns-then-xs-ys : goal.compare_trees-returns-then-xs-ys
compare_trees-returns-then-xs-ys t c =
    shorter tree_cmp c.args.xs.now c.args.ys.now c.loop-i.i (omega arith) (omega arith) ∙ sym c.loop-i.invariant.1
