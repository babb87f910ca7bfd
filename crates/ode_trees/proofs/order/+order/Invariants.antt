use Rattle.std.proofs.Common.{◌≡◌, ◌≤◌, length, drop}
use Rattle.ode_value.specs.TreeOrder.{list_cmp, pair_cmp, tree_cmp}
use Rattle.ode_trees.proofs.order.+order.Given as goal

-- the lists compare as their rests do
abbrev pub invariant-compare_trees-loop-i : goal.invariant-compare_trees-loop-i
invariant-compare_trees-loop-i l = (l.i ≤ length l.ys) × (list_cmp tree_cmp l.xs l.ys ≡ list_cmp tree_cmp (drop l.i l.xs) (drop l.i l.ys))

abbrev pub invariant-compare_pairs-loop-i : goal.invariant-compare_pairs-loop-i
invariant-compare_pairs-loop-i l = (l.i ≤ length l.ys) × (list_cmp pair_cmp l.xs l.ys ≡ list_cmp pair_cmp (drop l.i l.xs) (drop l.i l.ys))
