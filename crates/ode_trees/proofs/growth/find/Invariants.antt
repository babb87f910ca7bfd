use Rattle.std.proofs.Common.{◌≡◌, false, take}
use Rattle.std.specs.List.{list_any}
use Rattle.ode_value.specs.TreeOrder.{same_tree}
use Rattle.ode_trees.proofs.growth.find.Given as goal

-- none of those before is the tree
abbrev pub invariant-loop-i : goal.invariant-loop-i
invariant-loop-i l = list_any (same_tree l.s) (take l.i l.trees) ≡ false
