use Rattle.std.proofs.Common.{◌≡◌, take}
use Rattle.ode_trees.proofs.copying.+copy.Given as goal

-- those so far are copied
abbrev pub invariant-copy_all-loop-s : goal.invariant-copy_all-loop-s
invariant-copy_all-loop-s l = l.copies ≡ take l.s-index l.set

abbrev pub invariant-copy_pairs-loop-s : goal.invariant-copy_pairs-loop-s
invariant-copy_pairs-loop-s l = l.copies ≡ take l.s-index l.set
