use Rattle.std.proofs.Common.{◌≡◌, map, take}
use Rattle.ode_value.specs.Marks.{Leaf}
use Rattle.ode_value.specs.Same.{same_kind}
use Rattle.ode_value.specs.Symbols.{distinct}
use Rattle.ode_symbols.proofs.rows.kinds_of.Given as goal

-- the kinds of the leaves so far
abbrev pub invariant-loop-leaf : goal.invariant-loop-leaf
invariant-loop-leaf l = l.kinds ≡ distinct same_kind (map (λ (x : Leaf). x.0) (take l.leaf-index l.leaves))
