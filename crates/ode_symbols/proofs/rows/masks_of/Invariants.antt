use Rattle.std.proofs.Common.{◌≡◌, take}
use Rattle.std.specs.Prelude.{filter_map}
use Rattle.ode_value.specs.Same.{same_expr}
use Rattle.ode_value.specs.Symbols.{distinct, mask_of}
use Rattle.ode_symbols.proofs.rows.masks_of.Given as goal

-- the masks of the leaves so far
abbrev pub invariant-loop-leaf : goal.invariant-loop-leaf
invariant-loop-leaf l = l.masks ≡ distinct same_expr (filter_map (mask_of l.kind) (take l.leaf-index l.leaves))
