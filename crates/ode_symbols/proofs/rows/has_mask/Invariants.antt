use Rattle.std.proofs.Common.{◌≡◌, false, take}
use Rattle.std.specs.List.{list_any}
use Rattle.ode_value.specs.Same.{same_expr}
use Rattle.ode_symbols.proofs.rows.has_mask.Given as goal

-- none of those before is the same
abbrev pub invariant-loop-x : goal.invariant-loop-x
invariant-loop-x l = list_any (λ y. same_expr y l.mask) (take l.x-index l.masks) ≡ false
