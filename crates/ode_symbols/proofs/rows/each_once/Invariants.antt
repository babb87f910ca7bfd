use Rattle.std.proofs.Common.{◌≡◌, take}
use Rattle.ode_value.specs.Same.{same_expr}
use Rattle.ode_value.specs.Symbols.{distinct}
use Rattle.ode_symbols.proofs.rows.each_once.Given as goal

-- each of those so far
abbrev pub invariant-loop-mask : goal.invariant-loop-mask
invariant-loop-mask l = l.masks ≡ distinct same_expr (take l.mask-index l.all)
