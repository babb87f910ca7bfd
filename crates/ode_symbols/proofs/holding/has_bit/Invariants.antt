use Rattle.std.proofs.Common.{◌≡◌, drop}
use Rattle.std.specs.Prelude.{Some}
use Rattle.ode_value.specs.Symbols.{has_bit}
use Rattle.ode_symbols.proofs.holding.has_bit.Given as goal

-- what is left of the number says it of the masks from here on
abbrev pub invariant-loop-x : goal.invariant-loop-x
invariant-loop-x l = has_bit l.masks l.number (Some l.mask) ≡ has_bit (drop l.x-index l.masks) l.rest (Some l.mask)
