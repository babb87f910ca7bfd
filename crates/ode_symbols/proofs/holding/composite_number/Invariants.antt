use Rattle.std.proofs.Common.{◌≡◌, ◌≤◌, drop, length}
use Rattle.ode_value.specs.Symbols.{composite_bits}
use Rattle.ode_symbols.proofs.holding.composite_number.Given as goal

-- the number of the masks from here on
abbrev pub invariant-loop-i : goal.invariant-loop-i
invariant-loop-i l = (l.i ≤ length l.masks) × (l.number ≡ composite_bits (drop l.i l.masks) l.params l.own)

abbrev pub decreases-loop-i : goal.decreases-loop-i
decreases-loop-i l = l.i
