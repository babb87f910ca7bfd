use Rattle.std.proofs.Common.{◌≡◌, ◌≤◌, drop, length}
use Rattle.std.specs.Prelude.{Some}
use Rattle.ode_value.specs.Masks.{mask_holds}
use Rattle.ode_value.specs.Symbols.{bits_before, composite_bits}
use Rattle.ode_symbols.proofs.holding.number.Given as goal

-- the number of the masks from here on
abbrev pub invariant-loop-i : goal.invariant-loop-i
invariant-loop-i l =
    (l.i ≤ length l.kind_masks)
    × (l.number
    ≡ bits_before (composite_bits l.masks l.params l.own) (λ x. mask_holds (Some x) l.params (record { kind = l.kind; args = l.args; fields = l.own })) (drop l.i l.kind_masks))

abbrev pub decreases-loop-i : goal.decreases-loop-i
decreases-loop-i l = l.i
