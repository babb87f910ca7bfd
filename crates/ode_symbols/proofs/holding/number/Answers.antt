use Rattle.std.proofs.Common.{◌<◌, ◌≤◌, ◌+◌, ◌^◌, ℕ, Bool, List, length, drop, arith, length-drop}
use Rattle.std.specs.Prelude.{Some}
use Rattle.std.proofs.Math.Pow.{pow_mono}
use Rattle.ode_value.specs.declared.statement.Expr.{Expr}
use Rattle.ode_value.specs.declared.value.Value.{Value}
use Rattle.ode_value.specs.Masks.{mask_holds}
use Rattle.ode_value.specs.Symbols.{bits_before, composite_bits}
use Rattle.ode_value.proofs.SymbolLaws.{composite-below, number-below}
use Rattle.ode_symbols.proofs.holding.number.Goals as goal

-- the number of what is left is within what all have
within : (holds : Expr → Bool) (kind_masks masks : List Expr) (params own : List Value) (i : ℕ)
    → bits_before (composite_bits masks params own) holds (drop i kind_masks) < 2 ^ (length kind_masks + length masks)
within holds kind_masks masks params own i =
    let below = number-below (composite_bits masks params own) (length masks) (composite-below masks params own) holds (drop i kind_masks) in
    let shorter : length (drop i kind_masks) + length masks ≤ length kind_masks + length masks = omega (arith, length-drop i kind_masks) in
    let less : 2 ^ (length (drop i kind_masks) + length masks) ≤ 2 ^ (length kind_masks + length masks) = pow_mono shorter in
    omega (arith, below, less)

pub composite_number-number-requires : goal.composite_number-number-requires
composite_number-number-requires c =
    let shorter : length c.args.masks.now ≤ length c.args.kind_masks.now + length c.args.masks.now = omega arith in
    let less : 2 ^ length c.args.masks.now ≤ 2 ^ (length c.args.kind_masks.now + length c.args.masks.now) = pow_mono shorter in
    omega (arith, less, c.requires)

pub overflow_mul-number : goal.overflow_mul-number
overflow_mul-number c =
    let holds = λ (x : Expr). mask_holds (Some x) c.args.params.now (record { kind = c.args.kind.now; args = c.args.args.now; fields = c.args.own.now }) in
    let b = within holds c.args.kind_masks.now c.args.masks.now c.args.params.now c.args.own.now c.loop-i.i in
    omega (arith, b, c.loop-i.invariant.1, c.requires)

pub overflow_add-number : goal.overflow_add-number
overflow_add-number c =
    let holds = λ (x : Expr). mask_holds (Some x) c.args.params.now (record { kind = c.args.kind.now; args = c.args.args.now; fields = c.args.own.now }) in
    let b = within holds c.args.kind_masks.now c.args.masks.now c.args.params.now c.args.own.now c.loop-i.i in
    omega (arith, b, c.loop-i.invariant.1, c.requires)

pub returns-clause-below : goal.returns-clause-below
returns-clause-below c =
    let holds = λ (x : Expr). mask_holds (Some x) c.args.params.now (record { kind = c.args.kind.now; args = c.args.args.now; fields = c.args.own.now }) in
    let b = within holds c.args.kind_masks.now c.args.masks.now c.args.params.now c.args.own.now c.loop-i.i in
    omega (arith, b, c.loop-i.invariant.1)
