use Rattle.std.proofs.Common.{◌<◌, ◌≤◌, ◌^◌, ℕ, List, length, drop, arith, length-drop}
use Rattle.std.proofs.Math.Pow.{pow_mono}
use Rattle.ode_value.specs.declared.statement.Expr.{Expr}
use Rattle.ode_value.specs.declared.value.Value.{Value}
use Rattle.ode_value.specs.Symbols.{composite_bits}
use Rattle.ode_value.proofs.SymbolLaws.{composite-below}
use Rattle.ode_symbols.proofs.holding.composite_number.Goals as goal

-- the number of what is left is within what all have
within : (masks : List Expr) (params own : List Value) (i : ℕ) → composite_bits (drop i masks) params own < 2 ^ length masks
within masks params own i =
    let below = composite-below (drop i masks) params own in
    let shorter : length (drop i masks) ≤ length masks = omega (arith, length-drop i masks) in
    let less : 2 ^ length (drop i masks) ≤ 2 ^ length masks = pow_mono shorter in
    omega (arith, below, less)

pub overflow_mul-number : goal.overflow_mul-number
overflow_mul-number c =
    let b = within c.args.masks.now c.args.params.now c.args.own.now c.loop-i.i in
    omega (arith, b, c.loop-i.invariant.1, c.requires)

pub overflow_add-number : goal.overflow_add-number
overflow_add-number c =
    let b = within c.args.masks.now c.args.params.now c.args.own.now c.loop-i.i in
    omega (arith, b, c.loop-i.invariant.1, c.requires)

pub returns-clause-below : goal.returns-clause-below
returns-clause-below c =
    let b = within c.args.masks.now c.args.params.now c.args.own.now c.loop-i.i in
    omega (arith, b, c.loop-i.invariant.1)
