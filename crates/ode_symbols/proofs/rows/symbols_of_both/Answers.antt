use Rattle.std.proofs.Common.{◌≤◌, ◌+◌, ◌^◌, arith}
use Rattle.std.proofs.Math.Pow.{pow_mono}
use Rattle.ode_symbols.proofs.rows.symbols_of_both.Goals as goal

pub returns-else-own-lt16 : goal.returns-else-own-lt16
returns-else-own-lt16 c =
    let past : 16 ≤ c.args.own + c.args.masks = omega (arith, c.if-own-lt16.false) in
    let many : 2 ^ 16 ≤ 2 ^ (c.args.own + c.args.masks) = pow_mono past in
    omega (arith, many)
