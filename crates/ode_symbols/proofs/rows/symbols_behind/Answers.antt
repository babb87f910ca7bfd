use Rattle.std.proofs.Common.{◌≤◌, ◌+◌, ◌^◌, arith}
use Rattle.std.proofs.Math.Pow.{pow_mono}
use Rattle.ode_symbols.proofs.rows.symbols_behind.Goals as goal

pub returns-else-masks-lt16 : goal.returns-else-masks-lt16
returns-else-masks-lt16 c =
    let past : 16 ≤ c.args.few + c.args.masks = omega (arith, c.if-masks-lt16.false) in
    let many : 2 ^ 16 ≤ 2 ^ (c.args.few + c.args.masks) = pow_mono past in
    omega (arith, many)
