use Rattle.std.proofs.Common.{arith}
use Rattle.std.proofs.lemmas.Grind.{common_steps}
use Rattle.ode_lex.proofs.Digits.{grows}
use Rattle.ode_lex.proofs.number.number_of.Goals as goal

pub overflow_sub-digit : goal.overflow_sub-digit
overflow_sub-digit c = (grows c.args.digits.now c.loop-digit.digit-index c.requires (omega arith)).digit

pub returns-in_err-checked_mul : goal.returns-in_err-checked_mul
returns-in_err-checked_mul c =
    let more = grows c.args.digits.now c.loop-digit.digit-index c.requires (omega arith) in
    grind (arith, common_steps)

pub returns-in_err-number : goal.returns-in_err-number
returns-in_err-number c =
    let more = grows c.args.digits.now c.loop-digit.digit-index c.requires (omega arith) in
    grind (arith, common_steps)

pub loop-digit-preserved : goal.loop-digit-preserved
loop-digit-preserved c =
    let more = grows c.args.digits.now c.loop-digit.digit-index c.requires (omega arith) in
    grind (arith, common_steps)

pub returns : goal.returns
returns c = grind (arith, common_steps)
