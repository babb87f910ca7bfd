use Rattle.std.proofs.Common.{arith, ap, ◌∙◌, subst}
use Rattle.std.specs.Str.Parse.{AllDigits, digits_value}
use Rattle.std.proofs.lemmas.Int.Digits.{digits_more, digits_value_more}
use Rattle.std.proofs.lemmas.List.{take_all}
use Rattle.ode_value.proofs.Decimals.{stops}
use Rattle.ode_value.proofs.digits.value_of.Goals as goal

pub returns-in_err-value : goal.returns-in_err-value
returns-in_err-value c =
    rw c.from_residual.ensures (stops _ _ _ c.loop-digit-test.true c.loop-digit.invariant.value c.in_err-value.ensures)

pub loop-digit-preserved : goal.loop-digit-preserved
loop-digit-preserved c = record {
  digits = digits_more 10 _ _ c.loop-digit-test.true c.loop-digit.invariant.digits c.in_ok-value.ensures.0.0;
  value =
      let more = digits_value_more 10 c.args.digits.now c.loop-digit.digit-index c.loop-digit-test.true in
      omega (arith, c.in_ok-value.ensures.1);
  small = omega (arith, c.in_ok-value.ensures);
}

pub returns : goal.returns
returns c =
    let all = take_all _ c.args.digits.now c.loop-digit-test.false in
    let value = c.loop-digit.invariant.value ∙ ap (digits_value 10) all in
    ((subst (AllDigits 10) all c.loop-digit.invariant.digits, omega arith), value)
