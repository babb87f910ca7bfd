use Rattle.std.proofs.Common.{arith, rules, ◌≡◌, ◌∙◌, Err, Ok, ⊎_elim, subst, sym}
use Rattle.ode_host.proofs.Moments.{looks_joined}
use Rattle.ode_query.proofs.RowLaws.{end_of, next_of, stops_of}
use Rattle.ode_query.proofs.combination.values_of.Goals as goal
use Rattle.ode_query.specs.Answers.{Says}
use Rattle.ode_query.specs.Rows.{frame_of, values_of}
use Rattle.ode_value.specs.Evaluation.{Frame, evaluate}
use Rattle.ode_value.specs.declared.statement.Expr.{Expr}

pub returns-in_err-value-clause-value : goal.returns-in_err-value-clause-value
returns-in_err-value-clause-value g c = λ base b numbers held reads same.
    let why = c.in_err-value.field-0.0 in
    let is : c.from_residual.result ≡ Err why = search rules in
    let says = c.in_err-value.ensures.value base b (c.loop-e.invariant.holds base b held reads) reads in
    subst (Says (values_of b c.args.es.now numbers)) (sym is)
    (stops_of (λ (e : Expr). evaluate e b (frame_of numbers)) (values_of b c.args.es.now numbers) c.loop-e.values c.args.es.now c.loop-e.e-index c.e-item.result why c.loop-e-test.true c.e-item.is
    (subst (λ (frame : Frame). Says (evaluate c.e-item.result b frame) (Err why)) same says) (c.loop-e.invariant.rest base b numbers held reads same))

pub loop-e-preserved : goal.loop-e-preserved
loop-e-preserved g c = record {
  live = c.in_ok-value.ensures.usable;
  looks = looks_joined _ _ _ c.loop-e.invariant.looks c.in_ok-value.ensures.looks;
  faults = ⊎_elim (λ err. cc (err)) (λ same. same ∙ c.loop-e.invariant.faults) c.in_ok-value.ensures.cause.calm;
  holds = λ base b held reads. c.in_ok-value.ensures.holds base b (c.loop-e.invariant.holds base b held reads) reads;
  rest = λ base b numbers held reads same.
      let says = c.in_ok-value.ensures.value base b (c.loop-e.invariant.holds base b held reads) reads in
      next_of (λ (e : Expr). evaluate e b (frame_of numbers)) (values_of b c.args.es.now numbers) c.loop-e.values c.args.es.now c.loop-e.e-index c.push.new.self c.e-item.result c.in_ok-value.value
      c.loop-e-test.true c.e-item.is (subst (λ (frame : Frame). evaluate c.e-item.result b frame ≡ Ok c.in_ok-value.value) same says) c.in_ok-push.ensures.ok (c.loop-e.invariant.rest base b numbers held reads same);
}

pub returns-clause-value : goal.returns-clause-value
returns-clause-value g c = λ base b numbers held reads same.
    end_of (λ (e : Expr). evaluate e b (frame_of numbers)) (values_of b c.args.es.now numbers) c.loop-e.values c.args.es.now c.loop-e.e-index (omega arith) (c.loop-e.invariant.rest base b numbers held reads same)
