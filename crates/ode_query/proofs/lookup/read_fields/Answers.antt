use Rattle.std.proofs.Common.{arith, ◌∷◌, ◌∙◌, [], Ok, slice_index_or, subst, ⊎_elim}
use Rattle.ode_host.proofs.Moments.{looks_joined}
use Rattle.ode_query.proofs.LookupLaws.{row_added, row_passed, rows_read}
use Rattle.ode_query.proofs.lookup.read_fields.Goals as goal
use Rattle.ode_query.proofs.lookup.read_fields.Goals.{in-Some+in_ok-push, in_default}
use Rattle.ode_query.specs.Answers.{Says}
use Rattle.ode_query.specs.Lookups.{field_at, unless_fault}
use Rattle.ode_query.specs.Rows.{frame_of}
use Rattle.ode_value.specs.Evaluation.{evaluate}
use Rattle.ode_value.specs.declared.statement.Expr.{Expr}

pub loop-number-preserved : goal.loop-number-preserved
loop-number-preserved g c = record {
  live = c.in_ok-value.ensures.usable;
  looks = looks_joined _ _ _ c.loop-number.invariant.looks c.in_ok-value.ensures.looks;
  faults = ⊎_elim (λ err. cc (err)) (λ same. same ∙ c.loop-number.invariant.faults) c.in_ok-value.ensures.cause.calm;
  holds = λ base b held reads. c.in_ok-value.ensures.holds base b (c.loop-number.invariant.holds base b held reads) reads;
  rest = λ base b place held reads first.
      let numbers = c.args.numbers.now in
      let index = c.loop-number.number-index in
      let so = c.loop-number.invariant.rest base b place held reads first in
      let n = slice_index_or numbers index 0 in
      let says : Says (Ok (unless_fault (field_at b place n))) (Ok c.in_ok-value.value) =
      subst (λ (e : Expr). Says (Ok (unless_fault (evaluate e b (frame_of (n ∷ []))))) (Ok c.in_ok-value.value)) first
      (c.in_ok-value.ensures.value base b (c.loop-number.invariant.holds base b held reads) reads) in
      elim c.match-value.branch [
        | in-Some+in_ok-push w ↦ row_added b place numbers index c.loop-number-test.true c.loop-number.rows so w.in-Some.value c.in_ok-value.value c.match-value.rows says w.in-Some.is (w.rows-is ∙ w.in_ok-push.ensures.ok)
        | in_default w ↦ row_passed b place numbers index c.loop-number-test.true c.loop-number.rows so c.in_ok-value.value c.match-value.rows says w.in_default.is w.rows-is
      ];
}

pub returns-clause-value : goal.returns-clause-value
returns-clause-value g c = λ base b place held reads first.
    rows_read b place c.args.numbers.now c.loop-number.number-index c.loop-number.rows (omega arith) (c.loop-number.invariant.rest base b place held reads first)
