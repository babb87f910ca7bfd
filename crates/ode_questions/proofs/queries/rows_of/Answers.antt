use Rattle.std.proofs.lemmas.Result.{err_from_is_err_and}
use Rattle.ode_query.specs.Texts.{answered}
use Rattle.ode_questions.proofs.QueryLaws.{unanswered_over}
use Rattle.ode_questions.proofs.StepLaws.{over_memory}
use Rattle.ode_questions.proofs.TellingLaws.{rows_over}
use Rattle.ode_questions.proofs.queries.rows_of.Goals as goal

pub returns-in_err-rows_text-in-Ok-clause-over : goal.returns-in_err-rows_text-in-Ok-clause-over
returns-in_err-rows_text-in-Ok-clause-over g c lang entries w held kept known =
    let p = err_from_is_err_and c.from_residual.result c.from_residual.ensures.1 in
    rw (p.1, p.2) (over_memory _ _ (c.in-Ok.ensures.holds lang entries w held kept known))

pub returns-in_ok-rows_text-in-Ok-clause-over : goal.returns-in_ok-rows_text-in-Ok-clause-over
returns-in_ok-rows_text-in-Ok-clause-over g c lang entries w held kept known =
    rows_over (answered w.bones c.args.q.now) c.in-Ok.rows c.as_slice.result.now c.in_ok-rows_text-in-Ok.field-0 _ (c.in-Ok.ensures.rows lang entries w held kept known) c.as_slice.ensures c.in_ok-rows_text-in-Ok.ensures
    (c.in-Ok.ensures.holds lang entries w held kept known)

pub returns-in-Err-clause-over : goal.returns-in-Err-clause-over
returns-in-Err-clause-over g c lang entries w held kept known =
    unanswered_over (answered w.bones c.args.q.now) _ c.in-Err.error c.unanswered.result (c.in-Err.ensures.rows lang entries w held kept known) c.unanswered.ensures (c.in-Err.ensures.holds lang entries w held kept known)
