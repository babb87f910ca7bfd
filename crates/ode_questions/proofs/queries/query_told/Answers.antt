use Rattle.std.proofs.Common.{ap}
use Rattle.std.proofs.lemmas.Result.{err_from_is_err_and}
use Rattle.ode_asksyn.specs.Reading.{query_of}
use Rattle.ode_asksyn.specs.declared.query.Query.{Query}
use Rattle.ode_value.specs.Answers.{Answer}
use Rattle.ode_questions.proofs.StepLaws.{over_calm, read_calm, read_refused, since_calm, since_none, since_on}
use Rattle.ode_questions.proofs.TellingLaws.{query_answered, query_unchecked, query_unread}
use Rattle.ode_questions.specs.Saying.{refusing}
use Rattle.ode_questions.proofs.queries.query_told.Goals as goal

pub returns-in_err-q-clause-over : goal.returns-in_err-q-clause-over
returns-in_err-q-clause-over g c lang entries w held kept known =
    let p = err_from_is_err_and c.from_residual.result c.from_residual.ensures.1 in
    let stop = c.in_err-q.field-0.0 in
    rw (p.1, p.2) (query_unread w.bones c.args.text.now _ _ (over_calm _ _ _ (read_refused (query_of c.args.text.now) stop c.in_err-q.ensures) (read_calm stop) kept))

pub returns-in_err-q-clause-since : goal.returns-in_err-q-clause-since
returns-in_err-q-clause-since g c =
    let p = err_from_is_err_and c.from_residual.result c.from_residual.ensures.1 in
    rw (p.1, p.2) (since_calm _ _ _ _ (read_calm c.in_err-q.field-0.0) (since_none _ _ c.requires.live))

pub returns-in_err-q-2-clause-over : goal.returns-in_err-q-2-clause-over
returns-in_err-q-2-clause-over g c lang entries w held kept known =
    let p = err_from_is_err_and c.from_residual-in_err-q-2.result c.from_residual-in_err-q-2.ensures.1 in
    rw (p.1, p.2) (query_unchecked w.bones c.args.text.now c.in_ok-q.q c.in_err-q-2.field-0.0 _ (ap (λ (a : Answer Query). refusing a) c.in_ok-q.ensures) (c.in_err-q-2.ensures.over lang entries w held kept known))

pub returns-in_err-q-2-clause-since : goal.returns-in_err-q-2-clause-since
returns-in_err-q-2-clause-since g c =
    let p = err_from_is_err_and c.from_residual-in_err-q-2.result c.from_residual-in_err-q-2.ensures.1 in
    rw (p.1, p.2) c.in_err-q-2.ensures.since

pub returns-clause-over : goal.returns-clause-over
returns-clause-over g c lang entries w held kept known =
    let over = c.in_ok-q-2.ensures.over lang entries w held kept known in
    query_answered w.bones c.args.text.now c.in_ok-q.q c.in_ok-q-2.q _ _ (ap (λ (a : Answer Query). refusing a) c.in_ok-q.ensures) over.says (c.rows_of.ensures.over lang entries w held over.keeps known)

pub returns-clause-since : goal.returns-clause-since
returns-clause-since g c = since_on _ _ _ _ _ _ c.in_ok-q-2.ensures.since c.rows_of.ensures.since
