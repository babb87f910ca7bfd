use Rattle.std.proofs.Common.{◌∙◌, ap}
use Rattle.std.proofs.lemmas.Result.{err_from_is_err_and}
use Rattle.ode_asksyn.specs.declared.query.Query.{Query}
use Rattle.ode_query.specs.Checking.{check_query}
use Rattle.ode_types.specs.Checks.{Check}
use Rattle.ode_questions.proofs.StepLaws.{check_calm, check_refused, checking, over_calm, over_memory, over_ok, since_calm, since_none}
use Rattle.ode_questions.proofs.TellingLaws.{checked_over, literals_turned}
use Rattle.ode_questions.proofs.queries.checked.Goals as goal

pub returns-in_err-refs-clause-over : goal.returns-in_err-refs-clause-over
returns-in_err-refs-clause-over g c lang entries w held kept known =
    let p = err_from_is_err_and c.from_residual.result c.from_residual.ensures.1 in
    rw (p.1, p.2) (over_memory _ _ kept)

pub returns-in_err-refs-clause-since : goal.returns-in_err-refs-clause-since
returns-in_err-refs-clause-since g c =
    let p = err_from_is_err_and c.from_residual.result c.from_residual.ensures.1 in
    rw (p.1, p.2) (since_none _ _ c.requires.live)

pub returns-in_err-literals-clause-over : goal.returns-in_err-literals-clause-over
returns-in_err-literals-clause-over g c lang entries w held kept known =
    let p = err_from_is_err_and c.from_residual-in_err-literals.result c.from_residual-in_err-literals.ensures.1 in
    rw (p.1, p.2) (literals_turned w.bones c.args.q.now c.as_slice.result.now c.in_err-literals.field-0.0 _ (c.as_slice.ensures ∙ c.in_ok-refs.ensures) (c.in_err-literals.ensures.over lang entries w held kept))

pub returns-in_err-literals-clause-since : goal.returns-in_err-literals-clause-since
returns-in_err-literals-clause-since g c =
    let p = err_from_is_err_and c.from_residual-in_err-literals.result c.from_residual-in_err-literals.ensures.1 in
    rw (p.1, p.2) c.in_err-literals.ensures.since

pub returns-in_err-q-clause-over : goal.returns-in_err-q-clause-over
returns-in_err-q-clause-over g c lang entries w held kept known =
    let p = err_from_is_err_and c.from_residual-in_err-q.result c.from_residual-in_err-q.ensures.1 in
    let over = c.in_ok-literals.ensures.over lang entries w held kept in
    let stop = c.in_err-q.field-0.0 in
    rw (p.1, p.2) (checked_over w.bones c.args.q.now c.as_slice.result.now c.in_ok-literals.literals c.args.classes.now _ _ (c.as_slice.ensures ∙ c.in_ok-refs.ensures) over.says known
    (over_calm _ _ _ (check_refused (check_query c.args.classes.now c.in_ok-literals.literals c.args.q.now) stop c.in_err-q.ensures) (check_calm stop) over.keeps))

pub returns-in_err-q-clause-since : goal.returns-in_err-q-clause-since
returns-in_err-q-clause-since g c =
    let p = err_from_is_err_and c.from_residual-in_err-q.result c.from_residual-in_err-q.ensures.1 in
    rw (p.1, p.2) (since_calm _ _ _ _ (check_calm c.in_err-q.field-0.0) c.in_ok-literals.ensures.since)

pub returns-clause-over : goal.returns-clause-over
returns-clause-over g c lang entries w held kept known =
    let over = c.in_ok-literals.ensures.over lang entries w held kept in
    checked_over w.bones c.args.q.now c.as_slice.result.now c.in_ok-literals.literals c.args.classes.now _ _ (c.as_slice.ensures ∙ c.in_ok-refs.ensures) over.says known
    (over_ok _ c.in_ok-q.q _ (ap (λ (m : Check Query). checking m) c.in_ok-q.ensures) over.keeps)

pub returns-clause-since : goal.returns-clause-since
returns-clause-since g c = c.in_ok-literals.ensures.since
