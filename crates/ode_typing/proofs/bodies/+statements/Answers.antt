use Rattle.std.proofs.Common.{ℕ, List, Ok, ap, ◌∙◌, take, arith}
use Rattle.std.proofs.lemmas.Result.{err_from_is_err_and}
use Rattle.ode_value.specs.declared.statement.Stmt.{Stmt}
use Rattle.ode_types.specs.Bodies.{body_checked, next_checked}
use Rattle.ode_types.specs.Checks.{Check, ◌>>=◌, in_turn}
use Rattle.ode_types.specs.Scopes.{Scope}
use Rattle.ode_typing.specs.Places.{scope_of}
use Rattle.ode_typing.proofs.StatementLaws.{behind-forget, behind_body, if-first, if-made, if-second}
use Rattle.ode_types.proofs.TurnLaws.{turn-end, turn-stops-with}
use Rattle.ode_typing.proofs.bodies.+statements.Goals as goal

pub check_body-returns-in_err-check_stmt-clause-answers : goal.check_body-returns-in_err-check_stmt-clause-answers
unfolding body_checked
check_body-returns-in_err-check_stmt-clause-answers t c =
    let scope = scope_of c.args.place.now c.args.locals.now in
    let p = err_from_is_err_and c.from_residual.result c.from_residual.ensures.1 in
    rw (p.1, p.2) (turn-stops-with next_checked (in_turn next_checked scope c.args.body.now) (behind_body scope)
    c.loop-s.checked (scope_of c.args.place.now c.loop-s.locals) (scope_of c.args.place.now c.check_stmt.new.locals) (scope_of c.args.place.now c.check_stmt.new.locals)
    c.args.body.now c.loop-s.s-index c.s-item.result c.in_err-check_stmt.field-0.0
    c.loop-s-test.true c.s-item.is c.loop-s.invariant.checked c.in_err-check_stmt.ensures.answers)

pub check_body-returns-clause-answers : goal.check_body-returns-clause-answers
unfolding body_checked
check_body-returns-clause-answers t c =
    let scope = scope_of c.args.place.now c.args.locals.now in
    let give : Scope → Check (List Stmt × Scope) = λ s. Ok (c.loop-s.checked, s) in
    let done = turn-end next_checked (in_turn next_checked scope c.args.body.now) c.loop-s.checked (scope_of c.args.place.now c.loop-s.locals) c.args.body.now c.loop-s.s-index (omega arith) c.loop-s.invariant.checked in
    let seen = c.forget.ensures.seen ∙ ap (λ (n : ℕ). take n c.loop-s.locals.seen) c.len-seen.ensures ∙ c.loop-s.invariant.kept in
    ap (λ m. m >>= behind_body scope) done ∙ ap give (behind-forget c.args.place.now c.args.locals.now c.loop-s.locals c.forget.new.self seen c.forget.ensures.next)

pub check_stmt-returns-in_err-first-in-If-clause-answers : goal.check_stmt-returns-in_err-first-in-If-clause-answers
check_stmt-returns-in_err-first-in-If-clause-answers t c =
    let scope = scope_of c.args.place.now c.args.locals.now in
    let p = err_from_is_err_and c.from_residual-in_err-first-in-If.result c.from_residual-in_err-first-in-If.ensures.1 in
    let left = scope_of c.args.place.now c.check_body.new.locals in
    rw (p.1, p.2) (if-first c.args.s.now c.in-If.test c.in_ok-test-in-If.test c.in-If.first c.in-If.second scope c.in-If.is c.in_ok-test-in-If.ensures
    c.as_slice.result.now left left c.in_err-first-in-If.field-0.0 c.as_slice.ensures c.in_err-first-in-If.ensures.answers)

pub check_stmt-returns-in_err-second-in-If-clause-answers : goal.check_stmt-returns-in_err-second-in-If-clause-answers
check_stmt-returns-in_err-second-in-If-clause-answers t c =
    let scope = scope_of c.args.place.now c.args.locals.now in
    let p = err_from_is_err_and c.from_residual-in_err-second-in-If.result c.from_residual-in_err-second-in-If.ensures.1 in
    let left = scope_of c.args.place.now c.check_body-in-If.new.locals in
    rw (p.1, p.2) (if-second c.args.s.now c.in-If.test c.in_ok-test-in-If.test c.in-If.first c.in-If.second scope c.in-If.is c.in_ok-test-in-If.ensures
    c.as_slice.result.now c.as_slice-in-If.result.now c.in_ok-first-in-If.first (scope_of c.args.place.now c.check_body.new.locals) c.as_slice.ensures c.in_ok-first-in-If.ensures.answers c.as_slice-in-If.ensures
    left left c.in_err-second-in-If.field-0.0 c.in_err-second-in-If.ensures.answers)

pub check_stmt-returns-in_ok-second-in-If-clause-answers : goal.check_stmt-returns-in_ok-second-in-If-clause-answers
check_stmt-returns-in_ok-second-in-If-clause-answers t c =
    let scope = scope_of c.args.place.now c.args.locals.now in
    if-made c.args.s.now c.in-If.test c.in_ok-test-in-If.test c.in-If.first c.in-If.second scope c.in-If.is c.in_ok-test-in-If.ensures
    c.as_slice.result.now c.as_slice-in-If.result.now c.in_ok-first-in-If.first (scope_of c.args.place.now c.check_body.new.locals) c.as_slice.ensures c.in_ok-first-in-If.ensures.answers c.as_slice-in-If.ensures
    c.in_ok-second-in-If.second (scope_of c.args.place.now c.check_body-in-If.new.locals) c.into_inner-in-If.result c.into_inner-in-If.ensures c.in_ok-second-in-If.ensures.answers
    c.boxed-in-If.result c.boxed-in-If.ensures
