use Rattle.std.proofs.Common.{◌≡◌, ◌+◌, List, drop, length, Ok, Err, ap, sym, ◌∙◌, subst, arith}
use Rattle.std.proofs.lemmas.Result.{err_from_is_err_and}
use Rattle.std.specs.Prelude.{◌==◌}
use Rattle.ode_value.specs.declared.binding.Param.{Param}
use Rattle.ode_value.specs.declared.statement.Expr.{Expr}
use Rattle.ode_types.specs.Answers.{Answers}
use Rattle.ode_types.specs.Checks.{Check, ◌>>=◌, ◌>>◌, in_turn, needs}
use Rattle.ode_types.specs.Rights.{argument, arguments}
use Rattle.ode_types.specs.Scopes.{Scope, wrong}
use Rattle.ode_typing.specs.Places.{scope_of}
use Rattle.ode_types.proofs.TurnLaws.{none_left, some_left, turn-end, turn-stops}
use Rattle.ode_typing.proofs.rights.arguments.Goals as goal

-- what comes behind the arguments
abbrev ends : Scope → List Expr × List Param → Check (List Expr)
ends scope r = needs (wrong scope) (length r.1 == 0) >> Ok r.0

pub returns-in_err-next : goal.returns-in_err-next
unfolding arguments
returns-in_err-next c =
    let scope = scope_of c.args.place.now c.args.locals.now in
    let p = err_from_is_err_and c.from_residual.result c.from_residual.ensures.1 in
    rw (p.1, p.2) (turn-stops (argument scope) (in_turn (argument scope) c.args.params.now c.args.args.now) (ends scope)
    c.loop-i.checked (drop c.loop-i.i c.args.params.now) (drop (c.loop-i.i + 1) c.args.params.now) c.args.args.now c.loop-i.i c.index-args-i.result c.in_err-next.field-0.0
    c.loop-i-test.true c.index-args-i.is c.loop-i.invariant c.in_err-next.ensures)

pub returns-then-args-params : goal.returns-then-args-params
unfolding arguments
returns-then-args-params c =
    let scope = scope_of c.args.place.now c.args.locals.now in
    let done = turn-end (argument scope) (in_turn (argument scope) c.args.params.now c.args.args.now) c.loop-i.checked (drop c.loop-i.i c.args.params.now) c.args.args.now c.loop-i.i (omega arith) c.loop-i.invariant in
    let left = some_left c.args.params.now c.loop-i.i (omega arith) in
    let is : arguments scope c.args.params.now c.args.args.now ≡ Err (wrong scope) = ap (λ m. m >>= ends scope) done ∙ ap (λ b. needs (wrong scope) b >> Ok c.loop-i.checked) left in
    subst (λ (m : Check (List Expr)). Answers m c.wrong.result) (sym is) c.wrong.ensures

pub returns : goal.returns
unfolding arguments
returns c =
    let scope = scope_of c.args.place.now c.args.locals.now in
    let done = turn-end (argument scope) (in_turn (argument scope) c.args.params.now c.args.args.now) c.loop-i.checked (drop c.loop-i.i c.args.params.now) c.args.args.now c.loop-i.i (omega arith) c.loop-i.invariant in
    let left = none_left c.args.params.now c.loop-i.i (omega arith) in
    ap (λ m. m >>= ends scope) done ∙ ap (λ b. needs (wrong scope) b >> Ok c.loop-i.checked) left
