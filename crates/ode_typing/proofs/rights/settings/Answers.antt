use Rattle.std.proofs.Common.{ℕ, List, [], ◌∷◌, ◌++◌, Ok, Err, ap, subst, arith}
use Rattle.std.proofs.lemmas.Result.{err_from_is_err_and}
use Rattle.ode_value.specs.declared.statement.Expr.{Expr}
use Rattle.ode_types.specs.Answers.{Answers}
use Rattle.ode_types.specs.Checks.{Check, ◌>>=◌, in_turn}
use Rattle.ode_types.specs.Rights.{next_setting, setting, settings}
use Rattle.ode_typing.specs.Places.{scope_of}
use Rattle.ode_types.proofs.TurnLaws.{turn-end, turn-stops}
use Rattle.ode_types.proofs.TypingLaws.{stops_with}
use Rattle.ode_typing.proofs.rights.settings.Goals as goal

-- what comes behind the fields
abbrev ends : List (List ℕ × Expr) × List (List ℕ × Expr) → Check (List (List ℕ × Expr))
ends r = Ok r.0

pub returns-in_err-next : goal.returns-in_err-next
unfolding settings
returns-in_err-next c =
    let scope = scope_of c.args.place.now c.args.locals.now in
    let class = c.args.class.now in
    let p = err_from_is_err_and c.from_residual.result c.from_residual.ensures.1 in
    let before : List (List ℕ × Expr) = c.loop-set.checked in
    rw (p.1, p.2) (turn-stops (next_setting scope class) (in_turn (next_setting scope class) [] c.args.sets.now) ends
    before before before c.args.sets.now c.loop-set.set-index c.set-item.result c.in_err-next.field-0.0
    c.loop-set-test.true c.set-item.is c.loop-set.invariant
    (stops_with (setting scope class before c.set-item.result) (λ s. Ok (s, before ++ s ∷ [])) before c.in_err-next.field-0.0
    (subst (λ (bs : List (List ℕ × Expr)). Answers {T = List ℕ × Expr} (setting scope class bs c.set-item.result) (Err c.in_err-next.field-0.0)) c.as_slice.ensures c.in_err-next.ensures)))

pub returns : goal.returns
unfolding settings
returns c =
    let scope = scope_of c.args.place.now c.args.locals.now in
    let class = c.args.class.now in
    let before : List (List ℕ × Expr) = c.loop-set.checked in
    let done = turn-end (next_setting scope class) (in_turn (next_setting scope class) [] c.args.sets.now) before before c.args.sets.now c.loop-set.set-index (omega arith) c.loop-set.invariant in
    ap (λ m. m >>= ends) done
