-- Typing by one level, and checks that follow one another.
use Rattle.std.proofs.Common.{◌≡◌, Err, ap}
use Rattle.ode_value.specs.declared.statement.Expr.{Expr, out-Expr, map-Expr, fold_out-Expr, the_lemmas}
use Rattle.ode_types.specs.Answers.{Answers, AnswersWith, Leaves}
use Rattle.ode_types.specs.Checks.{Check, ◌>>=◌}
use Rattle.ode_types.specs.Typing.{Typing, typed, typing_of}
use Rattle.ode_types.specs.declared.stop.CheckStop.{CheckStop}
use Rattle.ode_types.specs.declared.stop.CheckStop.TheVariants as stop

pub typed_out : (e : Expr) → typed e ≡ typing_of (map-Expr Expr Typing typed (out-Expr e))
unfolding typed
typed_out e = fold_out-Expr Typing typing_of e

-- what stops a part stops the whole
pub stops_through : {R S : Type 0} (meant : Check R) (next : R → Check S) (s : CheckStop) → Answers {T = R} meant (Err s) → Answers {T = S} (meant >>= next) (Err s)
stops_through meant next (stop.Broken e) h = ap (λ m. m >>= next) h
stops_through meant next stop.Memory h = tt

pub stops_leaving : {R S : Type 0} (meant : Check R) (next : R → Check S) (left : R) (s : CheckStop) → Leaves {S = R} meant left (Err s) → Answers {T = S} (meant >>= next) (Err s)
stops_leaving meant next left (stop.Broken e) h = ap (λ m. m >>= next) h
stops_leaving meant next left stop.Memory h = tt

pub stops_left : {R : Type 0} (meant : Check R) (left : R) (s : CheckStop) → Leaves {S = R} meant left (Err s) → Answers {T = R} meant (Err s)
stops_left meant left (stop.Broken e) h = h
stops_left meant left stop.Memory h = tt

pub stops_with : {R S T : Type 0} (meant : Check R) (next : R → Check (S × T)) (t : T) (s : CheckStop) → Answers {T = R} meant (Err s) → AnswersWith {T = S} {S = T} (meant >>= next) t (Err s)
stops_with meant next t (stop.Broken e) h = ap (λ m. m >>= next) h
stops_with meant next t stop.Memory h = tt

pub stops_behind : {R S T U : Type 0} (meant : Check (R × T)) (next : R × T → Check (S × U)) (t : T) (u : U) (s : CheckStop) → AnswersWith {T = R} {S = T} meant t (Err s) → AnswersWith {T = S} {S = U} (meant >>= next) u (Err s)
stops_behind meant next t u (stop.Broken e) h = ap (λ m. m >>= next) h
stops_behind meant next t u stop.Memory h = tt

pub ruleset typings = (the_lemmas, typed_out, stops_through)
