-- Evaluation by one level.
use Rattle.std.proofs.Common.{◌≡◌, ◌++◌, ℕ, List, [], Result, Ok, Err, append_assoc, refl, sym, ap, subst, ◌∙◌}
use Rattle.std.proofs.lemmas.List.{append-nil}
use Rattle.ode_value.specs.declared.statement.Expr.{Expr, out-Expr, map-Expr, fold_out-Expr, the_lemmas}
use Rattle.ode_value.specs.declared.arithmetic.Fault.{Fault}
use Rattle.ode_value.specs.declared.operator.BinOp.{BinOp}
use Rattle.ode_value.specs.declared.operator.BinOp.TheVariants.{Add, Sub, Mul, Div, Rem, Eq, Ne, Lt, Le, Gt, Ge, And, Or}
use Rattle.ode_value.specs.declared.value.Value.{Value}
use Rattle.ode_value.specs.Masks.{with_value}
use Rattle.ode_expr.specs.Answers.{Answers, LookedAs}
use Rattle.ode_expr.specs.declared.stop.EvalStop.{EvalStop}
use Rattle.ode_expr.specs.declared.stop.EvalStop.TheVariants as stop
use Rattle.ode_value.specs.Evaluation.{Evaluation, evaluation_of, evaluate, object_in, right_looks}
use Rattle.ode_value.proofs.LooksLaws.{looks_out}

pub evaluate_out : (e : Expr) → evaluate e ≡ evaluation_of (map-Expr Expr Evaluation evaluate (out-Expr e))
unfolding evaluate
evaluate_out e = fold_out-Expr Evaluation evaluation_of e

pub ruleset evaluations = (the_lemmas, evaluate_out)

pub ruleset looked_parts = (the_lemmas, looks_out)

-- what stops a part stops the whole
pub stops_through : {S : Type 0} (meant : Result Value Fault) (next : Value → Result Value Fault) (s : EvalStop S) → Answers {T = Value} meant (Err s) → Answers {T = Value} (with_value meant next) (Err s)
stops_through meant next (stop.Fault fault) h = ap (λ m. with_value m next) h
stops_through meant next (stop.Frame s) h = tt
stops_through meant next stop.Memory h = tt

-- where nothing is looked at
pub none_behind : (looked : List ℕ) → looked ++ [] ≡ looked
none_behind looked = append-nil looked

pub looks_nothing : {S : Type 0} (result : Result Value (EvalStop S)) (looked : List ℕ) → LookedAs result looked (looked ++ [])
looks_nothing (Ok v) looked = sym (append-nil looked)
looks_nothing (Err (stop.Fault fault)) looked = sym (append-nil looked)
looks_nothing (Err (stop.Frame s)) looked = tt
looks_nothing (Err stop.Memory) looked = tt

-- what is looked at behind a part
pub looks_behind : {S : Type 0} (result : Result Value (EvalStop S)) (new mid was ids more : List ℕ) → mid ≡ was ++ ids → LookedAs result new (mid ++ more) → LookedAs result new (was ++ (ids ++ more))
looks_behind result new mid was ids more is looks =
    let joined : mid ++ more ≡ was ++ (ids ++ more) = ap (λ (l : List ℕ). l ++ more) is ∙ simp append_assoc in
    subst (λ (l : List ℕ). LookedAs result new l) joined looks

-- where a part stops the whole, nothing more is looked at
nothing_behind : (looked was ids more : List ℕ) → more ≡ [] → looked ≡ was ++ ids → looked ≡ was ++ (ids ++ more)
nothing_behind looked was ids more none is = is ∙ ap (λ (l : List ℕ). was ++ l) (sym (append-nil ids) ∙ ap (λ (l : List ℕ). ids ++ l) (sym none))

pub object_stops : {S : Type 0} (s : EvalStop S) (meant : Result Value Fault) (looked was ids : List ℕ) → Answers {T = Value} meant (Err s) → LookedAs {T = Value} (Err s) looked (was ++ ids)
    → LookedAs {T = Value} (Err s) looked (was ++ (ids ++ object_in meant))
object_stops (stop.Fault fault) meant looked was ids is looks = nothing_behind looked was ids (object_in meant) (ap object_in is) looks
object_stops (stop.Frame s) meant looked was ids is looks = tt
object_stops stop.Memory meant looked was ids is looks = tt

right_none : (op : BinOp) (fault : Fault) (more : List ℕ) → right_looks op (Err fault) more ≡ []
right_none Add fault more = refl
right_none Sub fault more = refl
right_none Mul fault more = refl
right_none Div fault more = refl
right_none Rem fault more = refl
right_none Eq fault more = refl
right_none Ne fault more = refl
right_none Lt fault more = refl
right_none Le fault more = refl
right_none Gt fault more = refl
right_none Ge fault more = refl
right_none And fault more = refl
right_none Or fault more = refl

pub right_stops : {S : Type 0} (s : EvalStop S) (op : BinOp) (meant : Result Value Fault) (looked was ids more : List ℕ) → Answers {T = Value} meant (Err s) → LookedAs {T = Value} (Err s) looked (was ++ ids)
    → LookedAs {T = Value} (Err s) looked (was ++ (ids ++ right_looks op meant more))
right_stops (stop.Fault fault) op meant looked was ids more is looks =
    nothing_behind looked was ids (right_looks op meant more) (ap (λ (m : Result Value Fault). right_looks op m more) is ∙ right_none op fault more) looks
right_stops (stop.Frame s) op meant looked was ids more is looks = tt
right_stops stop.Memory op meant looked was ids more is looks = tt
