-- What is equal wherever a test is true.
use Rattle.std.proofs.Common.{◌≡◌, ℕ, zero, suc, ◌<◌, ◌==◌, List, [], ◌∷◌, ◌++◌, length, Bool, true, false, Option, Some, None, Result, Ok, Err, refl, sym, ap, subst, ◌∙◌, arith}
use Rattle.std.proofs.lemmas.Bool.{and_parts, false≢true}
use Rattle.std.proofs.lemmas.Bool.Decides.{Decides-eqb}
use Rattle.std.proofs.lemmas.Map.Lookups.{exact_bytes, exact_signed}
use Rattle.std.specs.Cmp.Lexicographic.{slice_cmp}
use Rattle.std.specs.Prelude.{IfOk}
use Rattle.std.specs.Option.{IfSome}
use Rattle.std.specs.Ordering.{int_cmp, is_eq, nat_cmp}
use Rattle.std.specs.declared.cmp.Ordering.{Ordering}
use Rattle.std.specs.declared.cmp.Ordering.TheVariants.{Less, Equal, Greater}
use Rattle.ode_expr.proofs.EvaluationLaws.{evaluate_out}
use Rattle.ode_links.specs.Linking.{Agree, IsKnown, IsLink, field_of_local}
use Rattle.ode_links.specs.declared.link.Link.{Link}
use Rattle.ode_value.specs.Evaluation.{Evaluation, Frame, at_ref, combined, evaluate, field_of}
use Rattle.ode_value.specs.Masks.{is_true, side, value_at, with_value}
use Rattle.ode_value.specs.Operators.{binary_value, truth}
use Rattle.ode_value.specs.Same.{same_bool, same_ref, same_version}
use Rattle.ode_value.specs.Worlds.{Bones}
use Rattle.ode_value.specs.declared.arithmetic.Fault.{Fault}
use Rattle.ode_value.specs.declared.operator.BinOp.TheVariants.{And, Eq}
use Rattle.ode_value.specs.declared.statement.Expr.{Expr}
use Rattle.ode_value.specs.declared.statement.Expr.{the_lemmas as the_exprs}
use Rattle.ode_value.specs.declared.statement.Expr.TheVariants as expr
use Rattle.ode_value.specs.declared.value.Ref.{Ref}
use Rattle.ode_value.specs.declared.value.Value.{Value}
use Rattle.ode_value.specs.declared.value.Value.TheVariants as value

-- ---- by one level

pub lit_is : (v : Value) (b : Bones) (frame : Frame) → evaluate (expr.Lit v) b frame ≡ Ok v
lit_is v b frame = ap (λ (m : Evaluation). m b frame) (evaluate_out (expr.Lit v)) ∙ simp the_exprs

local_is : (variable : ℕ) (b : Bones) (frame : Frame) → evaluate (expr.Local variable) b frame ≡ value_at frame.locals variable
local_is variable b frame = ap (λ (m : Evaluation). m b frame) (evaluate_out (expr.Local variable)) ∙ simp the_exprs

slot_is : (e : Expr) (place : ℕ) (b : Bones) (frame : Frame) → evaluate (expr.Slot e place) b frame ≡ with_value (evaluate e b frame) (at_ref (field_of b place))
slot_is e place b frame = ap (λ (m : Evaluation). m b frame) (evaluate_out (expr.Slot e place)) ∙ simp the_exprs

pub field_is : (variable place : ℕ) (b : Bones) (frame : Frame) → evaluate (field_of_local variable place) b frame ≡ with_value (value_at frame.locals variable) (at_ref (field_of b place))
field_is variable place b frame = slot_is (expr.Local variable) place b frame ∙ ap (λ (r : Result Value Fault). with_value r (at_ref (field_of b place))) (local_is variable b frame)

and_is : (e f : Expr) (b : Bones) (frame : Frame) → evaluate (expr.Binary And e f) b frame ≡ with_value (evaluate e b frame) (λ v. side v (evaluate f b frame) (truth false))
and_is e f b frame = ap (λ (m : Evaluation). m b frame) (evaluate_out (expr.Binary And e f)) ∙ simp the_exprs

equal_is : (e f : Expr) (b : Bones) (frame : Frame) → evaluate (expr.Binary Eq e f) b frame ≡ with_value (evaluate e b frame) (λ v. with_value (evaluate f b frame) (combined Eq v))
equal_is e f b frame = ap (λ (m : Evaluation). m b frame) (evaluate_out (expr.Binary Eq e f)) ∙ simp the_exprs

-- ---- values that pass for equal

is_equal : (o : Ordering) → is_eq o ≡ true → o ≡ Equal
is_equal Less h = absurd (false≢true h)
is_equal Equal h = refl
is_equal Greater h = absurd (false≢true h)

equal_bools : (b c : Bool) → same_bool b c ≡ true → b ≡ c
equal_bools true true h = refl
equal_bools true false h = absurd (false≢true h)
equal_bools false true h = absurd (false≢true h)
equal_bools false false h = refl

equal_versions : (m n : Option ℕ) → same_version m n ≡ true → m ≡ n
equal_versions None None h = refl
equal_versions None (Some n) h = absurd (false≢true h)
equal_versions (Some m) None h = absurd (false≢true h)
equal_versions (Some m) (Some n) h = ap (λ k. Some k) ((Decides-eqb m n).0 h)

equal_refs : (r s : Ref) → same_ref r s ≡ true → r ≡ s
equal_refs r s h =
    let parts = and_parts (r.object == s.object) (same_version r.version s.version) h in
    let object = (Decides-eqb r.object s.object).0 parts.0 in
    let version = equal_versions r.version s.version parts.1 in
    λ i. record { object = object i; version = version i }

equal_values : (v w : Value) → is_true (binary_value Eq v w) ≡ true → v ≡ w
equal_values (value.Int m) (value.Int n) h = ap (λ k. value.Int k) (exact_signed m n (is_equal (int_cmp m n) h))
equal_values (value.Int m) (value.Bool c) h = absurd (false≢true h)
equal_values (value.Int m) (value.Text t) h = absurd (false≢true h)
equal_values (value.Int m) (value.Reference s) h = absurd (false≢true h)
equal_values (value.Bool b) (value.Int n) h = absurd (false≢true h)
equal_values (value.Bool b) (value.Bool c) h = ap (λ k. value.Bool k) (equal_bools b c h)
equal_values (value.Bool b) (value.Text t) h = absurd (false≢true h)
equal_values (value.Bool b) (value.Reference s) h = absurd (false≢true h)
equal_values (value.Text s) (value.Int n) h = absurd (false≢true h)
equal_values (value.Text s) (value.Bool c) h = absurd (false≢true h)
equal_values (value.Text s) (value.Text t) h = ap (λ k. value.Text k) (exact_bytes s t (is_equal (slice_cmp nat_cmp s t) h))
equal_values (value.Text s) (value.Reference r) h = absurd (false≢true h)
equal_values (value.Reference r) (value.Int n) h = absurd (false≢true h)
equal_values (value.Reference r) (value.Bool c) h = absurd (false≢true h)
equal_values (value.Reference r) (value.Text t) h = absurd (false≢true h)
equal_values (value.Reference r) (value.Reference s) h = ap (λ k. value.Reference k) (equal_refs r s h)

-- ---- what holds where a test is true

both_true : (r s : Result Value Fault) → is_true (with_value r (λ v. side v s (truth false))) ≡ true → (is_true r ≡ true) × (is_true s ≡ true)
both_true (Ok (value.Bool true)) s h = (refl, h)
both_true (Ok (value.Bool false)) s h = absurd (false≢true h)
both_true (Ok (value.Int n)) s h = absurd (false≢true h)
both_true (Ok (value.Text t)) s h = absurd (false≢true h)
both_true (Ok (value.Reference r)) s h = absurd (false≢true h)
both_true (Err fault) s h = absurd (false≢true h)

both_agree : (r s : Result Value Fault) → is_true (with_value r (λ v. with_value s (combined Eq v))) ≡ true → Agree r s
both_agree (Ok v) (Ok w) h = (v, refl, ap (λ k. Ok k) (sym (equal_values v w h)))
both_agree (Ok v) (Err fault) h = absurd (false≢true h)
both_agree (Err fault) s h = absurd (false≢true h)

turned : (r s : Result Value Fault) → Agree r s → Agree s r
turned r s (v, e, f) = (v, f, e)

-- ---- links

pub left_link : (e f : Expr) (variable : ℕ) (link : Link) → IsLink e variable link → IsLink (expr.Binary And e f) variable link
left_link e f variable link is = record {
  agree = λ b frame h. is.agree b frame (both_true (evaluate e b frame) (evaluate f b frame) (ap is_true (sym (and_is e f b frame)) ∙ h)).0;
  known = is.known;
}

pub right_link : (e f : Expr) (variable : ℕ) (link : Link) → IsLink f variable link → IsLink (expr.Binary And e f) variable link
right_link e f variable link is = record {
  agree = λ b frame h. is.agree b frame (both_true (evaluate e b frame) (evaluate f b frame) (ap is_true (sym (and_is e f b frame)) ∙ h)).1;
  known = is.known;
}

pub equal_link : (e f : Expr) (variable : ℕ) (link : Link) → e ≡ field_of_local variable link.place → link.other ≡ f → IsKnown variable f → IsLink (expr.Binary Eq e f) variable link
equal_link e f variable link field other known = record {
  agree = λ b frame h.
      let both : Agree (evaluate e b frame) (evaluate f b frame) = both_agree (evaluate e b frame) (evaluate f b frame) (ap is_true (sym (equal_is e f b frame)) ∙ h) in
      subst (λ (x : Expr). Agree (evaluate (field_of_local variable link.place) b frame) (evaluate x b frame)) (sym other)
      (subst (λ (x : Expr). Agree (evaluate x b frame) (evaluate f b frame)) field both);
  known = subst (IsKnown variable) (sym other) known;
}

pub turned_link : (e f : Expr) (variable : ℕ) (link : Link) → f ≡ field_of_local variable link.place → link.other ≡ e → IsKnown variable e → IsLink (expr.Binary Eq e f) variable link
turned_link e f variable link field other known = record {
  agree = λ b frame h.
      let both : Agree (evaluate f b frame) (evaluate e b frame) = turned (evaluate e b frame) (evaluate f b frame) (both_agree (evaluate e b frame) (evaluate f b frame) (ap is_true (sym (equal_is e f b frame)) ∙ h)) in
      subst (λ (x : Expr). Agree (evaluate (field_of_local variable link.place) b frame) (evaluate x b frame)) (sym other)
      (subst (λ (x : Expr). Agree (evaluate x b frame) (evaluate e b frame)) field both);
  known = subst (IsKnown variable) (sym other) known;
}

-- ---- what is known by the first locals

pub lit_known : (count : ℕ) (v : Value) → IsKnown count (expr.Lit v)
lit_known count v b this locals more le = lit_is v b _ ∙ sym (lit_is v b _)

in_front : (locals more : List Value) (k : ℕ) → k < length locals → value_at (locals ++ more) k ≡ value_at locals k
in_front [] more k lt = absurd (omega (arith, lt))
in_front (v ∷ locals) more zero lt = refl
in_front (v ∷ locals) more (suc k) lt = in_front locals more k (omega (arith, lt))

pub field_known : (count variable place : ℕ) → variable < count → IsKnown count (field_of_local variable place)
field_known count variable place lt b this locals more le =
    field_is variable place b _
    ∙ ap (λ (r : Result Value Fault). with_value r (at_ref (field_of b place))) (in_front locals more variable (omega (arith, lt, le)))
    ∙ sym (field_is variable place b _)

-- where it is this one
pub known_by : (count : ℕ) (e f : Expr) → e ≡ f → IsKnown count f → IsKnown count e
known_by count e f same known = subst (IsKnown count) (sym same) known

pub link_by : (e f : Expr) (variable : ℕ) (link : Link) → e ≡ f → IsLink f variable link → IsLink e variable link
link_by e f variable link same is = subst (λ (x : Expr). IsLink x variable link) (sym same) is

-- of what may be found
pub each_found : {E : Type 0} (P Q : Link → Type 0) (r : Result (Option Link) E) → ((link : Link) → P link → Q link)
    → IfOk r (λ found. IfSome found P) → IfOk r (λ found. IfSome found Q)
each_found P Q (Ok (Some link)) h is = h link is
each_found P Q (Ok None) h is = tt
each_found P Q (Err e) h is = tt
