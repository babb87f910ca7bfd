-- A plain expression whose places are moved comes to what it came to, and expressions that are moved are the same where they were.
use Rattle.std.proofs.Common.{◌≡◌, ℕ, zero, suc, ◌+◌, List, [], ◌∷◌, ◌++◌, length, slice_get, Bool, true, false, refl, ap, sym, ◌∙◌, subst, arith}
use Rattle.std.specs.Prelude.{◌&&◌, ◌==◌}
use Rattle.std.specs.Option.{ok_or}
use Rattle.std.specs.Str.{bytes_eq}
use Rattle.std.proofs.lemmas.Bool.Decides.{Decides-eqb}
use Rattle.ode_value.specs.declared.arithmetic.Fault.TheVariants.{NoObject}
use Rattle.ode_value.specs.declared.operator.BinOp.{BinOp}
use Rattle.ode_value.specs.declared.operator.BinOp.TheVariants as binary
use Rattle.ode_value.specs.declared.statement.Expr.{Expr, out-Expr, roll-Expr, out-roll-Expr, roll-out-Expr, fold-roll-Expr, map-Expr, ind-Expr}
use Rattle.ode_value.specs.declared.statement.Expr.TheOpen as expr
use Rattle.ode_value.specs.declared.value.Value.{Value}
use Rattle.ode_value.specs.Fields.{put_in}
use Rattle.ode_value.specs.Masks.{Slots, Plain, plain_of, plain, with_value, side}
use Rattle.ode_value.specs.Moving.{moved, moved_of, moved_expr, moved_slots}
use Rattle.ode_value.specs.Operators.{truth, unary_value, binary_value}
use Rattle.ode_value.specs.Same.{same_unary, same_binary, same_expr_of, same_expr}
use Rattle.ode_value.proofs.Sames.{same_expr-roll}

-- ---- places

behind-gets : (new own : List Value) (place : ℕ) → slice_get (new ++ own) (length new + place) ≡ slice_get own place
behind-gets [] own place = let here : 0 + place ≡ place = omega arith in ap (slice_get own) here
behind-gets (x ∷ new) own place =
    let further : suc (length new) + place ≡ suc (length new + place) = omega arith in
    ap (slice_get ((x ∷ new) ++ own)) further ∙ behind-gets new own place

-- the value at a place that is moved is the one that was there
pub moved-gets : (new own : List Value) (at place : ℕ) → slice_get (put_in at new own) (moved at (length new) place) ≡ slice_get own place
moved-gets new own zero place = behind-gets new own place
moved-gets new [] (suc at) zero = refl
moved-gets new [] (suc at) (suc place) = refl
moved-gets new (x ∷ own) (suc at) zero = refl
moved-gets new (x ∷ own) (suc at) (suc place) = moved-gets new own at place

moved-apart : (at more m n : ℕ) → moved at more m ≡ moved at more n → m ≡ n
moved-apart zero more m n h = omega (arith, h)
moved-apart (suc at) more zero zero h = refl
moved-apart (suc at) more zero (suc n) h = absurd (omega (arith, h))
moved-apart (suc at) more (suc m) zero h = absurd (omega (arith, h))
moved-apart (suc at) more (suc m) (suc n) h = ap suc (moved-apart at more m n (omega (arith, h)))

both-ways : (b c : Bool) → (b ≡ true → c ≡ true) → (c ≡ true → b ≡ true) → b ≡ c
both-ways true c there back = sym (there refl)
both-ways false true there back = back refl
both-ways false false there back = refl

moved-same : (at more m n : ℕ) → (moved at more m == moved at more n) ≡ (m == n)
moved-same at more m n =
    let now = Decides-eqb (moved at more m) (moved at more n) in
    let was = Decides-eqb m n in
    both-ways (moved at more m == moved at more n) (m == n) (λ h. was.1 (moved-apart at more m n (now.0 h))) (λ h. now.1 (ap (moved at more) (was.0 h)))

-- ---- by one level

plain-roll : (d : expr.Expr-F Expr) → plain (roll-Expr d) ≡ plain_of (map-Expr Expr Plain plain d)
unfolding plain
plain-roll d = fold-roll-Expr Plain plain_of d

moved-roll : (at more : ℕ) (d : expr.Expr-F Expr) → moved_expr at more (roll-Expr d) ≡ roll-Expr (moved_of at more (map-Expr Expr Expr (moved_expr at more) d))
unfolding moved_expr
moved-roll at more d = fold-roll-Expr Expr (λ x. roll-Expr (moved_of at more x)) d

-- ---- what an expression comes to

module _ (at : ℕ) (new : List Value) (slots : Slots) where
  abbrev Stays : Expr → Type 0
  Stays e = plain (moved_expr at (length new) e) (moved_slots at new slots) ≡ plain e slots

  abbrev Stayed : Type 0
  Stayed = (e : Expr) × Stays e

  abbrev expr_of : Stayed → Expr
  expr_of x = x.0

  binary-stays : (op : BinOp) (p q : Plain) (e f : Plain) → p (moved_slots at new slots) ≡ e slots → q (moved_slots at new slots) ≡ f slots
      → plain_of (expr.Binary op p q) (moved_slots at new slots) ≡ plain_of (expr.Binary op e f) slots
  binary-stays binary.And p q e f first second = λ i. with_value (first i) (λ v. side v (second i) (truth false))
  binary-stays binary.Or p q e f first second = λ i. with_value (first i) (λ v. side v (truth true) (second i))
  binary-stays binary.Add p q e f first second = λ i. with_value (first i) (λ v. with_value (second i) (binary_value binary.Add v))
  binary-stays binary.Sub p q e f first second = λ i. with_value (first i) (λ v. with_value (second i) (binary_value binary.Sub v))
  binary-stays binary.Mul p q e f first second = λ i. with_value (first i) (λ v. with_value (second i) (binary_value binary.Mul v))
  binary-stays binary.Div p q e f first second = λ i. with_value (first i) (λ v. with_value (second i) (binary_value binary.Div v))
  binary-stays binary.Rem p q e f first second = λ i. with_value (first i) (λ v. with_value (second i) (binary_value binary.Rem v))
  binary-stays binary.Eq p q e f first second = λ i. with_value (first i) (λ v. with_value (second i) (binary_value binary.Eq v))
  binary-stays binary.Ne p q e f first second = λ i. with_value (first i) (λ v. with_value (second i) (binary_value binary.Ne v))
  binary-stays binary.Lt p q e f first second = λ i. with_value (first i) (λ v. with_value (second i) (binary_value binary.Lt v))
  binary-stays binary.Le p q e f first second = λ i. with_value (first i) (λ v. with_value (second i) (binary_value binary.Le v))
  binary-stays binary.Gt p q e f first second = λ i. with_value (first i) (λ v. with_value (second i) (binary_value binary.Gt v))
  binary-stays binary.Ge p q e f first second = λ i. with_value (first i) (λ v. with_value (second i) (binary_value binary.Ge v))

  level-stays : (y : expr.Expr-F Stayed)
      → plain_of (map-Expr Expr Plain plain (moved_of at (length new) (map-Expr Expr Expr (moved_expr at (length new)) (map-Expr Stayed Expr expr_of y)))) (moved_slots at new slots)
      ≡ plain_of (map-Expr Expr Plain plain (map-Expr Stayed Expr expr_of y)) slots
  level-stays (expr.Lit v) = refl
  level-stays (expr.Name name) = refl
  level-stays (expr.Local place) = refl
  level-stays (expr.Own place) = ap (λ found. ok_or found (NoObject 0)) (moved-gets new slots.own at place)
  level-stays expr.This = refl
  level-stays (expr.Slot e place) = refl
  level-stays (expr.Version e) = refl
  level-stays (expr.Unary op e) = ap (λ r. with_value r (unary_value op)) e.1
  level-stays (expr.Binary op e f) =
      binary-stays op (plain (moved_expr at (length new) e.0)) (plain (moved_expr at (length new) f.0)) (plain e.0) (plain f.0) e.1 f.1
  level-stays (expr.Field e name) = refl

  pub plain-stays : (e : Expr) → Stays e
  plain-stays = ind-Expr Stays (λ x y q. subst (λ d. Stays (roll-Expr d)) q (here y)) where
    here : (y : expr.Expr-F Stayed) → Stays (roll-Expr (map-Expr Stayed Expr expr_of y))
    here y =
        let d = map-Expr Stayed Expr expr_of y in
        let there = moved_of at (length new) (map-Expr Expr Expr (moved_expr at (length new)) d) in
        ap (λ e. plain e (moved_slots at new slots)) (moved-roll at (length new) d)
        ∙ ap (λ p. p (moved_slots at new slots)) (plain-roll there)
        ∙ level-stays y
        ∙ ap (λ p. p slots) (sym (plain-roll d))

-- ---- which expressions are the same

module _ (at more : ℕ) where
  abbrev Alike : Expr → Type 0
  Alike e = (f : Expr) → same_expr (moved_expr at more e) (moved_expr at more f) ≡ same_expr e f

  abbrev Likened : Type 0
  Likened = (e : Expr) × Alike e

  abbrev likened_expr : Likened → Expr
  likened_expr x = x.0

  abbrev moved_level : expr.Expr-F Expr → expr.Expr-F Expr
  moved_level d = moved_of at more (map-Expr Expr Expr (moved_expr at more) d)

  level-alike : (y : expr.Expr-F Likened) (d : expr.Expr-F Expr)
      → same_expr_of (map-Expr Expr (Expr → Bool) same_expr (moved_level (map-Expr Likened Expr likened_expr y))) (moved_level d)
      ≡ same_expr_of (map-Expr Expr (Expr → Bool) same_expr (map-Expr Likened Expr likened_expr y)) d
  level-alike (expr.Lit v) (expr.Lit w) = refl
  level-alike (expr.Name m) (expr.Name n) = refl
  level-alike (expr.Local m) (expr.Local n) = refl
  level-alike (expr.Own m) (expr.Own n) = moved-same at more m n
  level-alike expr.This expr.This = refl
  level-alike (expr.Slot e m) (expr.Slot f n) = ap (λ b. b && (m == n)) (e.1 f)
  level-alike (expr.Version e) (expr.Version f) = e.1 f
  level-alike (expr.Unary o e) (expr.Unary p f) = ap (λ b. same_unary o p && b) (e.1 f)
  level-alike (expr.Binary o e g) (expr.Binary p f h) = λ i. same_binary o p && (e.1 f i && g.1 h i)
  level-alike (expr.Field e m) (expr.Field f n) = ap (λ b. b && bytes_eq m n) (e.1 f)
  level-alike _ _ = refl

  moved-out : (f : Expr) → out-Expr (moved_expr at more f) ≡ moved_level (out-Expr f)
  moved-out f =
      ap (λ e. out-Expr (moved_expr at more e)) (sym (roll-out-Expr f)) ∙ ap out-Expr (moved-roll at more (out-Expr f)) ∙ out-roll-Expr (moved_level (out-Expr f))

  pub moved-alike : (e : Expr) → Alike e
  moved-alike = ind-Expr Alike (λ x y q. subst (λ d. Alike (roll-Expr d)) q (here y)) where
    here : (y : expr.Expr-F Likened) → Alike (roll-Expr (map-Expr Likened Expr likened_expr y))
    here y f =
        let d = map-Expr Likened Expr likened_expr y in
        ap (λ e. same_expr e (moved_expr at more f)) (moved-roll at more d)
        ∙ same_expr-roll (moved_level d) (moved_expr at more f)
        ∙ ap (same_expr_of (map-Expr Expr (Expr → Bool) same_expr (moved_level d))) (moved-out f)
        ∙ level-alike y (out-Expr f)
        ∙ sym (same_expr-roll d f)
