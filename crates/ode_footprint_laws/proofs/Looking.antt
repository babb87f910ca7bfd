-- Bones with the same objects of some numbers look alike there, and an expression that looks at these alone comes to the same in both.
use Rattle.std.proofs.Common.{◌≡◌, ℕ, true, false, cond, List, [], ◌++◌, Option, Some, None, Result, Ok, Err, refl, sym, ap, subst, ◌∙◌}
use Rattle.std.specs.Prelude.{◌==◌}
use Rattle.std.specs.Option.{option_and_then}
use Rattle.ode_footprint_laws.proofs.Among.{Within, within_back, within_first, within_front}
use Rattle.ode_footprint_laws.specs.Agreeing.{IsAmong}
use Rattle.ode_value.specs.Denoting.{denoted, if_live, object_at, object_numbered, version_in}
use Rattle.ode_value.specs.Evaluation.{Evaluation, Frame, Looks, at_ref, combined, evaluate, evaluation_of, field_of, looks_in, looks_of, after_value, object_in, right_looks, version_reference, with_version}
use Rattle.ode_value.specs.Masks.{side, value_at, with_value}
use Rattle.ode_value.specs.Operators.{truth, unary_value}
use Rattle.ode_value.specs.Versions.{Version}
use Rattle.ode_value.specs.Worlds.{Bones, Object}
use Rattle.ode_value.specs.declared.arithmetic.Fault.{Fault}
use Rattle.ode_value.specs.declared.operator.BinOp.{BinOp}
use Rattle.ode_value.specs.declared.operator.BinOp.TheVariants.{Add, Sub, Mul, Div, Rem, Eq, Ne, Lt, Le, Gt, Ge, And, Or}
use Rattle.ode_value.specs.declared.statement.Expr.{Expr, fold-roll-Expr, ind-Expr, map-Expr, out-roll-Expr, roll-Expr}
use Rattle.ode_value.specs.declared.statement.Expr.TheOpen as expr
use Rattle.ode_value.proofs.LooksLaws.{looks_out}
use Rattle.ode_value.specs.declared.value.Ref.{Ref}
use Rattle.ode_value.specs.declared.value.Value.{Value}
use Rattle.ode_value.specs.declared.value.Value.TheVariants as value

-- the same objects of these numbers
abbrev pub SameObjects : List ℕ → Bones → Bones → Type 0
SameObjects ids b c = (id : ℕ) → IsAmong id ids → object_numbered id b.objects ≡ object_numbered id c.objects

-- evaluation and looks by one level
evaluate-roll : (d : expr.Expr-F Expr) → evaluate (roll-Expr d) ≡ evaluation_of (map-Expr Expr Evaluation evaluate d)
unfolding evaluate
evaluate-roll d = fold-roll-Expr Evaluation evaluation_of d

looks-roll : (d : expr.Expr-F Expr) → looks_in (roll-Expr d) ≡ looks_of (map-Expr Expr (Expr × Looks) (λ f. (f, looks_in f)) d)
looks-roll d = looks_out (roll-Expr d) ∙ ap (λ x. looks_of (map-Expr Expr (Expr × Looks) (λ f. (f, looks_in f)) x)) (out-roll-Expr d)

module _ (ids : List ℕ) (b c : Bones) (same : SameObjects ids b c) where
  pub live_same : (id : ℕ) → IsAmong id ids → object_at b id ≡ object_at c id
  live_same id among = ap (option_and_then if_live) (same id among)

  pub denoted_same : (r : Ref) → IsAmong r.object ids → denoted b r ≡ denoted c r
  denoted_same r among = ap (λ (o : Option Object). version_in r (cond (r.object == 0) None o)) (live_same r.object among)

  field_same : (place : ℕ) (r : Ref) → IsAmong r.object ids → field_of b place r ≡ field_of c place r
  field_same place r among = ap (λ (d : Result Version Fault). with_version d (λ v. value_at v.fields place)) (denoted_same r among)

  reference_same : (r : Ref) → IsAmong r.object ids → version_reference b r ≡ version_reference c r
  reference_same r among =
      ap (λ (d : Result Version Fault). with_version d (λ v. Ok (value.Reference (record { object = r.object; version = Some v.number })))) (denoted_same r among)

  -- what follows from a value that is the same in both
  field_behind : (place : ℕ) (u v : Result Value Fault) → u ≡ v → Within (object_in u) ids → with_value u (at_ref (field_of b place)) ≡ with_value v (at_ref (field_of c place))
  field_behind place u v is within = at u within ∙ ap (λ (w : Result Value Fault). with_value w (at_ref (field_of c place))) is where
    at : (u : Result Value Fault) → Within (object_in u) ids → with_value u (at_ref (field_of b place)) ≡ with_value u (at_ref (field_of c place))
    at (Ok (value.Reference r)) within = field_same place r (within_first r.object [] ids within)
    at (Ok (value.Int n)) within = refl
    at (Ok (value.Bool t)) within = refl
    at (Ok (value.Text t)) within = refl
    at (Err fault) within = refl

  reference_behind : (u v : Result Value Fault) → u ≡ v → Within (object_in u) ids → with_value u (at_ref (version_reference b)) ≡ with_value v (at_ref (version_reference c))
  reference_behind u v is within = at u within ∙ ap (λ (w : Result Value Fault). with_value w (at_ref (version_reference c))) is where
    at : (u : Result Value Fault) → Within (object_in u) ids → with_value u (at_ref (version_reference b)) ≡ with_value u (at_ref (version_reference c))
    at (Ok (value.Reference r)) within = reference_same r (within_first r.object [] ids within)
    at (Ok (value.Int n)) within = refl
    at (Ok (value.Bool t)) within = refl
    at (Ok (value.Text t)) within = refl
    at (Err fault) within = refl

  -- ---- the right side of an operator, which may not be needed

  -- what is known of it where it is looked at: the value and the looks are the same
  abbrev IsSame : Result Value Fault → Result Value Fault → List ℕ → List ℕ → Type 0
  IsSame r s ls ms = (r ≡ s) × (ls ≡ ms)

  abbrev right_of : BinOp → Result Value Fault → Result Value Fault → Result Value Fault
  right_of And u r = with_value u (λ v. side v r (truth false))
  right_of Or u r = with_value u (λ v. side v (truth true) r)
  right_of op u r = with_value u (λ v. with_value r (combined op v))

  right_and : (u r s : Result Value Fault) (ls ms : List ℕ) → (Within ls ids → IsSame r s ls ms) → Within (right_looks And u ls) ids → IsSame (right_of And u r) (right_of And u s) (right_looks And u ls) (right_looks And u ms)
  right_and (Ok (value.Bool true)) r s ls ms same within = same within
  right_and (Ok (value.Bool false)) r s ls ms same within = (refl, refl)
  right_and (Ok (value.Int n)) r s ls ms same within = (refl, refl)
  right_and (Ok (value.Text t)) r s ls ms same within = (refl, refl)
  right_and (Ok (value.Reference q)) r s ls ms same within = (refl, refl)
  right_and (Err fault) r s ls ms same within = (refl, refl)

  right_or : (u r s : Result Value Fault) (ls ms : List ℕ) → (Within ls ids → IsSame r s ls ms) → Within (right_looks Or u ls) ids → IsSame (right_of Or u r) (right_of Or u s) (right_looks Or u ls) (right_looks Or u ms)
  right_or (Ok (value.Bool true)) r s ls ms same within = (refl, refl)
  right_or (Ok (value.Bool false)) r s ls ms same within = same within
  right_or (Ok (value.Int n)) r s ls ms same within = (refl, refl)
  right_or (Ok (value.Text t)) r s ls ms same within = (refl, refl)
  right_or (Ok (value.Reference q)) r s ls ms same within = (refl, refl)
  right_or (Err fault) r s ls ms same within = (refl, refl)

  -- any other operator needs it where the left side has a value
  right_other : (k : Value → Value → Result Value Fault) (u r s : Result Value Fault) (ls ms : List ℕ) → (Within ls ids → IsSame r s ls ms) → Within (after_value u ls) ids
      → IsSame (with_value u (λ v. with_value r (k v))) (with_value u (λ v. with_value s (k v))) (after_value u ls) (after_value u ms)
  right_other k (Ok v) r s ls ms same within = let it = same within in (ap (λ (q : Result Value Fault). with_value q (k v)) it.0, it.1)
  right_other k (Err fault) r s ls ms same within = (refl, refl)

  right_same : (op : BinOp) (u r s : Result Value Fault) (ls ms : List ℕ) → (Within ls ids → IsSame r s ls ms) → Within (right_looks op u ls) ids → IsSame (right_of op u r) (right_of op u s) (right_looks op u ls) (right_looks op u ms)
  right_same And u r s ls ms same within = right_and u r s ls ms same within
  right_same Or u r s ls ms same within = right_or u r s ls ms same within
  right_same Add u r s ls ms same within = right_other (combined Add) u r s ls ms same within
  right_same Sub u r s ls ms same within = right_other (combined Sub) u r s ls ms same within
  right_same Mul u r s ls ms same within = right_other (combined Mul) u r s ls ms same within
  right_same Div u r s ls ms same within = right_other (combined Div) u r s ls ms same within
  right_same Rem u r s ls ms same within = right_other (combined Rem) u r s ls ms same within
  right_same Eq u r s ls ms same within = right_other (combined Eq) u r s ls ms same within
  right_same Ne u r s ls ms same within = right_other (combined Ne) u r s ls ms same within
  right_same Lt u r s ls ms same within = right_other (combined Lt) u r s ls ms same within
  right_same Le u r s ls ms same within = right_other (combined Le) u r s ls ms same within
  right_same Gt u r s ls ms same within = right_other (combined Gt) u r s ls ms same within
  right_same Ge u r s ls ms same within = right_other (combined Ge) u r s ls ms same within

  -- ---- expressions

  abbrev Claim : Expr → Type 0
  Claim e = (frame : Frame) → Within (looks_in e b frame) ids → IsSame (evaluate e b frame) (evaluate e c frame) (looks_in e b frame) (looks_in e c frame)

  abbrev Held : Type 0
  Held = (e : Expr) × Claim e

  abbrev held_expr : Held → Expr
  held_expr p = p.0

  abbrev value_of : expr.Expr-F Expr → Evaluation
  value_of d = evaluation_of (map-Expr Expr Evaluation evaluate d)

  abbrev looks_by : expr.Expr-F Expr → Looks
  looks_by d = looks_of (map-Expr Expr (Expr × Looks) (λ f. (f, looks_in f)) d)

  abbrev Level : expr.Expr-F Expr → Type 0
  Level d = (frame : Frame) → Within (looks_by d b frame) ids → IsSame (value_of d b frame) (value_of d c frame) (looks_by d b frame) (looks_by d c frame)

  level : (y : expr.Expr-F Held) → Level (map-Expr Held Expr held_expr y)
  level (expr.Lit v) frame within = (refl, refl)
  level (expr.Name n) frame within = (refl, refl)
  level (expr.Local place) frame within = (refl, refl)
  level (expr.Own place) frame within = (field_same place frame.this (within_first frame.this.object [] ids within), refl)
  level expr.This frame within = (refl, refl)
  level (expr.Field e n) frame within = (refl, refl)
  level (expr.Slot e place) frame within =
      let it = e.1 frame (within_front (looks_in e.0 b frame) (object_in (evaluate e.0 b frame)) ids within) in (
        field_behind place (evaluate e.0 b frame) (evaluate e.0 c frame) it.0 (within_back (looks_in e.0 b frame) (object_in (evaluate e.0 b frame)) ids within),
        (λ i. it.1 i ++ object_in (it.0 i)),
      )
  level (expr.Version e) frame within =
      let it = e.1 frame (within_front (looks_in e.0 b frame) (object_in (evaluate e.0 b frame)) ids within) in (
        reference_behind (evaluate e.0 b frame) (evaluate e.0 c frame) it.0 (within_back (looks_in e.0 b frame) (object_in (evaluate e.0 b frame)) ids within),
        (λ i. it.1 i ++ object_in (it.0 i)),
      )
  level (expr.Unary op e) frame within =
      let it = e.1 frame within in
      (ap (λ (u : Result Value Fault). with_value u (unary_value op)) it.0, it.1)
  level (expr.Binary op e f) frame within =
      let right = right_looks op (evaluate e.0 b frame) (looks_in f.0 b frame) in
      let it = e.1 frame (within_front (looks_in e.0 b frame) right ids within) in
      let other = right_same op (evaluate e.0 b frame) (evaluate f.0 b frame) (evaluate f.0 c frame) (looks_in f.0 b frame) (looks_in f.0 c frame) (f.1 frame) (within_back (looks_in e.0 b frame) right ids within) in (
        by_value op (evaluate e.0) (evaluate f.0) b ∙ other.0 ∙ ap (λ (u : Result Value Fault). right_of op u (evaluate f.0 c frame)) it.0 ∙ sym (by_value op (evaluate e.0) (evaluate f.0) c),
        (λ i. it.1 i ++ other.1 i) ∙ ap (λ (u : Result Value Fault). looks_in e.0 c frame ++ right_looks op u (looks_in f.0 c frame)) it.0,
      )
    where
      -- the operator by its two sides
      by_value : (op : BinOp) (g h : Evaluation) (d : Bones) → evaluation_of (expr.Binary op g h) d frame ≡ right_of op (g d frame) (h d frame)
      by_value And g h d = refl
      by_value Or g h d = refl
      by_value Add g h d = refl
      by_value Sub g h d = refl
      by_value Mul g h d = refl
      by_value Div g h d = refl
      by_value Rem g h d = refl
      by_value Eq g h d = refl
      by_value Ne g h d = refl
      by_value Lt g h d = refl
      by_value Le g h d = refl
      by_value Gt g h d = refl
      by_value Ge g h d = refl

  via : (d : expr.Expr-F Expr) → Level d → Claim (roll-Expr d)
  via d level frame within =
      let value : (x : Bones) → evaluate (roll-Expr d) x frame ≡ value_of d x frame = λ x. ap (λ f. f x frame) (evaluate-roll d) in
      let seen : (x : Bones) → looks_in (roll-Expr d) x frame ≡ looks_by d x frame = λ x. ap (λ f. f x frame) (looks-roll d) in
      let it = level frame (subst (λ (xs : List ℕ). Within xs ids) (seen b) within) in
      (value b ∙ it.0 ∙ sym (value c), seen b ∙ it.1 ∙ sym (seen c))

  pub evaluate_same : (e : Expr) → Claim e
  evaluate_same = ind-Expr Claim (λ x y is. subst (λ d. Claim (roll-Expr d)) is (via (map-Expr Held Expr held_expr y) (level y)))
