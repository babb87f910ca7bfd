-- What an expression looks at, by one level.
use Rattle.std.proofs.Common.{◌≡◌, refl, ap, subst, ◌∙◌}
use Rattle.ode_value.specs.declared.statement.Expr.{Expr, out-Expr, roll-Expr, map-Expr, fold-Expr, fold_out-Expr, fold-roll-Expr, ind-Expr}
use Rattle.ode_value.specs.declared.statement.Expr.TheOpen as expr
use Rattle.ode_value.specs.Evaluation.{Looks, looks_in, looks_of, with_looks_of}

-- what is folded has the tree itself beside what it looks at
abbrev beside : Expr → Expr × Looks
beside = fold-Expr (Expr × Looks) with_looks_of

abbrev IsBeside : Expr → Type 0
IsBeside e = (beside e).0 ≡ e

abbrev Held : Type 0
Held = (e : Expr) × IsBeside e

abbrev held_expr : Held → Expr
held_expr p = p.0

level : (y : expr.Expr-F Held) → map-Expr (Expr × Looks) Expr (λ p. p.0) (map-Expr Expr (Expr × Looks) beside (map-Expr Held Expr held_expr y)) ≡ map-Expr Held Expr held_expr y
level (expr.Lit v) = refl
level (expr.Name n) = refl
level (expr.Local place) = refl
level (expr.Own place) = refl
level expr.This = refl
level (expr.Field e n) = ap (λ f. expr.Field f n) e.1
level (expr.Slot e place) = ap (λ f. expr.Slot f place) e.1
level (expr.Version e) = ap (λ f. expr.Version f) e.1
level (expr.Unary op e) = ap (λ f. expr.Unary op f) e.1
level (expr.Binary op e f) = ap (λ g. expr.Binary op g (beside f.0).0) e.1 ∙ ap (λ g. expr.Binary op e.0 g) f.1

is_beside : (e : Expr) → IsBeside e
is_beside = ind-Expr IsBeside (λ x y is. subst (λ d. IsBeside (roll-Expr d)) is (here y)) where
  here : (y : expr.Expr-F Held) → IsBeside (roll-Expr (map-Expr Held Expr held_expr y))
  here y = ap (λ (p : Expr × Looks). p.0) (fold-roll-Expr (Expr × Looks) with_looks_of (map-Expr Held Expr held_expr y)) ∙ ap (λ d. roll-Expr d) (level y)

pub looks_out : (e : Expr) → looks_in e ≡ looks_of (map-Expr Expr (Expr × Looks) (λ f. (f, looks_in f)) (out-Expr e))
unfolding looks_in
looks_out e =
    ap (λ (p : Expr × Looks). p.1) (fold_out-Expr (Expr × Looks) with_looks_of e)
    ∙ (λ i. looks_of (map-Expr Expr (Expr × Looks) (λ f. (is_beside f i, (beside f).1)) (out-Expr e)))
