-- Plain expressions by one level, for code, and by their form, for examples.
use Rattle.std.proofs.Common.{◌≡◌, ℕ, ap, sym, ◌∙◌}
use Rattle.ode_value.specs.declared.operator.BinOp.{BinOp}
use Rattle.ode_value.specs.declared.operator.UnOp.{UnOp}
use Rattle.ode_value.specs.declared.statement.Expr.{Expr, out-Expr, map-Expr, fold_out-Expr, fold-roll-Expr, the_lemmas}
use Rattle.ode_value.specs.declared.statement.Expr.TheOpen as o
use Rattle.ode_value.specs.declared.statement.Expr.TheVariants as v
use Rattle.ode_value.specs.declared.value.Value.{Value}
use Rattle.ode_value.specs.Masks.{Plain, plain_of, plain}

pub plain_out : (e : Expr) → plain e ≡ plain_of (map-Expr Expr Plain plain (out-Expr e))
unfolding plain
plain_out e = fold_out-Expr Plain plain_of e

pub ruleset plains = (the_lemmas, plain_out)

pub plain-Lit : (x : Value) → plain (v.Lit x) ≡ plain_of (o.Lit x)
unfolding plain
plain-Lit x = ap plain (sym (v.rolls-Lit x)) ∙ fold-roll-Expr Plain plain_of (o.Lit x)

pub plain-Local : (place : ℕ) → plain (v.Local place) ≡ plain_of (o.Local place)
unfolding plain
plain-Local place = ap plain (sym (v.rolls-Local place)) ∙ fold-roll-Expr Plain plain_of (o.Local place)

pub plain-Own : (place : ℕ) → plain (v.Own place) ≡ plain_of (o.Own place)
unfolding plain
plain-Own place = ap plain (sym (v.rolls-Own place)) ∙ fold-roll-Expr Plain plain_of (o.Own place)

pub plain-Unary : (op : UnOp) (e : Expr) (p : Plain) → plain e ≡ p → plain (v.Unary op e) ≡ plain_of (o.Unary op p)
unfolding plain
plain-Unary op e p is = ap plain (sym (v.rolls-Unary op e)) ∙ fold-roll-Expr Plain plain_of (o.Unary op e) ∙ (λ i. plain_of (o.Unary op (is i)))

pub plain-Binary : (op : BinOp) (e f : Expr) (p q : Plain) → plain e ≡ p → plain f ≡ q → plain (v.Binary op e f) ≡ plain_of (o.Binary op p q)
unfolding plain
plain-Binary op e f p q is are = ap plain (sym (v.rolls-Binary op e f)) ∙ fold-roll-Expr Plain plain_of (o.Binary op e f) ∙ (λ i. plain_of (o.Binary op (is i) (are i)))
