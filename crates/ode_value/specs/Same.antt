-- Which kinds, values, sorts, operators and expressions are the same.
use Rattle.std.specs.Prelude.{ℕ, Bool, true, false, ◌&&◌, not, ◌==◌, Option, Some, None}
use Rattle.std.specs.Ordering.{int_eq}
use Rattle.std.specs.Str.{bytes_eq}
use Rattle.ode_value.specs.declared.event.Kind.{Kind}
use Rattle.ode_value.specs.declared.event.Kind.TheVariants as kind
use Rattle.ode_value.specs.declared.operator.BinOp.{BinOp}
use Rattle.ode_value.specs.declared.operator.BinOp.TheVariants as binary
use Rattle.ode_value.specs.declared.operator.UnOp.{UnOp}
use Rattle.ode_value.specs.declared.operator.UnOp.TheVariants as unary
use Rattle.ode_value.specs.declared.statement.Expr.{Expr, fold-Expr, out-Expr}
use Rattle.ode_value.specs.declared.statement.Expr.TheOpen as expr
use Rattle.ode_value.specs.declared.statement.Sort.{Sort}
use Rattle.ode_value.specs.declared.statement.Sort.TheVariants as sort
use Rattle.ode_value.specs.declared.value.Ref.{Ref}
use Rattle.ode_value.specs.declared.value.Value.{Value}
use Rattle.ode_value.specs.declared.value.Value.TheVariants as value

abbrev pub same_kind : Kind → Kind → Bool
same_kind kind.Create kind.Create = true
same_kind kind.Delete kind.Delete = true
same_kind kind.NewVersion kind.NewVersion = true
same_kind kind.DropVersion kind.DropVersion = true
same_kind (kind.Before m) (kind.Before n) = bytes_eq m n
same_kind (kind.After m) (kind.After n) = bytes_eq m n
same_kind kind.TBegin kind.TBegin = true
same_kind kind.TComplete kind.TComplete = true
same_kind kind.TCommit kind.TCommit = true
same_kind kind.TAbort kind.TAbort = true
same_kind (kind.TimeEvery m) (kind.TimeEvery n) = m == n
same_kind (kind.TimeAt m) (kind.TimeAt n) = int_eq m n
same_kind _ _ = false

abbrev pub same_bool : Bool → Bool → Bool
same_bool false b = not b
same_bool true b = b

abbrev pub same_version : Option ℕ → Option ℕ → Bool
same_version None None = true
same_version (Some m) (Some n) = m == n
same_version _ _ = false

abbrev pub same_ref : Ref → Ref → Bool
same_ref r s = (r.object == s.object) && same_version r.version s.version

abbrev pub same_value : Value → Value → Bool
same_value (value.Int m) (value.Int n) = int_eq m n
same_value (value.Bool b) (value.Bool c) = same_bool b c
same_value (value.Text s) (value.Text t) = bytes_eq s t
same_value (value.Reference r) (value.Reference s) = same_ref r s
same_value _ _ = false

abbrev pub same_sort : Sort → Sort → Bool
same_sort sort.Int sort.Int = true
same_sort sort.Bool sort.Bool = true
same_sort sort.Text sort.Text = true
same_sort (sort.Reference m) (sort.Reference n) = bytes_eq m n
same_sort sort.Void sort.Void = true
same_sort _ _ = false

abbrev pub same_unary : UnOp → UnOp → Bool
same_unary unary.Minus unary.Minus = true
same_unary unary.Not unary.Not = true
same_unary _ _ = false

-- an operator's place among the operators of two operands
abbrev pub place_of : BinOp → ℕ
place_of binary.Add = 0
place_of binary.Sub = 1
place_of binary.Mul = 2
place_of binary.Div = 3
place_of binary.Rem = 4
place_of binary.Eq = 5
place_of binary.Ne = 6
place_of binary.Lt = 7
place_of binary.Le = 8
place_of binary.Gt = 9
place_of binary.Ge = 10
place_of binary.And = 11
place_of binary.Or = 12

abbrev pub same_binary : BinOp → BinOp → Bool
same_binary o p = place_of o == place_of p

-- expressions, by one level of each
abbrev pub same_expr_of : expr.Expr-F (Expr → Bool) → expr.Expr-F Expr → Bool
same_expr_of (expr.Lit v) (expr.Lit w) = same_value v w
same_expr_of (expr.Name m) (expr.Name n) = bytes_eq m n
same_expr_of (expr.Local m) (expr.Local n) = m == n
same_expr_of (expr.Own m) (expr.Own n) = m == n
same_expr_of expr.This expr.This = true
same_expr_of (expr.Field e m) (expr.Field f n) = e f && bytes_eq m n
same_expr_of (expr.Slot e m) (expr.Slot f n) = e f && (m == n)
same_expr_of (expr.Version e) (expr.Version f) = e f
same_expr_of (expr.Unary o e) (expr.Unary p f) = same_unary o p && e f
same_expr_of (expr.Binary o e g) (expr.Binary p f h) = same_binary o p && (e f && g h)
same_expr_of _ _ = false

unfoldable pub same_expr : Expr → Expr → Bool
same_expr = fold-Expr (Expr → Bool) (λ d f. same_expr_of d (out-Expr f))
