-- The printed text of expressions and events, from which they can be read again. One blank stands round a binary operator, and an
-- operand that is an operator itself stands in brackets.
use Rattle.std.specs.Prelude.{ℕ, Bool, true, false, cond, List, [], ◌++◌, codes, Option, Some, None}
use Rattle.std.specs.List.{join_by}
use Rattle.ode_value.specs.Decimal.{digits_of}
use Rattle.ode_value.specs.Instants.{instant_text}
use Rattle.ode_value.specs.Texts.{value_text}
use Rattle.ode_value.specs.declared.event.EventExpr.{EventExpr, fold-EventExpr}
use Rattle.ode_value.specs.declared.event.EventExpr.TheOpen as event
use Rattle.ode_value.specs.declared.event.Kind.{Kind}
use Rattle.ode_value.specs.declared.event.Kind.TheVariants as kind
use Rattle.ode_value.specs.declared.operator.BinOp.{BinOp}
use Rattle.ode_value.specs.declared.operator.BinOp.TheVariants as binary
use Rattle.ode_value.specs.declared.operator.UnOp.{UnOp}
use Rattle.ode_value.specs.declared.operator.UnOp.TheVariants as unary
use Rattle.ode_value.specs.declared.statement.Expr.{Expr, fold-Expr}
use Rattle.ode_value.specs.declared.statement.Expr.TheOpen as expr

-- a printed tree, and whether it is an operator, which stands in brackets where it is an operand
pub record Printed : Type 0 where
  pub text : List ℕ
  pub is_operator : Bool

abbrev pub an_operator : List ℕ → Printed
an_operator text = record { text = text; is_operator = true }

abbrev pub no_operator : List ℕ → Printed
no_operator text = record { text = text; is_operator = false }

abbrev pub in_brackets : List ℕ → List ℕ
in_brackets text = codes "(" ++ text ++ codes ")"

abbrev pub operand : Printed → List ℕ
operand p = cond p.is_operator (in_brackets p.text) p.text

-- texts with a comma and a blank between each two
abbrev pub with_commas : List (List ℕ) → List ℕ
with_commas texts = join_by (λ text. text) (codes ", ") texts

-- ---- expressions

abbrev pub unary_text : UnOp → List ℕ
unary_text unary.Minus = codes "-"
unary_text unary.Not = codes "!"

abbrev pub binary_text : BinOp → List ℕ
binary_text binary.Add = codes " + "
binary_text binary.Sub = codes " - "
binary_text binary.Mul = codes " * "
binary_text binary.Div = codes " / "
binary_text binary.Rem = codes " % "
binary_text binary.Eq = codes " == "
binary_text binary.Ne = codes " != "
binary_text binary.Lt = codes " < "
binary_text binary.Le = codes " <= "
binary_text binary.Gt = codes " > "
binary_text binary.Ge = codes " >= "
binary_text binary.And = codes " && "
binary_text binary.Or = codes " || "

-- by one level; the places of a checked tree have no text
abbrev pub printed_of : expr.Expr-F Printed → Printed
printed_of (expr.Lit v) = no_operator (value_text v)
printed_of (expr.Name name) = no_operator name
printed_of expr.This = no_operator (codes "this")
printed_of (expr.Field e name) = no_operator (operand e ++ codes "." ++ name)
printed_of (expr.Version e) = no_operator (codes "version" ++ in_brackets e.text)
printed_of (expr.Unary op e) = an_operator (unary_text op ++ operand e)
printed_of (expr.Binary op e f) = an_operator (operand e ++ binary_text op ++ operand f)
printed_of _ = no_operator []

unfoldable pub printed : Expr → Printed
printed = fold-Expr Printed printed_of

abbrev pub expr_text : Expr → List ℕ
expr_text e = (printed e).text

abbrev pub operand_text : Expr → List ℕ
operand_text e = operand (printed e)

-- ---- events

abbrev pub kind_text : Kind → List ℕ
kind_text kind.Create = codes "after create"
kind_text kind.Delete = codes "before delete"
kind_text kind.NewVersion = codes "after newversion"
kind_text kind.DropVersion = codes "before delversion"
kind_text (kind.Before method) = codes "before " ++ method
kind_text (kind.After method) = codes "after " ++ method
kind_text kind.TBegin = codes "after tbegin"
kind_text kind.TComplete = codes "before tcomplete"
kind_text kind.TCommit = codes "after tcommit"
kind_text kind.TAbort = codes "after tabort"
kind_text (kind.TimeEvery seconds) = codes "time every " ++ digits_of seconds
kind_text (kind.TimeAt second) = codes "time at \"" ++ instant_text second ++ codes "\""

-- a mask is an operand
abbrev pub mask_text : Option Expr → List ℕ
mask_text None = []
mask_text (Some x) = codes " && " ++ operand_text x

-- by one level
abbrev pub printed_event_of : event.EventExpr-F Printed → Printed
printed_event_of (event.Leaf kind mask) = no_operator (kind_text kind ++ mask_text mask)
printed_event_of event.Any = no_operator (codes "any")
printed_event_of event.First = no_operator (codes "first")
printed_event_of (event.Not e) = an_operator (codes "!" ++ operand e)
printed_event_of (event.And e f) = an_operator (operand e ++ codes " and " ++ operand f)
printed_event_of (event.Or e f) = an_operator (operand e ++ codes " or " ++ operand f)
printed_event_of (event.Relative e f) = no_operator (codes "relative" ++ in_brackets (e.text ++ codes ", " ++ f.text))
printed_event_of (event.RelPlus e) = no_operator (codes "relplus" ++ in_brackets e.text)
printed_event_of (event.Prior e f) = no_operator (codes "prior" ++ in_brackets (e.text ++ codes ", " ++ f.text))
printed_event_of (event.Sequence e f) = no_operator (codes "sequence" ++ in_brackets (e.text ++ codes ", " ++ f.text))
printed_event_of (event.Pipe e f) = no_operator (codes "pipe" ++ in_brackets (e.text ++ codes ", " ++ f.text))
printed_event_of (event.Choose n e) = no_operator (codes "choose " ++ digits_of n ++ codes " " ++ in_brackets e.text)
printed_event_of (event.Every n e) = no_operator (codes "every " ++ digits_of n ++ codes " " ++ in_brackets e.text)
printed_event_of (event.Fa e f g) = no_operator (codes "fa" ++ in_brackets (e.text ++ codes ", " ++ f.text ++ codes ", " ++ g.text))
printed_event_of (event.FaAbs e f g) = no_operator (codes "faabs" ++ in_brackets (e.text ++ codes ", " ++ f.text ++ codes ", " ++ g.text))
printed_event_of (event.Masked e mask) = no_operator (in_brackets e.text ++ codes " && " ++ operand_text mask)

unfoldable pub printed_event : EventExpr → Printed
printed_event = fold-EventExpr Printed printed_event_of

abbrev pub event_text : EventExpr → List ℕ
event_text e = (printed_event e).text
