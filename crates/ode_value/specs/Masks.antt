-- What a plain expression comes to: one that follows no reference and calls no method, as a mask or a constraint is.
use Rattle.std.specs.Prelude.{ℕ, Bool, true, false, cond, List, ◌++◌, Option, Some, None, Result, Ok, Err, slice_get}
use Rattle.std.specs.Option.{ok_or}
use Rattle.ode_value.specs.declared.arithmetic.Fault.{Fault}
use Rattle.ode_value.specs.declared.arithmetic.Fault.TheVariants.{NoObject}
use Rattle.ode_value.specs.declared.event.Point.{Point}
use Rattle.ode_value.specs.declared.operator.BinOp.TheVariants.{And, Or}
use Rattle.ode_value.specs.declared.statement.Expr.{Expr, fold-Expr}
use Rattle.ode_value.specs.declared.statement.Expr.TheOpen as expr
use Rattle.ode_value.specs.declared.value.Value.{Value}
use Rattle.ode_value.specs.declared.value.Value.TheVariants as value
use Rattle.ode_value.specs.Operators.{truth, misread, unary_value, binary_value}

-- what it reads: parameters and arguments, and the fields of its object
pub record Slots : Type 0 where
  pub locals : List Value
  pub own : List Value

abbrev pub value_at : List Value → ℕ → Result Value Fault
value_at values place = ok_or (slice_get values place) (NoObject 0)

-- with a value what follows, and a fault as it is
abbrev pub with_value : Result Value Fault → (Value → Result Value Fault) → Result Value Fault
with_value (Ok v) next = next v
with_value (Err fault) next = Err fault

-- one side where the value is true, the other one where it is false
abbrev pub side : Value → Result Value Fault → Result Value Fault → Result Value Fault
side (value.Bool b) first second = cond b first second
side _ first second = misread

abbrev pub Plain : Type 0
Plain = Slots → Result Value Fault

-- the value or the fault, from left to right, by one level; what isn't plain has no meaning here
abbrev pub plain_of : expr.Expr-F Plain → Plain
plain_of (expr.Lit v) slots = Ok v
plain_of (expr.Local place) slots = value_at slots.locals place
plain_of (expr.Own place) slots = value_at slots.own place
plain_of (expr.Unary op e) slots = with_value (e slots) (unary_value op)
plain_of (expr.Binary And e f) slots = with_value (e slots) (λ v. side v (f slots) (truth false))
plain_of (expr.Binary Or e f) slots = with_value (e slots) (λ v. side v (truth true) (f slots))
plain_of (expr.Binary op e f) slots = with_value (e slots) (λ v. with_value (f slots) (binary_value op v))
plain_of _ slots = misread

unfoldable pub plain : Expr → Plain
plain = fold-Expr Plain plain_of

-- true, where a fault isn't
abbrev pub is_true : Result Value Fault → Bool
is_true (Ok (value.Bool b)) = b
is_true _ = false

-- a mask at a point, with the arguments of the trigger; where there is none it holds
abbrev pub mask_holds : Option Expr → List Value → Point → Bool
mask_holds None params p = true
mask_holds (Some x) params p = is_true (plain x (record { locals = params ++ p.args; own = p.fields }))

-- a mask on a composite event: it sees the arguments of the trigger and the fields, and no arguments of a point
abbrev pub composite_holds : Expr → List Value → List Value → Bool
composite_holds x params fields = is_true (plain x (record { locals = params; own = fields }))
