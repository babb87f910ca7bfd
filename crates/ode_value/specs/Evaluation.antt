-- What an expression comes to.
use Rattle.std.specs.Prelude.{ℕ, zero, suc, List, [], ◌∷◌, ◌++◌, length, true, false, cond, nat_le, Some, None, Result, Ok, Err}
use Rattle.ode_value.specs.declared.arithmetic.Fault.{Fault}
use Rattle.ode_value.specs.declared.arithmetic.Fault.TheVariants.{Overflow, DivideByZero, NoObject, NoVersion}
use Rattle.ode_value.specs.declared.operator.BinOp.{BinOp}
use Rattle.ode_value.specs.declared.operator.BinOp.TheVariants.{Add, And, Or}
use Rattle.ode_value.specs.declared.reason.Reason.{Reason}
use Rattle.ode_value.specs.declared.reason.Reason.TheVariants as reason
use Rattle.ode_value.specs.declared.statement.Expr.{Expr, fold-Expr, map-Expr, roll-Expr}
use Rattle.ode_value.specs.declared.statement.Expr.TheOpen as expr
use Rattle.ode_value.specs.declared.value.Ref.{Ref}
use Rattle.ode_value.specs.declared.value.Value.{Value}
use Rattle.ode_value.specs.declared.value.Value.TheVariants as value
use Rattle.ode_value.specs.Masks.{value_at, with_value, side}
use Rattle.ode_value.specs.Operators.{truth, misread, unary_value, binary_value}
use Rattle.ode_value.specs.Versions.{Version}
use Rattle.ode_value.specs.Classes.{null}
use Rattle.ode_value.specs.Limits.{text_limit}
use Rattle.ode_value.specs.Worlds.{Bones}
use Rattle.ode_value.specs.Denoting.{denoted}

-- what a body runs on: the reference that it was called by, and its parameters and locals
pub record Frame : Type 0 where
  pub this : Ref
  pub locals : List Value

-- of a script's own statements
abbrev pub no_frame : Frame
no_frame = record { this = record { object = 0; version = None }; locals = [] }

-- a local is set; places before it that aren't there yet are null
abbrev pub set_at : ℕ → Value → List Value → List Value
set_at zero v [] = v ∷ []
set_at zero v (w ∷ ws) = v ∷ ws
set_at (suc n) v [] = null ∷ set_at n v []
set_at (suc n) v (w ∷ ws) = w ∷ set_at n v ws

-- a frame with a local
abbrev pub with_local : ℕ → Value → Frame → Frame
with_local place v frame = record frame { locals = set_at place v frame.locals }

-- a text, where it is short enough
abbrev pub joined : List ℕ → Result Value Fault
joined text = cond (nat_le (length text) text_limit) (Ok (value.Text text)) (Err Overflow)

-- of two values: texts are joined, and all else is as in a plain expression
abbrev pub combined : BinOp → Value → Value → Result Value Fault
combined Add (value.Text s) (value.Text t) = joined (s ++ t)
combined op v w = binary_value op v w

-- with a version what follows, and a fault as it is
abbrev pub with_version : Result Version Fault → (Version → Result Value Fault) → Result Value Fault
with_version (Ok v) next = next v
with_version (Err fault) next = Err fault

-- a field of the version that a reference denotes
abbrev pub field_of : Bones → ℕ → Ref → Result Value Fault
field_of b place r = with_version (denoted b r) (λ v. value_at v.fields place)

-- the reference to the version that a reference denotes
abbrev pub version_reference : Bones → Ref → Result Value Fault
version_reference b r = with_version (denoted b r) (λ v. Ok (value.Reference (record { object = r.object; version = Some v.number })))

-- of a reference
abbrev pub at_ref : (Ref → Result Value Fault) → Value → Result Value Fault
at_ref next (value.Reference r) = next r
at_ref next _ = misread

-- what an expression comes to, in a world and with a frame
abbrev pub Evaluation : Type 0
Evaluation = Bones → Frame → Result Value Fault

-- the value or the fault, from left to right, by one level; what isn't checked has no meaning here
abbrev pub evaluation_of : expr.Expr-F Evaluation → Evaluation
evaluation_of (expr.Lit v) b frame = Ok v
evaluation_of (expr.Local place) b frame = value_at frame.locals place
evaluation_of (expr.Own place) b frame = field_of b place frame.this
evaluation_of expr.This b frame = Ok (value.Reference frame.this)
evaluation_of (expr.Slot e place) b frame = with_value (e b frame) (at_ref (field_of b place))
evaluation_of (expr.Version e) b frame = with_value (e b frame) (at_ref (version_reference b))
evaluation_of (expr.Unary op e) b frame = with_value (e b frame) (unary_value op)
evaluation_of (expr.Binary And e f) b frame = with_value (e b frame) (λ v. side v (f b frame) (truth false))
evaluation_of (expr.Binary Or e f) b frame = with_value (e b frame) (λ v. side v (truth true) (f b frame))
evaluation_of (expr.Binary op e f) b frame = with_value (e b frame) (λ v. with_value (f b frame) (combined op v))
evaluation_of _ b frame = misread

-- the same of a whole expression
unfoldable pub evaluate : Expr → Evaluation
evaluate = fold-Expr Evaluation evaluation_of

-- what an expression looks at, in a world and with a frame: the numbers of objects, in order
abbrev pub Looks : Type 0
Looks = Bones → Frame → List ℕ

-- the object behind what an expression came to
abbrev pub object_in : Result Value Fault → List ℕ
object_in (Ok (value.Reference r)) = r.object ∷ []
object_in _ = []

-- what the right side of an operator looks at, where the left side's value needs it: true before `&&`, false before `||`, any before another
abbrev pub after_and : Result Value Fault → List ℕ → List ℕ
after_and (Ok (value.Bool b)) ids = cond b ids []
after_and _ ids = []

abbrev pub after_or : Result Value Fault → List ℕ → List ℕ
after_or (Ok (value.Bool b)) ids = cond b [] ids
after_or _ ids = []

abbrev pub after_value : Result Value Fault → List ℕ → List ℕ
after_value (Ok v) ids = ids
after_value (Err fault) ids = []

abbrev pub right_looks : BinOp → Result Value Fault → List ℕ → List ℕ
right_looks And left ids = after_and left ids
right_looks Or left ids = after_or left ids
right_looks op left ids = after_value left ids

-- from left to right, by one level, of parts with what they look at
abbrev pub looks_of : expr.Expr-F (Expr × Looks) → Looks
looks_of (expr.Own place) b frame = frame.this.object ∷ []
looks_of (expr.Slot e place) b frame = e.1 b frame ++ object_in (evaluate e.0 b frame)
looks_of (expr.Version e) b frame = e.1 b frame ++ object_in (evaluate e.0 b frame)
looks_of (expr.Unary op e) b frame = e.1 b frame
looks_of (expr.Binary op e f) b frame = e.1 b frame ++ right_looks op (evaluate e.0 b frame) (f.1 b frame)
looks_of _ b frame = []

-- an expression with what it looks at
abbrev pub with_looks_of : expr.Expr-F (Expr × Looks) → Expr × Looks
with_looks_of d = (roll-Expr (map-Expr (Expr × Looks) Expr (λ p. p.0) d), looks_of d)

unfoldable pub looks_in : Expr → Looks
looks_in e = (fold-Expr (Expr × Looks) with_looks_of e).1

-- the reason of the abort that a fault brings
abbrev pub reason_of : Fault → Reason
reason_of Overflow = reason.Overflow
reason_of DivideByZero = reason.DivideByZero
reason_of (NoObject id) = reason.NoObject id
reason_of (NoVersion r) = reason.NoVersion r
