-- What an evaluation's answer says of what an expression comes to.
use Rattle.std.specs.Prelude.{◌≡◌, ℕ, List, Option, Some, Result, Ok, Err}
use Rattle.ode_value.specs.declared.arithmetic.Fault.{Fault}
use Rattle.ode_value.specs.declared.operator.BinOp.{BinOp}
use Rattle.ode_value.specs.declared.operator.BinOp.TheVariants.{And, Or}
use Rattle.ode_value.specs.declared.value.Ref.{Ref}
use Rattle.ode_value.specs.declared.value.Value.{Value}
use Rattle.std.specs.Prelude.{true, false}
use Rattle.ode_value.specs.Denoting.{denoted}
use Rattle.ode_value.specs.Evaluation.{combined}
use Rattle.ode_value.specs.Masks.{side, with_value}
use Rattle.ode_value.specs.Operators.{truth}
use Rattle.ode_value.specs.Versions.{Version}
use Rattle.ode_value.specs.Worlds.{Bones}
use Rattle.ode_expr.specs.declared.stop.EvalStop.{EvalStop}
use Rattle.ode_expr.specs.declared.stop.EvalStop.TheVariants as stop

-- a value or a fault is what was meant; a stop of the frame's own and want of memory say nothing
abbrev pub Answers : {T S : Type 0} → Result T Fault → Result T (EvalStop S) → Type 0
Answers meant (Ok v) = meant ≡ Ok v
Answers meant (Err (stop.Fault fault)) = meant ≡ Err fault
Answers meant (Err (stop.Frame s)) = Unit {0}
Answers meant (Err stop.Memory) = Unit {0}

-- what a frame is stopped by behind a call: the stop that the call answers, and else what it was before
abbrev pub stopped_by : {T S : Type 0} → Result T (EvalStop S) → Option S → Option S
stopped_by (Ok v) before = before
stopped_by (Err (stop.Fault fault)) before = before
stopped_by (Err (stop.Frame s)) before = Some s
stopped_by (Err stop.Memory) before = before

-- what was looked at by then is this, where a call answers a value or a fault
abbrev pub LookedAs : {T S : Type 0} → Result T (EvalStop S) → List ℕ → List ℕ → Type 0
LookedAs (Ok v) looked is = looked ≡ is
LookedAs (Err (stop.Fault fault)) looked is = looked ≡ is
LookedAs (Err (stop.Frame s)) looked is = Unit {0}
LookedAs (Err stop.Memory) looked is = Unit {0}

-- the number of the version that a reference denotes, or why it denotes none
abbrev pub number_in : Result Version Fault → Result ℕ Fault
number_in (Ok v) = Ok v.number
number_in (Err fault) = Err fault

abbrev pub number_of : Bones → Ref → Result ℕ Fault
number_of b r = number_in (denoted b r)

-- an operator, the left side of which has this value, and the right side comes to this
abbrev pub side_of : BinOp → Value → Result Value Fault → Result Value Fault
side_of And v right = side v right (truth false)
side_of Or v right = side v (truth true) right
side_of op v right = with_value right (combined op v)
