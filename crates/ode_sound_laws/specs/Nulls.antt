-- Where an expression follows a null reference.
use Rattle.std.specs.Prelude.{◌≡◌, ℕ, Ok}
use Rattle.ode_value.specs.declared.operator.BinOp.{BinOp}
use Rattle.ode_value.specs.declared.operator.UnOp.{UnOp}
use Rattle.ode_value.specs.declared.statement.Expr.{Expr}
use Rattle.ode_value.specs.declared.statement.Expr.TheVariants as checked
use Rattle.ode_value.specs.declared.value.Ref.{Ref}
use Rattle.ode_value.specs.declared.value.Value.TheVariants as value
use Rattle.ode_value.specs.Evaluation.{Frame, evaluate}
use Rattle.ode_value.specs.Worlds.{Bones}

-- a field or a version of null is asked for, in it or in a part that is evaluated
pub data FollowsNull (b : Bones) (frame : Frame) : Expr → Type 0 where
  own : (place : ℕ) → frame.this.object ≡ 0 → FollowsNull b frame (checked.Own place)
  slot : (e : Expr) (place : ℕ) (r : Ref) → evaluate e b frame ≡ Ok (value.Reference r) → r.object ≡ 0 → FollowsNull b frame (checked.Slot e place)
  version : (e : Expr) (r : Ref) → evaluate e b frame ≡ Ok (value.Reference r) → r.object ≡ 0 → FollowsNull b frame (checked.Version e)
  in_slot : (e : Expr) (place : ℕ) → FollowsNull b frame e → FollowsNull b frame (checked.Slot e place)
  in_version : (e : Expr) → FollowsNull b frame e → FollowsNull b frame (checked.Version e)
  in_operand : (op : UnOp) (e : Expr) → FollowsNull b frame e → FollowsNull b frame (checked.Unary op e)
  in_first : (op : BinOp) (e f : Expr) → FollowsNull b frame e → FollowsNull b frame (checked.Binary op e f)
  in_second : (op : BinOp) (e f : Expr) → FollowsNull b frame f → FollowsNull b frame (checked.Binary op e f)
