-- What a member is called on.
use Rattle.std.specs.Prelude.{◌≡◌, Option, Some, None, Ok}
use Rattle.ode_value.specs.declared.statement.Expr.{Expr}
use Rattle.ode_value.specs.declared.value.Ref.{Ref}
use Rattle.ode_value.specs.declared.value.Value.TheVariants as value
use Rattle.ode_value.specs.Evaluation.{Frame, evaluate}
use Rattle.ode_value.specs.Worlds.{Bones}

-- the reference that a receiver comes to: that of `this`, where none is written
abbrev pub Receives : Option Expr → Bones → Frame → Ref → Type 0
Receives None b frame r = frame.this ≡ r
Receives (Some e) b frame r = evaluate e b frame ≡ Ok (value.Reference r)
