-- What is equal wherever a test is true.
use Rattle.std.specs.Prelude.{◌≡◌, ◌≤◌, ◌++◌, ℕ, List, length, true, Result, Ok}
use Rattle.ode_value.specs.Evaluation.{Frame, evaluate}
use Rattle.ode_value.specs.Masks.{is_true}
use Rattle.ode_value.specs.Worlds.{Bones}
use Rattle.ode_value.specs.declared.arithmetic.Fault.{Fault}
use Rattle.ode_value.specs.declared.statement.Expr.{Expr}
use Rattle.ode_value.specs.declared.statement.Expr.TheVariants as expr
use Rattle.ode_value.specs.declared.value.Ref.{Ref}
use Rattle.ode_value.specs.declared.value.Value.{Value}
use Rattle.ode_links.specs.declared.link.Link.{Link}

-- a field of the object that a local refers to
abbrev pub field_of_local : ℕ → ℕ → Expr
field_of_local variable place = expr.Slot (expr.Local variable) place

-- both come to one value
abbrev pub Agree : Result Value Fault → Result Value Fault → Type 0
Agree r s = (v : Value) × (r ≡ Ok v) × (s ≡ Ok v)

-- it comes to the same whatever locals follow the first ones
abbrev pub IsKnown : ℕ → Expr → Type 0
IsKnown count e = (b : Bones) (this : Ref) (locals more : List Value) → count ≤ length locals
    → evaluate e b (record { this = this; locals = locals ++ more }) ≡ evaluate e b (record { this = this; locals = locals })

-- wherever the test is true, a field of the variable's object has the value of what is known before
pub record IsLink (test : Expr) (variable : ℕ) (link : Link) : Type 0 where
  pub agree : (b : Bones) (frame : Frame) → is_true (evaluate test b frame) ≡ true → Agree (evaluate (field_of_local variable link.place) b frame) (evaluate link.other b frame)
  pub known : IsKnown variable link.other
