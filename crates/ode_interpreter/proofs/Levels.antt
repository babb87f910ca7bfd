-- Statements and levels by one level.
use Rattle.std.proofs.Common.{◌≡◌, ℕ, zero, suc, ◌-◌, ◌<◌, List, map, Option, Some, Result, sym, ap, subst, ◌∙◌, arith}
use Rattle.ode_value.specs.declared.statement.Expr.{Expr}
use Rattle.ode_value.specs.declared.statement.Stmt.{Stmt, fold-roll-Stmt}
use Rattle.ode_value.specs.declared.statement.Stmt.TheOpen as o
use Rattle.ode_value.specs.declared.statement.Stmt.TheVariants as v
use Rattle.ode_value.specs.declared.value.Ref.{Ref}
use Rattle.ode_value.specs.declared.value.Value.{Value}
use Rattle.ode_value.specs.Pasts.{Past}
use Rattle.ode_value.specs.Evaluation.{Frame}
use Rattle.ode_value.specs.Executing.{Doing, actions_of, counted_doing, execute, executes, deeper, level}
use Rattle.ode_value.specs.Statements.{Inner, calls_deeper, calls_inside}
use Rattle.ode_value.specs.Posting.{enters}
use Rattle.ode_interpreter.specs.declared.stop.Stop.{Stop}
use Rattle.ode_interpreter.specs.Seen.{Ends, NumberTx}

module _ {O A : Type 0} (past : Past O A) where
  pub one_less : (n : ℕ) → 0 < n → deeper past n ≡ Some (level past (deeper past (n - 1)))
  unfolding deeper
  one_less zero h = absurd (omega arith)
  one_less (suc n) h = let e : n ≡ suc n - 1 = omega arith in ap (λ m. Some (level past (deeper past m))) e

  pub execute_if : (d : Option (Inner O A)) (e : Expr) (a b : List Stmt)
      → execute past d (v.If e a b) ≡ counted_doing past d (o.If e (map (execute past d) a) (map (execute past d) b))
  unfolding execute
  execute_if d e a b = ap (execute past d) (sym (v.rolls-If e a b)) ∙ fold-roll-Stmt (Doing O A) (counted_doing past d) (o.If e a b)

module _ (past : Past (Unit {0}) ℕ) where
  -- where a level is left, a call and a body run one level deeper
  pub calls_there : (result : Result Value Stop) (n : ℕ) (r : Ref) (name : List ℕ) (args : List Value) (y x : NumberTx) → 0 < n
      → Ends result y (calls_inside past (level past (deeper past (n - 1))) r name args x) → Ends result y (calls_deeper past (deeper past n) r name args x)
  calls_there result n r name args y x h e = subst (λ d. Ends result y (calls_deeper past d r name args x)) (sym (one_less past n h)) e

  pub enters_there : (result : Result (Option Value) Stop) (n : ℕ) (body : List Stmt) (frame : Frame) (y x : NumberTx) → 0 < n
      → Ends result y (executes past (deeper past (n - 1)) body frame x) → Ends result y (enters (actions_of (deeper past n)) body frame x)
  enters_there result n body frame y x h e = subst (λ d. Ends result y (enters (actions_of d) body frame x)) (sym (one_less past n h)) e
