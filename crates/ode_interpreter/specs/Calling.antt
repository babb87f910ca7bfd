-- Statements and calls by the parts that the code does them in.
use Rattle.std.specs.Prelude.{ℕ, List, Option}
use Rattle.std.specs.Option.{unwrap_or}
use Rattle.ode_value.specs.declared.binding.Var.{Var}
use Rattle.ode_value.specs.declared.member.Method.{Method}
use Rattle.ode_value.specs.declared.statement.Expr.{Expr}
use Rattle.ode_value.specs.declared.statement.Rhs.{Rhs}
use Rattle.ode_value.specs.declared.value.Ref.{Ref}
use Rattle.ode_value.specs.declared.value.Value.{Value}
use Rattle.ode_value.specs.Acts.{Act, ◌>>=◌, ◌>>◌, gives, prints}
use Rattle.ode_value.specs.Classes.{default_of}
use Rattle.ode_value.specs.Executing.{Doing, goes, right, sets}
use Rattle.ode_value.specs.Expressions.{evaluates, text_in}
use Rattle.ode_value.specs.Pasts.{Past}
use Rattle.ode_value.specs.Statements.{Inner, calls_behind}
use Rattle.ode_value.specs.Texts.{said_line, value_line}

-- a text is said
abbrev pub tells : {O A : Type 0} → Expr → Doing O A
tells e frame = do
  v ← evaluates e frame
  goes (prints (said_line (text_in v))) frame

module _ {O A : Type 0} (past : Past O A) where
  -- a `let`, or a variable that is set
  abbrev pub binds : Option (Inner O A) → Var → Rhs → Doing O A
  binds d var rhs frame = do
    v ← right past d rhs frame
    sets var v frame

  -- a value is shown
  abbrev pub shows : Option (Inner O A) → Rhs → Doing O A
  shows d rhs frame = do
    v ← right past d rhs frame
    goes (prints (value_line v)) frame

  -- a method's body runs, and what follows it
  abbrev pub runs_method : Inner O A → Ref → List ℕ → List Value → Method → Act O A Value
  runs_method inner r name args m = do
    v ← inner.body m.body (record { this = r; locals = args })
    calls_behind past inner.actions r name args
    gives (unwrap_or v (default_of m.result))
