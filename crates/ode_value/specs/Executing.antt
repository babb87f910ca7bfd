-- The statements, one clause each, and the levels of bodies.
use Rattle.std.specs.Prelude.{ℕ, zero, suc, List, [], ◌∷◌, map, cond, Option, Some, None}
use Rattle.std.specs.Option.{option_map}
use Rattle.ode_value.specs.declared.binding.Var.{Var}
use Rattle.ode_value.specs.declared.binding.Var.TheVariants as var
use Rattle.ode_value.specs.declared.reason.Reason.TheVariants.{Asked}
use Rattle.ode_value.specs.declared.statement.Rhs.{Rhs}
use Rattle.ode_value.specs.declared.statement.Rhs.TheVariants as rhs
use Rattle.ode_value.specs.declared.statement.Stmt.{Stmt, fold-Stmt}
use Rattle.ode_value.specs.declared.statement.Stmt.TheOpen as stmt
use Rattle.ode_value.specs.declared.value.Value.{Value}
use Rattle.ode_value.specs.Pasts.{Past}
use Rattle.ode_value.specs.Texts.{value_line, said_line}
use Rattle.ode_value.specs.Acts.{Act, Deed, ◌>>=◌, ◌>>◌, gives, nothing, aborts, prints, counts}
use Rattle.ode_value.specs.Classes.{null}
use Rattle.ode_value.specs.Evaluation.{Frame, no_frame, with_local}
use Rattle.ode_value.specs.Expressions.{evaluates, holds, text_in}
use Rattle.ode_value.specs.Limits.{depth_limit}
use Rattle.ode_value.specs.Making.{sets_own}
use Rattle.ode_value.specs.Posting.{Body}
use Rattle.ode_value.specs.Statements.{Inner, calls, creates, copies, deletes, drops_version, activates, deactivates}

-- what follows a statement: the next one, or the end of the body with its value
pub data Flow : Type 0 where
  Goes : (frame : Frame) → Flow
  Gives : (value : Value) → Flow

-- the value that a body returns, if it returns one
abbrev pub returned : Flow → Option Value
returned (Goes frame) = None
returned (Gives v) = Some v

-- what a statement does
abbrev pub Doing : (O A : Type 0) → Type 0
Doing O A = Frame → Act O A Flow

module _ {O A : Type 0} where
  -- the level of actions that is one deeper
  abbrev pub actions_of : Option (Inner O A) → Option (Body O A)
  actions_of d = option_map (λ inner. inner.body) d

  -- goes on with the frame as it is
  abbrev pub goes : Deed O A → Doing O A
  goes deed frame = deed >> gives (Goes frame)

  -- what follows a statement
  abbrev pub follows : Doing O A → Flow → Act O A Flow
  follows rest (Goes frame) = rest frame
  follows rest (Gives v) = gives (Gives v)

  -- one statement after the other, until one gives the body's value
  abbrev pub in_turn : List (Doing O A) → Doing O A
  in_turn [] frame = gives (Goes frame)
  in_turn (s ∷ ss) frame = s frame >>= follows (in_turn ss)

  -- what a `let` makes or a statement sets; no checked tree has a name there
  abbrev pub sets : Var → Value → Doing O A
  sets (var.Local place) v frame = gives (Goes (with_local place v frame))
  sets (var.Own place) v frame = goes (sets_own frame.this place v) frame
  sets (var.Name name) v frame = gives (Goes frame)

module _ {O A : Type 0} (past : Past O A) where
  -- a right side
  unfoldable pub right : Option (Inner O A) → Rhs → Frame → Act O A Value
  right d (rhs.Plain e) frame = evaluates e frame
  right d (rhs.Call c) frame = calls past d c frame
  right d (rhs.New class sets) frame = creates past (actions_of d) class sets frame
  right d (rhs.NewVersion e) frame = copies past (actions_of d) e frame
  right d (rhs.Activate of trigger args) frame = activates past (actions_of d) of trigger args frame

  -- one level of a statement
  abbrev pub doing : Option (Inner O A) → stmt.Stmt-F (Doing O A) → Doing O A
  doing d (stmt.Let var rhs) frame = do
    v ← right d rhs frame
    sets var v frame
  doing d (stmt.Set var rhs) frame = do
    v ← right d rhs frame
    sets var v frame
  doing d (stmt.Do rhs) frame = do
    _ ← right d rhs frame
    gives (Goes frame)
  doing d (stmt.If test first second) frame = do
    b ← holds test frame
    cond b (in_turn first frame) (in_turn second frame)
  doing d (stmt.Return (Some e)) frame = do
    v ← evaluates e frame
    gives (Gives v)
  doing d (stmt.Return None) frame = gives (Gives null)
  doing d (stmt.Delete e) frame = goes (deletes past (actions_of d) e frame) frame
  doing d (stmt.DropVersion e) frame = goes (drops_version past (actions_of d) e frame) frame
  doing d (stmt.Deactivate of e) frame = goes (deactivates past (actions_of d) of e frame) frame
  doing d (stmt.Show rhs) frame = do
    v ← right d rhs frame
    goes (prints (value_line v)) frame
  doing d (stmt.Say e) frame = do
    v ← evaluates e frame
    goes (prints (said_line (text_in v))) frame
  doing d stmt.TAbort frame = aborts Asked

  -- each statement counts
  abbrev pub counted_doing : Option (Inner O A) → stmt.Stmt-F (Doing O A) → Doing O A
  counted_doing d s frame = counts >> doing d s frame

  -- a statement, by what is one level deeper
  unfoldable pub execute : Option (Inner O A) → Stmt → Doing O A
  execute d = fold-Stmt (Doing O A) (counted_doing d)

  -- a body
  unfoldable pub executes : Option (Inner O A) → Body O A
  executes d body frame = do
    flow ← in_turn (map (execute d) body) frame
    gives (returned flow)

  -- a level above this one
  abbrev pub level : Option (Inner O A) → Inner O A
  level d = record { body = executes d; actions = actions_of d }

  -- what is one level deeper, where so many levels are left
  unfoldable pub deeper : ℕ → Option (Inner O A)
  deeper zero = None
  deeper (suc n) = Some (level (deeper n))

  -- the first level inside a script's own statements
  unfoldable pub outermost : Option (Inner O A)
  outermost = deeper depth_limit

  -- the level of the actions at points outside calls and actions
  abbrev pub first_actions : Option (Body O A)
  first_actions = actions_of outermost

  -- a script's own statement
  abbrev pub commands : Stmt → Deed O A
  commands s = do
    _ ← execute outermost s no_frame
    nothing
