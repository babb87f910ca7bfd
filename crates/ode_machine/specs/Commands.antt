-- What a piece comes to: one refusal, and nothing changed, or the session behind it with the transactions that it settled.
use Rattle.std.specs.Prelude.{ℕ, ℤ, List, [], Option, Some, None, Ok}
use Rattle.ode_value.specs.declared.change.Change.{Change}
use Rattle.ode_value.specs.declared.reason.Reason.TheVariants.{Asked, End}
use Rattle.ode_value.specs.declared.statement.Statement.{Statement}
use Rattle.ode_value.specs.declared.statement.Statement.TheVariants as statement
use Rattle.ode_value.specs.declared.statement.Stmt.{Stmt}
use Rattle.ode_value.specs.Objects.{Histories, Starts}
use Rattle.ode_value.specs.Pasts.{lists}
use Rattle.ode_value.specs.Worlds.{Declared, Position, Bones}
use Rattle.ode_value.specs.Acts.{Outcome, Done, Aborted}
use Rattle.ode_value.specs.Completing.{completes}
use Rattle.ode_value.specs.Draining.{with_drain, world_after}
use Rattle.ode_timer.specs.Due.{behind}
use Rattle.ode_value.specs.Executing.{commands}
use Rattle.ode_value.specs.Limits.{drain_limit}
use Rattle.ode_machine.specs.Refusals.{placed, placed_change, changed_in, checked_in, declared_in, ticks_in}
use Rattle.ode_value.specs.Language.{ListWorld, ListTx, Settlings, Language}
use Rattle.ode_machine.specs.Sessions.{Session, closed, opened}
use Rattle.ode_value.specs.Answers.{Answer, ◌>>=◌, ◌>>◌}
use Rattle.ode_value.specs.Settling.{Settled, transaction, settle, abort}
use Rattle.ode_value.specs.Transactions.{Script, begun}
use Rattle.ode_machine.specs.Works.{changes_class, declares, clock_run}

-- the session behind a piece, and the transactions that it settled, in order
abbrev pub Step : Type 0
Step = Session × Settlings

-- these transactions were settled, and none is open
abbrev pub after : ListWorld → Settlings → Step
after w settled = (closed (world_after w settled), settled)

-- one was settled, and the drain follows
abbrev pub settles : Settled Histories Starts → Step
settles s = after s.0 (with_drain lists drain_limit s)

-- the world that a statement starts in
abbrev pub bones_now : Session → Option ListTx → Bones
bones_now session None = session.world.bones
bones_now session (Some x) = x.now.bones

-- an open transaction behind a statement of its own
abbrev pub goes_on : ListWorld → Outcome Histories Starts (Unit {0}) → Step
goes_on w (Done answer x) = (opened w x, [])
goes_on w (Aborted reason x) = settles (abort lists reason x)

-- a simple statement, as a transaction of its own, or in the open one
abbrev pub does_simple : Session → Option ListTx → Stmt → Step
does_simple session None s = settles (transaction lists Script (commands lists s) session.world)
does_simple session (Some x) s = goes_on session.world (commands lists s x)

-- the open transaction ends
abbrev pub ends_open : Session → Option ListTx → (ListTx → Settled Histories Starts) → Step
ends_open session None how = (session, [])
ends_open session (Some x) how = settles (how x)

-- by `commit`: its completion, and then its settling
abbrev pub commits : ListTx → Settled Histories Starts
commits x = settle lists (completes lists x)

-- a class is declared
abbrev pub does_class : ListWorld → Declared → Step
does_class w c = settles (transaction lists Script (declares c) w)

-- a class gets fields, and these are the classes then
abbrev pub does_change : ListWorld → List Declared → Change → Step
does_change w classes c = settles (transaction lists Script (changes_class lists classes c) w)

-- the clock comes to an instant, by these ticks
abbrev pub does_clock : ListWorld → ℤ × List Position → Step
does_clock w (t, ps) = after w (clock_run lists ps (behind t) drain_limit w)

module _ (l : Language) where
  -- a statement in its place
  abbrev pub carried : Session → Statement → Answer Step
  carried session statement.Empty = Ok (session, [])
  carried session statement.Begin = Ok (opened session.world (begun Script session.world), [])
  carried session statement.Commit = Ok (ends_open session session.open_tx commits)
  carried session statement.Abort = Ok (ends_open session session.open_tx (abort lists Asked))
  carried session (statement.Class d) = do
    c ← declared_in l session.world.bones d
    Ok (does_class session.world c)
  carried session (statement.Clock text) = do
    ticks ← ticks_in l session.world.bones text
    Ok (does_clock session.world ticks)
  carried session (statement.Simple s) = do
    checked ← checked_in l (bones_now session session.open_tx) s
    Ok (does_simple session session.open_tx checked)

  -- a change of a class
  abbrev pub changes : Session → Change → Answer Step
  changes session c = do
    placed_change session
    classes ← changed_in l session.world.bones c
    Ok (does_change session.world classes c)

  -- a statement
  abbrev pub states : Session → Statement → Answer Step
  states session s = do
    placed session s
    carried session s

  -- a piece, which may be a change, or is a statement
  abbrev pub read_piece : Session → List ℕ → Option (Answer Change) → Answer Step
  read_piece session piece None = l.statement_of piece >>= states session
  read_piece session piece (Some read) = read >>= changes session

  abbrev pub command : Session → List ℕ → Answer Step
  command session piece = read_piece session piece (l.change_of piece)

-- the end of the input: an open transaction is aborted
abbrev pub finish : Session → Step
finish session = ends_open session session.open_tx (abort lists End)
