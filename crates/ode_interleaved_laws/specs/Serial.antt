-- The settled transactions of sessions, whole, one after another.
use Rattle.std.specs.Prelude.{ℕ, List, [], ◌∷◌, ◌++◌, Option, Some, None, Ok, Err}
use Rattle.std.specs.List.{find}
use Rattle.ode_machine.specs.Commands.{Step, carried}
use Rattle.ode_machine.specs.Conversation.{Says, Spoken, opening, spoken_stretch}
use Rattle.ode_machine.specs.Interleaving.{Goes, Interleaved, Open, Reply, Taken, literal_objects, may_end, others_of, run_on, session_of, settles_last, step, view, without}
use Rattle.ode_machine.specs.Refusals.{checked_in}
use Rattle.ode_machine.specs.Sessions.{closed}
use Rattle.ode_script.specs.Cutting as cutting
use Rattle.ode_script.specs.Cutting.{Ended, Pieces, Then, pieces}
use Rattle.ode_value.specs.Acts.{Outcome, Aborted, go_on}
use Rattle.ode_value.specs.Answers.{Answer}
use Rattle.ode_value.specs.Completing.{completes}
use Rattle.ode_value.specs.Draining.{drain, world_after}
use Rattle.ode_value.specs.Language.{Language, ListWorld, Settlings}
use Rattle.ode_value.specs.Limits.{drain_limit}
use Rattle.ode_value.specs.Objects.{Histories, Starts}
use Rattle.ode_value.specs.Pasts.{lists}
use Rattle.ode_value.specs.Settling.{settle}
use Rattle.ode_value.specs.Transactions.{looking}
use Rattle.ode_value.specs.declared.reason.Reason.{Reason}
use Rattle.ode_value.specs.declared.reason.Reason.TheVariants.{Asked, End}
use Rattle.ode_value.specs.declared.statement.Statement.{Statement}
use Rattle.ode_value.specs.declared.statement.Statement.TheVariants as statement
use Rattle.ode_value.specs.declared.statement.Stmt.{Stmt}

-- how a whole transaction ends: by its completion, or by an abort for a reason, behind all its statements
pub data Ending : Type 0 where
  Completes : Ending
  AbortsBy : (reason : Reason) → Ending

-- a transaction of these statements, of which the last one may abort; a drain; a class declaration or a clock command, with its drains
pub data Whole : Type 0 where
  Transaction : (taken : List Taken) (ending : Ending) → Whole
  Drains : Whole
  Alone : (s : Statement) → Whole

-- ---- what they settle

abbrev pub outcome_of : Ending → Outcome Histories Starts (Unit {0}) → Outcome Histories Starts (Unit {0})
outcome_of Completes o = go_on o (λ u. completes lists)
outcome_of (AbortsBy reason) o = go_on o (λ u x. Aborted reason x)

abbrev pub settled_alone : Answer Step → Settlings
settled_alone (Ok step) = step.1
settled_alone (Err why) = []

-- the drain behind a transaction, where no session is open
abbrev pub drains_of : List Open → List Whole
drains_of [] = Drains ∷ []
drains_of others = []

abbrev pub taken_of : Option Open → List Taken
taken_of None = []
taken_of (Some o) = o.taken

-- a simple statement that settles is the last one of its transaction: it aborts there, or it is a transaction of its own
abbrev pub simple_whole : Option Open → List ℕ → Answer Stmt → List Whole → List Whole
simple_whole own literals (Err why) more = []
simple_whole own literals (Ok c) more = Transaction (taken_of own ++ record { literals = literals; checked = c } ∷ []) Completes ∷ more

module _ (l : Language) where
  abbrev pub runs_whole : ListWorld → Whole → Settlings
  runs_whole w (Transaction taken ending) = settle lists (outcome_of ending (run_on w taken)) ∷ []
  runs_whole w Drains = drain lists drain_limit w
  runs_whole w (Alone s) = settled_alone (carried l (closed w) s)

  -- one after another
  abbrev pub runs_serially : ListWorld → List Whole → Settlings
  runs_serially w [] = []
  runs_serially w (s ∷ more) = runs_whole w s ++ runs_serially (world_after w (runs_whole w s)) more

  -- the transactions of a step that settles some
  abbrev pub serial_of : Interleaved → ℕ → Statement → List Whole
  serial_of m n statement.Commit = Transaction (taken_of (session_of n m.sessions)) Completes ∷ drains_of (others_of n m.sessions)
  serial_of m n statement.Abort = Transaction (taken_of (session_of n m.sessions)) (AbortsBy Asked) ∷ drains_of (others_of n m.sessions)
  serial_of m n (statement.Class d) = Alone (statement.Class d) ∷ []
  serial_of m n (statement.Clock text) = Alone (statement.Clock text) ∷ []
  serial_of m n (statement.Simple s) =
      let own = session_of n m.sessions in
      let ids = literal_objects l s in
      simple_whole own ids (checked_in l (looking ids (view m.world own)).now.bones s) (drains_of (others_of n m.sessions))
  serial_of m n s = []

-- ---- what the end of the input settles, as whole transactions

-- of a session that is aborted, and of those behind it
abbrev pub serial_found : Interleaved → Option Open → (Interleaved → List Whole) → List Whole
serial_found m None rest = []
serial_found m (Some o) rest = Transaction o.taken (AbortsBy End) ∷ drains_of (others_of o.session m.sessions) ++ rest (without m o (settles_last m o))

abbrev pub serial_ends : List Open → Interleaved → List Whole
serial_ends [] m = []
serial_ends (o ∷ more) m = serial_found m (find (may_end m) m.sessions) (serial_ends more)

abbrev pub serial_finish : Interleaved → List Whole
serial_finish m = serial_ends m.sessions m

-- ---- what a run settles, as whole transactions

module _ (l : Language) (speaks : List ℕ → Spoken) where
  -- of a step that settles some
  abbrev pub serial_reply : Interleaved → ℕ → Statement → Reply → List Whole
  serial_reply m n s (Goes now (first ∷ settled)) = serial_of l m n s
  serial_reply m n s reply = []

  abbrev pub serial_spoken : Interleaved → Spoken → List Whole
  serial_spoken m (Says n s) = serial_reply m n s (step l m n s)
  serial_spoken m spoken = []

  abbrev pub serial_ending : Interleaved → cutting.Ending → List Whole
  serial_ending m cutting.End = serial_finish m
  serial_ending m ending = []

  unfoldable pub serial_pieces : Pieces → Interleaved → List Whole
  serial_pieces (Ended ending) m = serial_ending m ending
  serial_pieces (Then at text rest) m = serial_spoken m (speaks text) ++ serial_pieces rest (spoken_stretch l speaks m at (speaks text)).0

  -- of a whole run, whose opening drains the queue
  abbrev pub serial_run : ListWorld → List ℕ → List Whole
  serial_run w script = Drains ∷ serial_pieces (pieces script) (opening w).0
