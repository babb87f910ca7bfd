-- When an engine stands for a session of the machine, and what its calls come to.
use Rattle.std.specs.Prelude.{◌≡◌, ◌<◌, ℕ, List, [], ◌∷◌, ◌++◌, length, Bool, true, Option, Some, None, Result, Ok, Err, IfErr, IfOk, OnOk}
use Rattle.ode_language.specs.Texts.{HasText}
use Rattle.ode_schema.specs.Parts.{AreAligned, AreFit}
use Rattle.ode_engine.specs.Refusing.{IsUndamaged, back}
use Rattle.ode_engine.specs.declared.commanding.State.{State}
use Rattle.ode_engine.specs.declared.commanding.State.TheVariants as state
use Rattle.ode_engine.specs.declared.engine.Done.{Done}
use Rattle.ode_engine.specs.declared.engine.Done.TheVariants as done
use Rattle.ode_engine.specs.declared.engine.Engine.{Engine}
use Rattle.ode_good_laws.specs.Well.{IsWell}
use Rattle.ode_host.specs.Host.{LeavesOnly, Printed}
use Rattle.ode_host.specs.View.{View}
use Rattle.ode_keep.specs.Entries.{Entries}
use Rattle.ode_machine.specs.Commands.{Step, carried, does_change}
use Rattle.ode_machine.specs.Moments.{IsAfterSome}
use Rattle.ode_machine.specs.Refusals.{changed_in, checked_in, placed}
use Rattle.ode_machine.specs.Runs.{Item}
use Rattle.ode_machine.specs.Sessions.{Session}
use Rattle.ode_opened.specs.declared.opened.Opened.{Opened}
use Rattle.ode_transact.specs.Contexts.{ContextRuns, parts_of, Ctx}
use Rattle.ode_transact.specs.Items.{items_of, texts_of}
use Rattle.ode_transact.specs.Output.{all_heard, counting}
use Rattle.ode_transact.specs.Resting.{HoldsBy, IsAtRest, resting_parts}
use Rattle.ode_transact.specs.Settling.{Meaning}
use Rattle.ode_transact.specs.declared.error.EngineError.{EngineError}
use Rattle.ode_transact.specs.declared.output.Output.{Output}
use Rattle.ode_value.specs.Acts.{Done as Reached}
use Rattle.ode_value.specs.Answers.{Answer, ◌>>=◌, ◌>>◌}
use Rattle.ode_value.specs.Executing.{commands}
use Rattle.ode_value.specs.Language.{Language, ListTx, ListWorld, Settlings}
use Rattle.ode_value.specs.Limits.{number_limit}
use Rattle.ode_value.specs.Pasts.{lists}
use Rattle.ode_value.specs.Transactions.{Script, begun}
use Rattle.ode_value.specs.declared.change.Change.{Change}
use Rattle.ode_value.specs.declared.statement.Statement.{Statement}
use Rattle.ode_value.specs.declared.statement.Statement.TheVariants as statement
use Rattle.ode_value.specs.declared.statement.Stmt.{Stmt}

-- ---- what an engine has

abbrev pub state_in : {K : Type 0} → Option (Opened K) → Option (Ctx K) → Option (State K)
state_in (Some o) running = Some (state.Rest o)
state_in None (Some ctx) = Some (state.Running ctx)
state_in None None = None

abbrev pub rest_in : {K : Type 0} → State K → Option (Opened K)
rest_in (state.Rest o) = Some o
rest_in (state.Running ctx) = None

abbrev pub running_in : {K : Type 0} → State K → Option (Ctx K)
running_in (state.Rest o) = None
running_in (state.Running ctx) = Some ctx

-- the opened file, or that which an open transaction's context goes back to
abbrev pub opened_in : {K : Type 0} → Option (Opened K) → Option (Ctx K) → Option (Opened K)
opened_in (Some o) running = Some o
opened_in None (Some ctx) = Some (back ctx)
opened_in None None = None

-- what a step answers
abbrev pub done_in : {K : Type 0} → Result (State K × Done) EngineError → Result Done EngineError
done_in (Ok r) = Ok r.1
done_in (Err error) = Err error

-- where the texts of what it settles go
abbrev pub output_of : {K : Type 0} → Engine K → Output
output_of e = record { quiet = e.quiet; counted = e.counted }

-- ---- the condition of a call

module _ {K : Type 0} (live : K → Bool) where
  -- either the opened file is there, or the context of an open transaction; its keeper may be used, and its lists fit its classes
  abbrev pub IsOneOf : Option (Opened K) → Option (Ctx K) → Type 0
  IsOneOf (Some o) None = (live o.keeper ≡ true) × AreFit (resting_parts o) × AreAligned (resting_parts o)
  IsOneOf None (Some ctx) = (live ctx.heap ≡ true) × AreFit (parts_of ctx) × AreAligned (parts_of ctx)
  IsOneOf _ _ = ⊥

  -- that of what an engine has
  abbrev pub IsUsable : State K → Type 0
  IsUsable (state.Rest o) = IsOneOf (Some o) None
  IsUsable (state.Running ctx) = IsOneOf None (Some ctx)

  -- an engine may be called
  pub record IsLive (e : Engine K) : Type 0 where
    pub lives : e.live ≡ true
    pub one : IsOneOf e.rest e.running

-- ---- sessions

module _ (l : Language) where
  -- A statement of an open transaction: as it was read, and as it was checked.
  abbrev pub Line : Type 0
  Line = Stmt × Stmt

  -- a transaction has come from its beginning to this by these statements, the last one first
  abbrev pub HasCome : ListWorld → List Line → ListTx → Type 0
  HasCome w [] x = x ≡ begun Script w
  HasCome w (s ∷ before) x =
      (y : ListTx) × HasCome w before y × HasText l (statement.Simple s.0) × (checked_in l y.now.bones s.0 ≡ Ok s.1) × (commands lists s.1 y ≡ Reached tt x)

  -- the open transaction of a session, where there is one, has come from its world, with a number
  abbrev pub HasComeOpen : ListWorld → Option ListTx → Type 0
  HasComeOpen w None = Unit {0}
  HasComeOpen w (Some x) = (w.bones.transaction < number_limit) × (before : List Line) × HasCome w before x

  -- A session that begins with a world that is well: what is open has come from that by statements that were checked.
  pub record IsSession (session : Session) : Type 0 where
    pub well : IsWell l session.world
    pub came : HasComeOpen session.world session.open_tx

  -- what the machine answers a statement
  abbrev pub answer_to : Session → Statement → Answer Step
  answer_to session s = placed session s >> carried l session s

  -- and a change of a class that stands in its place, over this world
  abbrev pub answer_to_change : ListWorld → Change → Answer Step
  answer_to_change w c = changed_in l w.bones c >>= (λ classes. Ok (does_change w classes c))

-- the session behind an answer; a refusal leaves it as it is
abbrev pub session_after : Session → Answer Step → Session
session_after session (Ok step) = step.0
session_after session (Err refusal) = session

-- what is settled
abbrev pub settlings : Answer Step → Settlings
settlings (Ok step) = step.1
settlings (Err refusal) = []

-- the refusal, or as many transactions as were settled
abbrev pub IsAnswer : Done → Answer Step → Type 0
IsAnswer (done.Settled count) (Ok step) = count ≡ length step.1
IsAnswer (done.Refused why) (Err refusal) = why ≡ refusal
IsAnswer (done.Settled count) (Err refusal) = ⊥
IsAnswer (done.Refused why) (Ok step) = ⊥

-- ---- what an engine stands for

module _ {H K : Type 0} (seen : H → View) (held : K → View → Entries → Type 0) (live : K → Bool) where
  -- the opened file holds the session's world and no transaction is open, or the context runs as the open one
  abbrev pub StandsBy : Language → Session → Option (Opened K) → Option (Ctx K) → H → Type 0
  StandsBy l session (Some o) None host = (session.open_tx ≡ None) × IsAtRest seen held live l session.world o host
  StandsBy l session None (Some ctx) host = (t : ListTx) × (session.open_tx ≡ Some t) × ContextRuns seen held live l session.world ctx host t
  StandsBy l session _ _ host = ⊥

  -- by what an engine has
  abbrev pub StandsIn : Language → Session → State K → H → Type 0
  StandsIn l session (state.Rest o) host = StandsBy l session (Some o) None host
  StandsIn l session (state.Running ctx) host = StandsBy l session None (Some ctx) host

  -- an engine stands for a session
  pub record StandsFor (l : Language) (session : Session) (e : Engine K) (host : H) : Type 0 where
    pub goes_on : IsSession l session
    pub has : StandsBy l session e.rest e.running host

  -- What a call came to from a session on that the machine gives this answer: at `Ok` it says that answer, what is there stands for the
  -- session behind it, what is heard of the texts of what was settled is printed, and these are counted. A stop on the way leaves the world
  -- that some of them left, and a front of what is printed up to the next one, whatever comes behind. No record is damaged.
  pub record Serves (means : Meaning) (l : Language) (session : Session) (answer : Answer Step) (result : Result (State K × Done) EngineError) (old new : H) (start output : Output) : Type 0 where
    pub answers : IfOk result (λ r. IsAnswer r.1 answer)
    pub goes_on : OnOk result (IsSession l (session_after session answer))
    pub stands : IfOk result (λ r. StandsIn l (session_after session answer) r.0 new)
    pub printed : OnOk result (Printed (texts_of (all_heard start.quiet (settlings answer))) (seen old) (seen new))
    pub counts : OnOk result (output ≡ counting start (texts_of (settlings answer)))
    pub any_moment : (said : List ℕ) (more : List Item) → (seen old).text ≡ Some said
        → LeavesOnly (seen old) (seen new) (IsAfterSome (HoldsBy l means) (items_of (all_heard start.quiet (settlings answer)) ++ more) session.world said)
    pub sound : IfErr result IsUndamaged
