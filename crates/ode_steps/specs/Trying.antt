-- What a step comes to on its session's view, as the code has it.
use Rattle.std.specs.Prelude.{◌≡◌, ◌++◌, Bool, true, false, List, [], ◌∷◌, Option, Some, None, Result, Ok, Err}
use Rattle.ode_engine.specs.declared.refusing.Turned.{Turned}
use Rattle.ode_engine.specs.declared.refusing.Turned.TheVariants as turned
use Rattle.ode_interpreter.specs.declared.stop.Stop.{Stop}
use Rattle.ode_interpreter.specs.declared.stop.Stop.TheVariants as stop
use Rattle.ode_machine.specs.Interleaving.{Ends, Stays, Taken, Trial, Turns}
use Rattle.ode_transact.specs.Contexts.{Ctx}
use Rattle.ode_holders.specs.Opens.{taken_as}
use Rattle.ode_steps.specs.declared.trying.Tried as code
use Rattle.ode_steps.specs.declared.trying.Tried.TheVariants as tried
use Rattle.ode_transact.specs.Errors.{fault_of}
use Rattle.ode_transact.specs.declared.error.EngineError.{EngineError}
use Rattle.ode_value.specs.Acts.{◌>>◌, Aborted, Deed, Done, Outcome}
use Rattle.ode_value.specs.Completing.{completes}
use Rattle.ode_value.specs.Executing.{commands}
use Rattle.ode_value.specs.Language.{ListTx}
use Rattle.ode_value.specs.Objects.{Histories, Starts}
use Rattle.ode_value.specs.Pasts.{lists}
use Rattle.ode_value.specs.declared.reason.Reason.{Reason}
use Rattle.ode_value.specs.declared.statement.Stmt.{Stmt}

-- the context of what was tried
abbrev pub context_in : {K : Type 0} → code.Tried K → Ctx K
context_in (tried.Stays ctx taken) = ctx
context_in (tried.Ends ctx ending) = ctx
context_in (tried.Refused ctx why) = ctx

-- a statement wasn't done: it aborts, or its call ends by a fault
abbrev pub fell_in : {K : Type 0} → Ctx K → Stop → Result (code.Tried K) EngineError
fell_in ctx (stop.Abort why) = Ok (tried.Ends ctx (Some why))
fell_in ctx stop.Memory = Err (fault_of stop.Memory)
fell_in ctx stop.DiskFault = Err (fault_of stop.DiskFault)
fell_in ctx (stop.Damaged key) = Err (fault_of (stop.Damaged key))

-- it wasn't checked: it is refused, or its call ends by an error
abbrev pub turned_in : {K : Type 0} → Ctx K → Turned → Result (code.Tried K) EngineError
turned_in ctx (turned.Refused why) = Ok (tried.Refused ctx why)
turned_in ctx (turned.Stopped error) = Err error

-- a checked statement as a whole transaction
abbrev pub whole_deed : Stmt → Deed Histories Starts
whole_deed s = commands lists s >> completes lists

-- a statement that was done again, or aborted
abbrev pub TakenAs : Bool → (ListTx → Type 0) → Outcome Histories Starts (Unit {0}) → Type 0
TakenAs true P (Done answer x) = P x
TakenAs false P (Aborted reason x) = P x
TakenAs done P outcome = ⊥

-- the context runs as what the machine's trial reached, of a session that did these statements before
module _ {K : Type 0} (before : List Taken) (runs : Ctx K → ListTx → Type 0) where
  abbrev pub EndsAs : Ctx K → Option Reason → Outcome Histories Starts (Unit {0}) → Type 0
  EndsAs ctx None (Done answer x) = runs ctx x
  EndsAs ctx (Some why) (Aborted reason x) = (why ≡ reason) × runs ctx x
  EndsAs ctx ending outcome = ⊥

  abbrev pub TriedAs : code.Tried K → Trial → Type 0
  TriedAs (tried.Stays ctx taken) (Stays all x) = (all ≡ before ++ taken_as taken ∷ []) × runs ctx x
  TriedAs (tried.Ends ctx ending) (Ends outcome) = EndsAs ctx ending outcome
  TriedAs (tried.Refused ctx why) (Turns refusal x) = (why ≡ refusal) × runs ctx x
  TriedAs t trial = ⊥
