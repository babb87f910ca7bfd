-- How a call of a context ended, as one of the engine.
use Rattle.std.proofs.Common.{◌≡◌, ℕ, Bool, true, Result, Ok, Err, refl}
use Rattle.std.specs.Prelude.{IfErr, IfOk, IsErrOf}
use Rattle.ode_host.proofs.Calls.{rose_as}
use Rattle.ode_host.specs.Causes.{RoseIf}
use Rattle.ode_interpreter.specs.Seen.{Leaves}
use Rattle.ode_interpreter.specs.declared.stop.Stop.{Stop}
use Rattle.ode_interpreter.specs.declared.stop.Stop.TheVariants as stop
use Rattle.ode_run.specs.Contexts.{EndsWhere}
use Rattle.ode_run.specs.Knowing.{IsSound}
use Rattle.ode_transact.specs.Errors.{OnDamaged}
use Rattle.ode_transact.specs.Working.{EndedAs, ending_of}
use Rattle.ode_transact.specs.declared.error.EngineError.TheVariants as engine
use Rattle.ode_value.specs.Acts.{Outcome, Done, Aborted}
use Rattle.ode_value.specs.Language.{ListTx}
use Rattle.ode_value.specs.Objects.{Histories, Starts}

abbrev Deeds : Type 0
Deeds = Outcome Histories Starts (Unit {0})

-- it was done, or aborted for its reason
pub ended_as : (answer : Result (Unit {0}) Stop) (P : ListTx → Type 0) (outcome : Deeds) → EndsWhere answer P outcome → IfOk (ending_of answer) (λ ending. EndedAs ending P outcome)
ended_as (Ok v) P (Done answer x) ends = ends.1
ended_as (Ok v) P (Aborted reason x) ends = absurd ends
ended_as (Err (stop.Abort why)) P (Done answer x) ends = absurd ends
ended_as (Err (stop.Abort why)) P (Aborted reason x) ends = ends
ended_as (Err stop.Memory) P outcome ends = tt
ended_as (Err stop.DiskFault) P outcome ends = tt
ended_as (Err (stop.Damaged key)) P outcome ends = tt

module _ (a b : ℕ) where
  abbrev Faults : Result (Unit {0}) Stop → Type 0
  Faults answer = IsErrOf answer stop.DiskFault

  abbrev FaultsThen : Result (Unit {0}) Stop → Type 0
  FaultsThen answer = IsErrOf (ending_of answer) engine.DiskFault

  nor_then : (answer : Result (Unit {0}) Stop) → (Faults answer → ⊥) → (FaultsThen answer → ⊥) → RoseIf (Faults answer) a b → RoseIf (FaultsThen answer) a b
  nor_then answer none nor counts = rose_as (Faults answer) (FaultsThen answer) a b (λ f. absurd (none f)) (λ g. absurd (nor g)) counts

  -- the disk failed exactly where it did
  pub ended_cause : (answer : Result (Unit {0}) Stop) → RoseIf (Faults answer) a b → RoseIf (FaultsThen answer) a b
  ended_cause (Ok v) counts = nor_then (Ok v) (λ e. absurd (cc e)) (λ e. absurd (cc e)) counts
  ended_cause (Err (stop.Abort why)) counts = nor_then (Err (stop.Abort why)) (λ e. absurd (cc e)) (λ e. absurd (cc e)) counts
  ended_cause (Err stop.Memory) counts = nor_then (Err stop.Memory) (λ e. absurd (cc e)) (λ e. absurd (cc e)) counts
  ended_cause (Err stop.DiskFault) counts = rose_as (Faults (Err stop.DiskFault)) (FaultsThen (Err stop.DiskFault)) a b (λ e. refl) (λ e. refl) counts
  ended_cause (Err (stop.Damaged key)) counts = nor_then (Err (stop.Damaged key)) (λ e. absurd (cc e)) (λ e. absurd (cc e)) counts

-- the keeper may be used, where it was done or aborted
pub ended_usable : (answer : Result (Unit {0}) Stop) (live : Bool) → Leaves answer (live ≡ true) (λ why. Unit {0}) → IfOk (ending_of answer) (λ _. live ≡ true)
ended_usable (Ok v) live usable = usable
ended_usable (Err (stop.Abort why)) live usable = usable
ended_usable (Err stop.Memory) live usable = tt
ended_usable (Err stop.DiskFault) live usable = tt
ended_usable (Err (stop.Damaged key)) live usable = tt

-- what is damaged came of no sound call
pub ended_undamaged : (answer : Result (Unit {0}) Stop) (P : Type 0) → ((IfErr answer IsSound → ⊥) → P) → OnDamaged (ending_of answer) P
ended_undamaged (Ok v) P so = tt
ended_undamaged (Err (stop.Abort why)) P so = tt
ended_undamaged (Err stop.Memory) P so = tt
ended_undamaged (Err stop.DiskFault) P so = tt
ended_undamaged (Err (stop.Damaged key)) P so = so (λ none. none)
