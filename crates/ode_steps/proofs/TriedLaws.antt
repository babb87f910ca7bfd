-- What was tried, by its kind.
use Rattle.std.proofs.Common.{◌≡◌, ◌++◌, List, [], ◌∷◌, Option, Some, None, Result, Ok, Err, subst, sym}
use Rattle.std.specs.Prelude.{IsErrOf}
use Rattle.ode_engine.proofs.ServeLaws.{quiet_none, told_none}
use Rattle.ode_holders.specs.Opens.{taken_as}
use Rattle.ode_holders.specs.declared.opens.Taken as code
use Rattle.ode_host.proofs.Calls.{host_calls_as}
use Rattle.ode_host.specs.Host.{HostCalls}
use Rattle.ode_host.specs.View.{View}
use Rattle.ode_machine.specs.Interleaving.{Alone, Ends, Rests, Stays, Taken, Trial, Turns}
use Rattle.ode_transact.specs.Contexts.{Ctx}
use Rattle.ode_steps.specs.Trying.{EndsAs, TriedAs}
use Rattle.ode_steps.specs.declared.trying.Tried.TheVariants as tried
use Rattle.ode_transact.specs.Preparing.{ended_by}
use Rattle.ode_transact.specs.declared.error.EngineError.{EngineError}
use Rattle.ode_transact.specs.declared.error.EngineError.TheVariants as error
use Rattle.ode_value.specs.Acts.{Aborted, Done, Outcome}
use Rattle.ode_value.specs.Language.{ListTx}
use Rattle.ode_value.specs.Objects.{Histories, Starts}
use Rattle.ode_value.specs.declared.reason.Reason.{Reason}
use Rattle.ode_value.specs.declared.reason.Refusal.{Refusal}

module _ {K : Type 0} (P : Trial → Type 0) (before : List Taken) (runs : Ctx K → ListTx → Type 0) where
  pub stays_as : (ctx : Ctx K) (taken : code.Taken) (t : Trial) → TriedAs before runs (tried.Stays ctx taken) t → ((x : ListTx) → runs ctx x → P (Stays (before ++ taken_as taken ∷ []) x)) → P t
  stays_as ctx taken (Stays all x) is then = subst (λ (ts : List Taken). P (Stays ts x)) (sym is.0) (then x is.1)
  stays_as ctx taken (Ends outcome) is then = absurd is
  stays_as ctx taken (Turns why x) is then = absurd is
  stays_as ctx taken (Alone answer) is then = absurd is
  stays_as ctx taken Rests is then = absurd is

  ends_by : (ctx : Ctx K) (ending : Option Reason) (outcome : Outcome Histories Starts (Unit {0})) → EndsAs before runs ctx ending outcome → ((x : ListTx) → runs ctx x → P (Ends (ended_by ending x))) → P (Ends outcome)
  ends_by ctx None (Done u x) is then = then x is
  ends_by ctx (Some why) (Aborted reason x) is then = subst (λ (r : Reason). P (Ends (Aborted r x))) is.0 (then x is.1)
  ends_by ctx None (Aborted reason x) is then = absurd is
  ends_by ctx (Some why) (Done u x) is then = absurd is

  pub ends_as : (ctx : Ctx K) (ending : Option Reason) (t : Trial) → TriedAs before runs (tried.Ends ctx ending) t → ((x : ListTx) → runs ctx x → P (Ends (ended_by ending x))) → P t
  ends_as ctx ending (Ends outcome) is then = ends_by ctx ending outcome is then
  ends_as ctx ending (Stays all x) is then = absurd is
  ends_as ctx ending (Turns why x) is then = absurd is
  ends_as ctx ending (Alone answer) is then = absurd is
  ends_as ctx ending Rests is then = absurd is

  pub turns_as : (ctx : Ctx K) (why : Refusal) (t : Trial) → TriedAs before runs (tried.Refused ctx why) t → ((x : ListTx) → runs ctx x → P (Turns why x)) → P t
  turns_as ctx why (Turns refusal x) is then = subst (λ (r : Refusal). P (Turns r x)) is.0 (then x is.1)
  turns_as ctx why (Stays all x) is then = absurd is
  turns_as ctx why (Ends outcome) is then = absurd is
  turns_as ctx why (Alone answer) is then = absurd is
  turns_as ctx why Rests is then = absurd is

-- a call that doesn't touch the host, and fails by want of memory alone
pub memory_told : {R : Type 0} → (result : Result R EngineError) (v : View) → ((e : EngineError) → IsErrOf result e → e ≡ error.Memory) → HostCalls (IsErrOf result error.DiskFault) (IsErrOf result error.WriteFault) v v
memory_told (Ok r) v memory = told_none r v v (quiet_none v)
memory_told (Err e) v memory =
    host_calls_as ⊥ ⊥ (IsErrOf (Err e) error.DiskFault) (IsErrOf (Err e) error.WriteFault) v v absurd (λ is. cc (memory error.DiskFault is)) absurd (λ is. cc (memory error.WriteFault is)) (quiet_none v).1
