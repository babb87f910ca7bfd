-- How a check of a statement answers.
use Rattle.std.specs.Prelude.{◌≡◌, Result, Ok, Err, IsErrOf}
use Rattle.ode_engine.specs.declared.engine.Done.{Done}
use Rattle.ode_engine.specs.declared.engine.Done.TheVariants as done
use Rattle.ode_engine.specs.declared.refusing.Turned.{Turned}
use Rattle.ode_engine.specs.declared.refusing.Turned.TheVariants.{Refused, Stopped}
use Rattle.ode_host.specs.Causes.{RoseIf}
use Rattle.ode_host.specs.Host.{Looks}
use Rattle.ode_host.specs.View.{View}
use Rattle.ode_opened.specs.declared.opened.Opened.{Opened}
use Rattle.ode_opened.specs.declared.opened.TheConstants.{RUN_FORMAT}
use Rattle.ode_transact.specs.Contexts.{Ctx}
use Rattle.ode_transact.specs.declared.error.EngineError.{EngineError}
use Rattle.ode_transact.specs.declared.error.EngineError.TheVariants as error
use Rattle.ode_value.specs.Answers.{Answer}

-- an error by which no record is damaged
abbrev pub IsUndamaged : EngineError → Type 0
IsUndamaged error.Memory = Unit {0}
IsUndamaged error.DiskFault = Unit {0}
IsUndamaged error.WriteFault = Unit {0}
IsUndamaged (error.Damaged key) = ⊥

-- the answer; an error may come in its place
abbrev pub Answers : {R : Type 0} → Result R Turned → Answer R → Type 0
Answers (Ok v) answer = answer ≡ Ok v
Answers (Err (Refused why)) answer = answer ≡ Err why
Answers (Err (Stopped error)) answer = Unit {0}

-- what holds where a statement is refused
abbrev pub IfRefused : Turned → Type 0 → Type 0
IfRefused (Refused why) P = P
IfRefused (Stopped error) P = Unit {0}

-- what holds but at an error
abbrev pub UnlessStopped : {R : Type 0} → Result R Turned → Type 0 → Type 0
UnlessStopped (Ok v) P = P
UnlessStopped (Err turned) P = IfRefused turned P

-- Over records that hold a world: this, but at an error, and no record is damaged.
pub record KeepsChecked {R : Type 0} (result : Result R Turned) (context : Type 0) : Type 0 where
  pub stays : UnlessStopped result context
  pub sound : (error : EngineError) → IsErrOf result (Stopped error) → IsUndamaged error

-- Over any records: this, but at an error; the host only looked, the disk failed exactly where that is the error, and no print did.
pub record LeavesChecked {R : Type 0} (result : Result R Turned) (usable : Type 0) (before after : View) : Type 0 where
  pub stays : UnlessStopped result usable
  pub looks : Looks before after
  pub faults : RoseIf (IsErrOf result (Stopped error.DiskFault)) before.disk_faults after.disk_faults
  pub silent : IsErrOf result (Stopped error.WriteFault) → ⊥

-- what is answered then, where this is there
abbrev pub turned_down : {S : Type 0} → S → Turned → Result (S × Done) EngineError
turned_down s (Refused why) = Ok (s, done.Refused why)
turned_down s (Stopped error) = Err error

-- a context goes back to the file that it began over
abbrev pub back : {K : Type 0} → Ctx K → Opened K
back ctx = record { keeper = ctx.heap; classes = ctx.classes; tables = ctx.tables; alphabets = ctx.alphabets; maps = ctx.maps; bytes = ctx.bytes; format = RUN_FORMAT }
