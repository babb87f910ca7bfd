-- What calls leave of the host and of the records, by what they answer.
use Rattle.std.proofs.Common.{◌≡◌, Result, Ok, Err, ap}
use Rattle.std.specs.Prelude.{IsErrOf, OnOk}
use Rattle.ode_host.proofs.Calls.{host_calls_as, host_calls_on, rose_none}
use Rattle.ode_host.proofs.Moments.{looks_none}
use Rattle.ode_host.specs.Host.{HostCalls}
use Rattle.ode_host.specs.View.{View}
use Rattle.ode_host.specs.declared.status.Status.TheVariants as status
use Rattle.ode_ends.proofs.StatusLaws.{engine_disk, engine_print}
use Rattle.ode_ends.specs.Statuses.{ended_by, status_in}
use Rattle.ode_transact.specs.Errors.{OnDamaged}
use Rattle.ode_transact.specs.declared.error.EngineError.{EngineError}
use Rattle.ode_transact.specs.declared.error.EngineError.TheVariants as error

-- ---- the host

pub no_calls : (F P : Type 0) (v : View) → (F → ⊥) → (P → ⊥) → HostCalls F P v v
no_calls F P v no_disk no_print = record {
  keeps = (looks_none v).keeps;
  disk_faults = rose_none F v.disk_faults no_disk;
  print_faults = rose_none P v.print_faults no_print;
}

-- the faults that a call tells
abbrev pub Told : {R : Type 0} → Result R EngineError → View → View → Type 0
Told result old new = HostCalls (IsErrOf result error.DiskFault) (IsErrOf result error.WriteFault) old new

-- one error of two results
err_as : (R S : Type 0) (e f : EngineError) → IsErrOf {T = R} (Err e) f → IsErrOf {T = S} (Err e) f
err_as R S e f is = let same : e ≡ f = cc (is) in ap Err same

-- an answer tells none
pub answer_quiet : {R : Type 0} (x : R) (old new : View) → Told {R = R} (Ok x) old new → HostCalls ⊥ ⊥ old new
answer_quiet x old new calls = host_calls_as _ _ ⊥ ⊥ old new (λ is. cc (is)) absurd (λ is. cc (is)) absurd calls

pub quiet_answer : {R : Type 0} (x : R) (old new : View) → HostCalls ⊥ ⊥ old new → Told {R = R} (Ok x) old new
quiet_answer x old new calls = host_calls_as ⊥ ⊥ _ _ old new absurd (λ is. cc (is)) absurd (λ is. cc (is)) calls

pub error_told : (R S : Type 0) (e : EngineError) (old new : View) → Told {R = R} (Err e) old new → Told {R = S} (Err e) old new
error_told R S e old new calls = host_calls_as _ _ _ _ old new (err_as R S e error.DiskFault) (err_as S R e error.DiskFault) (err_as R S e error.WriteFault) (err_as S R e error.WriteFault) calls

-- behind calls that tell none
pub told_behind : (F P : Type 0) (old mid new : View) → HostCalls ⊥ ⊥ old mid → HostCalls F P mid new → HostCalls F P old new
told_behind F P old mid new first second = host_calls_on ⊥ ⊥ F P old mid new (λ none. none) (λ none. none) first second

-- by the status that an error ends a run with
pub error_stated : (R : Type 0) (e : EngineError) (old new : View) → Told {R = R} (Err e) old new → HostCalls (status_in (ended_by e) ≡ status.DiskFault) (status_in (ended_by e) ≡ status.WriteFault) old new
error_stated R e old new calls =
    host_calls_as _ _ _ _ old new (λ is. let same : e ≡ error.DiskFault = cc (is) in ap (λ (e : EngineError). status_in (ended_by e)) same) (λ is. ap Err (engine_disk e is))
    (λ is. let same : e ≡ error.WriteFault = cc (is) in ap (λ (e : EngineError). status_in (ended_by e)) same) (λ is. ap Err (engine_print e is)) calls

-- what holds whatever comes holds where there is an answer
pub always : {R : Type 0} (result : Result R EngineError) (P : Type 0) → P → OnOk result P
always (Ok x) P is = is
always (Err e) P is = tt

-- ---- the records

-- what would follow from a damaged record follows too where something less would
pub damage_gives : {R : Type 0} (result : Result R EngineError) (P Q : Type 0) → (P → Q) → OnDamaged result P → OnDamaged result Q
damage_gives (Ok x) P Q gives is = tt
damage_gives (Err error.Memory) P Q gives is = tt
damage_gives (Err error.DiskFault) P Q gives is = tt
damage_gives (Err error.WriteFault) P Q gives is = tt
damage_gives (Err (error.Damaged key)) P Q gives is = gives is

-- one error of two results
pub damage_as : (R S : Type 0) (e : EngineError) (P : Type 0) → OnDamaged {R = R} (Err e) P → OnDamaged {R = S} (Err e) P
damage_as R S error.Memory P is = tt
damage_as R S error.DiskFault P is = tt
damage_as R S error.WriteFault P is = tt
damage_as R S (error.Damaged key) P is = is
