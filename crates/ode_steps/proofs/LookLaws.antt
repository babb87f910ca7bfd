-- What calls that only look leave of the host's faults.
use Rattle.std.proofs.Common.{◌≡◌, ℕ, Ok, Err, ap}
use Rattle.std.specs.Prelude.{IsErrOf}
use Rattle.ode_engine.proofs.FaultLaws.{fault_disk}
use Rattle.ode_engine.proofs.ServeLaws.{AreQuiet, quiet_by}
use Rattle.ode_host.proofs.Calls.{host_calls_on, rose_as, rose_on}
use Rattle.ode_host.proofs.Moments.{looks_joined}
use Rattle.ode_host.specs.Causes.{RoseIf}
use Rattle.ode_host.specs.Host.{Looks}
use Rattle.ode_host.specs.View.{View}
use Rattle.ode_interpreter.specs.declared.stop.Stop.{Stop}
use Rattle.ode_interpreter.specs.declared.stop.Stop.TheVariants as stop
use Rattle.ode_transact.specs.Errors.{fault_of}
use Rattle.ode_transact.specs.declared.error.EngineError.{EngineError}
use Rattle.ode_transact.specs.declared.error.EngineError.TheVariants as error

-- ---- the count of the disk's faults

-- behind a call that told none
pub rose_ok : {R : Type 0} (v : R) (F : Type 0) (a b : ℕ) → (F → ⊥) → RoseIf F a b → RoseIf (IsErrOf {T = R} (Ok v) error.DiskFault) a b
rose_ok v F a b none rose = rose_as F (Ok v ≡ Err error.DiskFault) a b (λ f. absurd (none f)) (λ is. cc (is)) rose

-- behind one that told this fault
pub rose_fault : {R : Type 0} (why : Stop) (F : Type 0) (a b : ℕ) → (F → why ≡ stop.DiskFault) → (why ≡ stop.DiskFault → F) → RoseIf F a b → RoseIf (IsErrOf {T = R} (Err (fault_of why)) error.DiskFault) a b
rose_fault why F a b to back rose =
    rose_as F (Err (fault_of why) ≡ Err error.DiskFault) a b (λ f. ap (λ (s : Stop). Err (fault_of s)) (to f)) (λ is. back (fault_disk why (cc (is)))) rose

-- behind one that told this error
pub rose_error : {R : Type 0} (e : EngineError) (F : Type 0) (a b : ℕ) → (F → e ≡ error.DiskFault) → (e ≡ error.DiskFault → F) → RoseIf F a b → RoseIf (IsErrOf {T = R} (Err e) error.DiskFault) a b
rose_error e F a b to back rose = rose_as F (Err e ≡ Err error.DiskFault) a b (λ f. ap Err (to f)) (λ is. back (cc (is))) rose

-- behind others that told none
pub quiet_more : (F : Type 0) (a b c : View) → (F → ⊥) → AreQuiet a b → Looks b c → RoseIf F b.disk_faults c.disk_faults → AreQuiet a c
quiet_more F a b c none quiet looks rose =
    let more : AreQuiet b c = quiet_by F b c none looks rose in
    (looks_joined a b c quiet.0 more.0, host_calls_on ⊥ ⊥ ⊥ ⊥ a b c (λ never. never) (λ never. never) quiet.1 more.1)

pub quiet_rose : (F : Type 0) (a b c : View) → AreQuiet a b → RoseIf F b.disk_faults c.disk_faults → RoseIf F a.disk_faults c.disk_faults
quiet_rose F a b c quiet rose = rose_on ⊥ F a.disk_faults b.disk_faults c.disk_faults (λ never. never) quiet.1.disk_faults rose
