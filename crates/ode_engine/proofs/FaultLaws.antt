-- Errors that faults are told by.
use Rattle.std.proofs.Common.{◌≡◌, Err, refl}
use Rattle.ode_engine.specs.Refusing.{IsUndamaged}
use Rattle.ode_interpreter.specs.Seen.{Leaves}
use Rattle.ode_interpreter.specs.declared.stop.Stop.{Stop}
use Rattle.ode_interpreter.specs.declared.stop.Stop.TheVariants as stop
use Rattle.ode_transact.specs.Contexts.{IsSound}
use Rattle.ode_transact.specs.Errors.{OnDamaged, fault_of}
use Rattle.ode_transact.specs.declared.error.EngineError.{EngineError}
use Rattle.ode_transact.specs.declared.error.EngineError.TheVariants as error

pub fault_disk : (why : Stop) → fault_of why ≡ error.DiskFault → why ≡ stop.DiskFault
fault_disk (stop.Abort reason) is = absurd (cc (is))
fault_disk stop.Memory is = absurd (cc (is))
fault_disk stop.DiskFault is = refl
fault_disk (stop.Damaged key) is = absurd (cc (is))

pub fault_silent : (why : Stop) → fault_of why ≡ error.WriteFault → ⊥
fault_silent (stop.Abort reason) is = cc (is)
fault_silent stop.Memory is = cc (is)
fault_silent stop.DiskFault is = cc (is)
fault_silent (stop.Damaged key) is = cc (is)

-- ---- no record is damaged

pub fault_undamaged : (why : Stop) → IsSound why → IsUndamaged (fault_of why)
fault_undamaged (stop.Abort reason) sound = tt
fault_undamaged stop.Memory sound = tt
fault_undamaged stop.DiskFault sound = tt
fault_undamaged (stop.Damaged key) sound = sound

pub leaves_sound : (why : Stop) (context : Type 0) → Leaves {R = Unit {0}} (Err why) context IsSound → IsSound why
leaves_sound (stop.Abort reason) context leaves = tt
leaves_sound stop.Memory context leaves = tt
leaves_sound stop.DiskFault context leaves = tt
leaves_sound (stop.Damaged key) context leaves = leaves

-- where what a call says of a damaged record can't be
pub undamaged_by : (e : EngineError) (P : Type 0) → OnDamaged {R = Unit {0}} (Err e) P → (P → ⊥) → IsUndamaged e
undamaged_by error.Memory P said never = tt
undamaged_by error.DiskFault P said never = tt
undamaged_by error.WriteFault P said never = tt
undamaged_by (error.Damaged key) P said never = never said

-- what another call says of it
pub damaged_as : (e : EngineError) (P Q : Type 0) → OnDamaged {R = Unit {0}} (Err e) P → (P → Q) → OnDamaged {R = Unit {0}} (Err e) Q
damaged_as error.Memory P Q said on = tt
damaged_as error.DiskFault P Q said on = tt
damaged_as error.WriteFault P Q said on = tt
damaged_as (error.Damaged key) P Q said on = on said
