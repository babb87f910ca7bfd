-- Statuses, by what a run ends with.
use Rattle.std.proofs.Common.{◌≡◌, Bool, true, false, List, ℕ, Option, Some, Result, Err, [], refl, ap}
use Rattle.ode_host.specs.declared.status.Status.{Status}
use Rattle.ode_host.specs.declared.status.Status.TheVariants as status
use Rattle.ode_value.specs.declared.key.Key.{Key}
use Rattle.ode_script.specs.Cutting.{End}
use Rattle.ode_script.specs.declared.reader.ScriptError.{ScriptError}
use Rattle.ode_script.specs.declared.reader.ScriptError.TheVariants as script
use Rattle.ode_machine.specs.Runs.{status_at}
use Rattle.ode_ends.specs.Endings.{LeavesNothing}
use Rattle.ode_ends.specs.Statuses.{IsEnding, IsRunStatus, ended_by, status_in, status_of_script}
use Rattle.ode_transact.specs.Errors.{OnDamaged}
use Rattle.ode_transact.specs.declared.error.EngineError.{EngineError}
use Rattle.ode_transact.specs.declared.error.EngineError.TheVariants as engine

pub ended_is : (r : Result Status Key) (e : EngineError) → r ≡ ended_by e → status_in r ≡ status_in (ended_by e)
ended_is r e is = ap status_in is

pub engine_no_end : (e : EngineError) → IsEnding (status_in (ended_by e)) → ⊥
engine_no_end engine.Memory is = is
engine_no_end engine.DiskFault is = is
engine_no_end engine.WriteFault is = is
engine_no_end (engine.Damaged key) is = is

pub engine_disk : (e : EngineError) → status_in (ended_by e) ≡ status.DiskFault → e ≡ engine.DiskFault
engine_disk engine.Memory is = absurd (cc (is))
engine_disk engine.DiskFault is = refl
engine_disk engine.WriteFault is = absurd (cc (is))
engine_disk (engine.Damaged key) is = absurd (cc (is))

pub engine_print : (e : EngineError) → status_in (ended_by e) ≡ status.WriteFault → e ≡ engine.WriteFault
engine_print engine.Memory is = absurd (cc (is))
engine_print engine.DiskFault is = absurd (cc (is))
engine_print engine.WriteFault is = refl
engine_print (engine.Damaged key) is = absurd (cc (is))

pub engine_no_read : (e : EngineError) → status_in (ended_by e) ≡ status.ReadFault → ⊥
engine_no_read engine.Memory is = cc (is)
engine_no_read engine.DiskFault is = cc (is)
engine_no_read engine.WriteFault is = cc (is)
engine_no_read (engine.Damaged key) is = cc (is)

-- where no record is damaged
pub engine_answers : (R : Type 0) (e : EngineError) → OnDamaged {R = R} (Err e) ⊥ → IsRunStatus (status_in (ended_by e))
engine_answers R engine.Memory is = tt
engine_answers R engine.DiskFault is = tt
engine_answers R engine.WriteFault is = tt
engine_answers R (engine.Damaged key) is = absurd is

pub script_no_disk : (e : ScriptError) → status_of_script e ≡ status.DiskFault → ⊥
script_no_disk script.Memory is = cc (is)
script_no_disk script.ReadFault is = cc (is)
script_no_disk script.LongStatement is = cc (is)
script_no_disk script.LongScript is = cc (is)

pub script_no_print : (e : ScriptError) → status_of_script e ≡ status.WriteFault → ⊥
script_no_print script.Memory is = cc (is)
script_no_print script.ReadFault is = cc (is)
script_no_print script.LongStatement is = cc (is)
script_no_print script.LongScript is = cc (is)

pub script_read : (e : ScriptError) → status_of_script e ≡ status.ReadFault → e ≡ script.ReadFault
script_read script.Memory is = absurd (cc (is))
script_read script.ReadFault is = refl
script_read script.LongStatement is = absurd (cc (is))
script_read script.LongScript is = absurd (cc (is))

pub script_runs : (e : ScriptError) → IsRunStatus (status_of_script e)
script_runs script.Memory = tt
script_runs script.ReadFault = tt
script_runs script.LongStatement = tt
script_runs script.LongScript = tt

-- at the end of input nothing is left
pub end_leaves : (refused : Bool) (left : Option (List ℕ)) → left ≡ Some [] → LeavesNothing (status_at End refused) left
end_leaves true left is = is
end_leaves false left is = is

-- the statuses at the end of input
pub end_runs : (refused : Bool) → IsRunStatus (status_at End refused)
end_runs true = tt
end_runs false = tt

pub end_no_disk : (refused : Bool) → status_at End refused ≡ status.DiskFault → ⊥
end_no_disk true is = cc (is)
end_no_disk false is = cc (is)

pub end_no_print : (refused : Bool) → status_at End refused ≡ status.WriteFault → ⊥
end_no_print true is = cc (is)
end_no_print false is = cc (is)

pub end_no_read : (refused : Bool) → status_at End refused ≡ status.ReadFault → ⊥
end_no_read true is = cc (is)
end_no_read false is = cc (is)
