-- Errors of the engine.
use Rattle.std.specs.Prelude.{Result, Err}
use Rattle.ode_transact.specs.declared.error.EngineError.{EngineError}
use Rattle.ode_transact.specs.declared.error.EngineError.TheVariants as engine
use Rattle.ode_heap.specs.declared.error.HeapError.{HeapError}
use Rattle.ode_heap.specs.declared.error.HeapError.TheVariants as heap
use Rattle.ode_interpreter.specs.declared.stop.Stop.{Stop}
use Rattle.ode_interpreter.specs.declared.stop.Stop.TheVariants as stop
use Rattle.ode_value.specs.Keys.{counters_key}

-- that of a heap; records that are too many are told at the counters, whose record each settling writes
abbrev pub error_of : HeapError → EngineError
error_of heap.Memory = engine.Memory
error_of heap.DiskFault = engine.DiskFault
error_of (heap.TooLarge total) = engine.Damaged counters_key
error_of (heap.Damaged key) = engine.Damaged key

-- that of a fault; an abort is none
abbrev pub fault_of : Stop → EngineError
fault_of (stop.Abort why) = engine.Memory
fault_of stop.Memory = engine.Memory
fault_of stop.DiskFault = engine.DiskFault
fault_of (stop.Damaged key) = engine.Damaged key

-- where a record is damaged
abbrev pub OnDamaged : {R : Type 0} → Result R EngineError → Type 0 → Type 0
OnDamaged (Err (engine.Damaged key)) P = P
OnDamaged _ P = Unit {0}
