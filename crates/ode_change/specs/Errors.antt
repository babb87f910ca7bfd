-- The errors of passes over records, as the engine's.
use Rattle.ode_passes.specs.declared.cause.Cause.{Cause}
use Rattle.ode_passes.specs.declared.cause.Cause.TheVariants as cause
use Rattle.ode_passes.specs.declared.error.OpenError.{OpenError}
use Rattle.ode_passes.specs.declared.error.OpenError.TheVariants as error
use Rattle.ode_transact.specs.declared.error.EngineError.{EngineError}
use Rattle.ode_transact.specs.declared.error.EngineError.TheVariants as engine
use Rattle.ode_value.specs.Keys.{counters_key}
use Rattle.ode_value.specs.declared.key.Key.{Key}

-- what isn't told at a record is told at the counters
abbrev pub place_of : Cause → Key
place_of (cause.Record key) = key
place_of (cause.Missing key) = key
place_of _ = counters_key

abbrev pub pass_error : OpenError → EngineError
pass_error error.Memory = engine.Memory
pass_error error.DiskFault = engine.DiskFault
pass_error (error.BadFile why) = engine.Damaged (place_of why)
