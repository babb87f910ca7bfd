-- Which status a run of a script ends with.
use Rattle.std.specs.Prelude.{Result, Ok, Err}
use Rattle.ode_host.specs.declared.status.Status.{Status}
use Rattle.ode_host.specs.declared.status.Status.TheVariants as status
use Rattle.ode_script.specs.declared.reader.ScriptError.{ScriptError}
use Rattle.ode_script.specs.declared.reader.ScriptError.TheVariants as script
use Rattle.ode_transact.specs.declared.error.EngineError.{EngineError}
use Rattle.ode_transact.specs.declared.error.EngineError.TheVariants as engine
use Rattle.ode_value.specs.declared.key.Key.{Key}

-- what a run ends with where a call doesn't answer: a status, or the key of a damaged record
abbrev pub ended_by : EngineError → Result Status Key
ended_by engine.Memory = Ok status.Memory
ended_by engine.DiskFault = Ok status.DiskFault
ended_by engine.WriteFault = Ok status.WriteFault
ended_by (engine.Damaged key) = Err key

-- the status of an end
abbrev pub status_in : Result Status Key → Status
status_in (Ok s) = s
status_in (Err key) = status.BadFile

-- where the script gives no piece
abbrev pub status_of_script : ScriptError → Status
status_of_script script.Memory = status.Memory
status_of_script script.ReadFault = status.ReadFault
status_of_script script.LongStatement = status.LongStatement
status_of_script script.LongScript = status.LongScript

-- the statuses that a run of a script may end with
abbrev pub IsRunStatus : Status → Type 0
IsRunStatus status.Ok = Unit {0}
IsRunStatus status.Refused = Unit {0}
IsRunStatus status.DiskFault = Unit {0}
IsRunStatus status.ReadFault = Unit {0}
IsRunStatus status.WriteFault = Unit {0}
IsRunStatus status.Memory = Unit {0}
IsRunStatus status.LongStatement = Unit {0}
IsRunStatus status.LongScript = Unit {0}
IsRunStatus status.Usage = ⊥
IsRunStatus status.BadFile = ⊥

-- the statuses of a run that ended by itself
abbrev pub IsEnding : Status → Type 0
IsEnding status.Ok = Unit {0}
IsEnding status.Refused = Unit {0}
IsEnding status.LongStatement = Unit {0}
IsEnding status.LongScript = Unit {0}
IsEnding status.Usage = ⊥
IsEnding status.BadFile = ⊥
IsEnding status.DiskFault = ⊥
IsEnding status.ReadFault = ⊥
IsEnding status.WriteFault = ⊥
IsEnding status.Memory = ⊥
