-- What a piece without a statement is answered with.
use Rattle.std.specs.Prelude.{Result, Ok, Err}
use Rattle.ode_engine.specs.declared.engine.Done.{Done}
use Rattle.ode_engine.specs.declared.engine.Done.TheVariants as done
use Rattle.ode_language.specs.declared.reading.ReadStop.{ReadStop}
use Rattle.ode_language.specs.declared.reading.ReadStop.TheVariants as read
use Rattle.ode_transact.specs.declared.error.EngineError.{EngineError}
use Rattle.ode_transact.specs.declared.error.EngineError.TheVariants as engine

-- where a piece gives no statement
abbrev pub unread : ReadStop → Result Done EngineError
unread read.Memory = Err engine.Memory
unread (read.Refused why) = Ok (done.Refused why)
