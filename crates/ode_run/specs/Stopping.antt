-- How a call of the overlay ends, as a call of a context.
use Rattle.std.specs.Prelude.{Result, Ok, Err}
use Rattle.ode_expr.specs.declared.stop.EvalStop.{EvalStop}
use Rattle.ode_expr.specs.declared.stop.EvalStop.TheVariants as eval
use Rattle.ode_interpreter.specs.declared.stop.Stop.{Stop}
use Rattle.ode_interpreter.specs.declared.stop.Stop.TheVariants as stop
use Rattle.ode_overlay.specs.declared.error.OverlayError.{OverlayError}
use Rattle.ode_overlay.specs.declared.error.OverlayError.TheVariants as error
use Rattle.ode_run_frame.specs.declared.unread.Unread.{Unread}
use Rattle.ode_run_frame.specs.declared.unread.Unread.TheVariants as unread
use Rattle.ode_value.specs.Evaluation.{reason_of}
use Rattle.ode_value.specs.declared.arithmetic.Fault.{Fault}
use Rattle.ode_value.specs.declared.reason.Reason.TheVariants as reason

abbrev pub stop_as : OverlayError → Stop
stop_as error.Memory = stop.Memory
stop_as error.DiskFault = stop.DiskFault
stop_as (error.Damaged key) = stop.Damaged key
stop_as (error.NoObject id) = stop.Abort (reason.NoObject id)
stop_as (error.NoVersion r) = stop.Abort (reason.NoVersion r)
stop_as (error.LastVersion id) = stop.Abort (reason.LastVersion id)
stop_as error.TooManyChanges = stop.Abort reason.Size
stop_as error.TooLong = stop.Abort reason.Size
stop_as error.NoNumber = stop.Abort reason.Space

abbrev pub ended : {R : Type 0} → Result R OverlayError → Result R Stop
ended (Ok v) = Ok v
ended (Err why) = Err (stop_as why)

-- How one ends that only reads, which is never refused.
abbrev pub read_stop : OverlayError → Stop
read_stop error.DiskFault = stop.DiskFault
read_stop (error.Damaged key) = stop.Damaged key
read_stop error.Memory = stop.Memory
read_stop (error.NoObject id) = stop.Memory
read_stop (error.NoVersion r) = stop.Memory
read_stop (error.LastVersion id) = stop.Memory
read_stop error.TooManyChanges = stop.Memory
read_stop error.TooLong = stop.Memory
read_stop error.NoNumber = stop.Memory

abbrev pub read : {R : Type 0} → Result R OverlayError → Result R Stop
read (Ok v) = Ok v
read (Err why) = Err (read_stop why)

-- what an evaluation answered, as a call of a context: what it came to, or why nothing was read
abbrev pub read_as : {R : Type 0} → Result R (EvalStop Unread) → Result (Result R Fault) Stop
read_as (Ok v) = Ok (Ok v)
read_as (Err eval.Memory) = Err stop.Memory
read_as (Err (eval.Fault fault)) = Ok (Err fault)
read_as (Err (eval.Frame unread.DiskFault)) = Err stop.DiskFault
read_as (Err (eval.Frame (unread.Damaged key))) = Err (stop.Damaged key)

-- what it came to, as one
abbrev pub valued_as : {R : Type 0} → Result R Fault → Result R Stop
valued_as (Ok v) = Ok v
valued_as (Err fault) = Err (stop.Abort (reason_of fault))
