-- Where errors come from.
use Rattle.ode_expr.specs.declared.stop.EvalStop.{EvalStop}
use Rattle.ode_expr.specs.declared.stop.EvalStop.TheVariants as eval
use Rattle.ode_heap.specs.declared.error.HeapError.{HeapError}
use Rattle.ode_heap.specs.declared.error.HeapError.TheVariants as heap
use Rattle.ode_query.specs.declared.error.QueryError.{QueryError}
use Rattle.ode_query.specs.declared.error.QueryError.TheVariants as error
use Rattle.ode_run_frame.specs.declared.unread.Unread.{Unread}
use Rattle.ode_run_frame.specs.declared.unread.Unread.TheVariants as unread
use Rattle.ode_value.specs.Keys.{counters_key}

-- that of a heap; no read is refused for its size
abbrev pub error_of : HeapError → QueryError
error_of heap.Memory = error.Memory
error_of heap.DiskFault = error.DiskFault
error_of (heap.TooLarge total) = error.Damaged counters_key
error_of (heap.Damaged key) = error.Damaged key

-- that of an expression
abbrev pub stopped_by : EvalStop Unread → QueryError
stopped_by eval.Memory = error.Memory
stopped_by (eval.Fault fault) = error.Fault fault
stopped_by (eval.Frame unread.DiskFault) = error.DiskFault
stopped_by (eval.Frame (unread.Damaged key)) = error.Damaged key
