-- What the heap's errors are to a standby.
use Rattle.std.specs.Prelude.{Bool, true, false, Result, Err}
use Rattle.ode_heap.specs.declared.error.HeapError.{HeapError}
use Rattle.ode_heap.specs.declared.error.HeapError.TheVariants as heap
use Rattle.ode_standby.specs.declared.error.ShipError.{ShipError}
use Rattle.ode_standby.specs.declared.error.ShipError.TheVariants.{Memory, DiskFault, TooLarge, Damaged}

abbrev pub error_of : HeapError → ShipError
error_of heap.Memory = Memory
error_of heap.DiskFault = DiskFault
error_of (heap.TooLarge total) = TooLarge total
error_of (heap.Damaged key) = Damaged key

-- whether the disk didn't fail
abbrev pub is_usable : {A : Type 0} → Result A ShipError → Bool
is_usable (Err DiskFault) = false
is_usable _ = true
