-- What the heap answers, as what stands on objects names it.
pub use Rattle.ode_heap.specs.Answering.{counters_of}
pub use Rattle.ode_heap.specs.Answers.{Found, There, Broken}
pub use Rattle.ode_heap.specs.Objects.{object_in}
pub use Rattle.ode_heap.specs.declared.error.HeapError.{HeapError}
pub use Rattle.ode_heap.specs.declared.error.HeapError.TheVariants.{Memory, DiskFault, TooLarge, Damaged}
pub use Rattle.ode_heap.specs.declared.object.ObjectHead.{ObjectHead}
