-- What is read through an overlay, beside what bones have.
use Rattle.std.specs.Prelude.{ℕ, List}
use Rattle.ode_expr.specs.Answers.{number_of}
use Rattle.ode_expr.specs.declared.stop.EvalStop.{EvalStop}
use Rattle.ode_expr.specs.declared.stop.EvalStop.TheVariants as eval
use Rattle.ode_heap.specs.declared.object.ObjectHead.{ObjectHead}
use Rattle.ode_keep.specs.Entries.{Entries}
use Rattle.ode_overlay.specs.Answers.{Answer, ◌>>=◌}
use Rattle.ode_overlay.specs.Layers.{Layer}
use Rattle.ode_overlay.specs.Reading.{ReadsAs, not_null, object, or_else, read}
use Rattle.ode_overlay.specs.declared.error.OverlayError.{OverlayError}
use Rattle.ode_overlay.specs.declared.error.OverlayError.TheVariants as error
use Rattle.ode_run_frame.specs.declared.unread.Unread.{Unread}
use Rattle.ode_run_frame.specs.declared.unread.Unread.TheVariants as unread
use Rattle.ode_value.specs.Evaluation.{field_of}
use Rattle.ode_value.specs.Keys.{counters_key}
use Rattle.ode_value.specs.Worlds.{Bones}
use Rattle.ode_value.specs.declared.arithmetic.Fault.TheVariants as fault
use Rattle.ode_value.specs.declared.class.Class.{Class}
use Rattle.ode_value.specs.declared.value.Ref.{Ref}
use Rattle.ode_versions.specs.Versions.{found}

-- the number of the version that a reference denotes
abbrev pub number_in : Ref → ObjectHead → Answer ℕ
number_in r head = or_else (error.NoVersion r) (found r.version head.versions)

unfoldable pub number_read : Entries → Ref → Layer → Answer ℕ
number_read base r x = do
  _ ← not_null r
  head ← object base r.object x
  head ← or_else (error.NoObject r.object) head
  number_in r head

-- through an overlay over these records these bones are read
pub record Reads (classes : List Class) (base : Entries) (x : Layer) (b : Bones) : Type 0 where
  pub field : (r : Ref) (slot : ℕ) → ReadsAs (read classes base r slot x) (field_of b slot r)
  pub number : (r : Ref) → ReadsAs (number_read base r x) (number_of b r)

-- why nothing was read
abbrev pub stop_of : OverlayError → EvalStop Unread
stop_of error.Memory = eval.Memory
stop_of error.DiskFault = eval.Frame unread.DiskFault
stop_of (error.Damaged key) = eval.Frame (unread.Damaged key)
stop_of (error.NoObject id) = eval.Fault (fault.NoObject id)
stop_of (error.NoVersion r) = eval.Fault (fault.NoVersion r)
stop_of _ = eval.Frame (unread.Damaged counters_key)
