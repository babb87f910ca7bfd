use Rattle.std.proofs.Common.{ℕ, ◌<◌}
use Rattle.std.specs.Prelude.{slice_index}
use Rattle.ode_minimal.specs.Marking.{IsMarking, Grows, MarksAll}
use Rattle.ode_minimal.proofs.marking.mark_each.Given as goal

abbrev pub invariant-loop-p : goal.invariant-loop-p
invariant-loop-p l = record {
  marking : IsMarking l.t l.marks;
  grows : Grows l.initial.marks l.marks;
  marked : (i : ℕ) → i < l.p-index → MarksAll l.t l.marks (slice_index l.firsts i) l.seconds;
}
