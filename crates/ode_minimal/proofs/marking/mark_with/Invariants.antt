use Rattle.std.proofs.Common.{ℕ, ◌<◌}
use Rattle.std.specs.Prelude.{slice_index}
use Rattle.ode_minimal.specs.Marking.{IsMarking, Grows, IsMarked}
use Rattle.ode_minimal.proofs.marking.mark_with.Given as goal

abbrev pub invariant-loop-q : goal.invariant-loop-q
invariant-loop-q l = record {
  marking : IsMarking l.t l.marks;
  grows : Grows l.initial.marks l.marks;
  marked : (j : ℕ) → j < l.q-index → IsMarked l.t l.marks l.p (slice_index l.others j);
}
