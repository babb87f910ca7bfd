use Rattle.ode_minimal.specs.Marking.{IsMarking, Grows, MarksSources, pair_at}
use Rattle.ode_minimal.proofs.marking.step_back.Given as goal

abbrev pub invariant-loop-s : goal.invariant-loop-s
invariant-loop-s l = record {
  marking : IsMarking l.t l.marks;
  grows : Grows l.initial.marks l.marks;
  marked : MarksSources l.t l.marks (pair_at l.initial.marks.pairs l.head) l.s;
}
