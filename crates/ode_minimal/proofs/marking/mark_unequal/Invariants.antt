use Rattle.ode_minimal.specs.Marking.{IsMarking, Grows, MarksUnequal}
use Rattle.ode_minimal.proofs.marking.mark_unequal.Given as goal

abbrev pub invariant-loop-q : goal.invariant-loop-q
invariant-loop-q l = record {
  marking : IsMarking l.t l.marks;
  grows : Grows l.initial.marks l.marks;
  marked : MarksUnequal l.t l.marks l.p l.q;
}
