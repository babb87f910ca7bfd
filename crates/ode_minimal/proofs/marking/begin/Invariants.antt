use Rattle.std.proofs.Common.{ℕ, ◌<◌}
use Rattle.ode_minimal.specs.Marking.{IsMarking, MarksUnequal}
use Rattle.ode_minimal.proofs.marking.begin.Given as goal

abbrev pub invariant-loop-p : goal.invariant-loop-p
invariant-loop-p l = record {
  marking : IsMarking l.t l.marks;
  marked : (p : ℕ) → p < l.p → MarksUnequal l.t l.marks p l.t.states;
}
