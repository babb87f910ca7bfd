use Rattle.std.proofs.Common.{ℕ, ◌<◌, ◌≤◌, ◌-◌, ◌*◌, length}
use Rattle.ode_minimal.specs.Marking.{IsMarking, MarksUnequal, MarksSources, pair_at}
use Rattle.ode_minimal.proofs.marking.apart.Given as goal

abbrev pub invariant-loop-head : goal.invariant-loop-head
invariant-loop-head l = record {
  marking : IsMarking l.t l.marks;
  unequal : (p : ℕ) → p < l.t.states → MarksUnequal l.t l.marks p l.t.states;
  within : l.head ≤ length l.marks.pairs;
  sources : (k : ℕ) → k < l.head → MarksSources l.t l.marks (pair_at l.marks.pairs k) l.t.symbols;
}

abbrev pub decreases-loop-head : goal.decreases-loop-head
decreases-loop-head l = l.t.states * l.t.states - l.head
