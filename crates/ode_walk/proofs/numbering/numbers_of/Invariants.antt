use Rattle.std.proofs.Common.{◌≡◌, ℕ, ◌<◌, length, Some, None}
use Rattle.std.specs.Prelude.{IsSome, slice_index_or}
use Rattle.ode_walk.specs.Search.{IsMet, visit_at}
use Rattle.ode_walk.proofs.numbering.numbers_of.Given as goal

abbrev pub invariant-loop-visit : goal.invariant-loop-visit
invariant-loop-visit l = record {
  length : length l.numbers ≡ l.states;
  given : (q r : ℕ) → slice_index_or l.numbers q None ≡ Some r → IsMet l.visits q r;
  each : (k : ℕ) → k < l.visit-index → IsSome (slice_index_or l.numbers (visit_at l.visits k).stored None);
}
