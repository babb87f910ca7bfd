use Rattle.std.proofs.Common.{◌≡◌, ℕ, [], length}
use Rattle.std.specs.Prelude.{slice_index_or}
use Rattle.ode_minimal.proofs.sources.none.Given as goal

abbrev pub invariant-loop-row : goal.invariant-loop-row
invariant-loop-row l = record {
  length : length l.lists.items ≡ l.row;
  empty : (k : ℕ) → slice_index_or l.lists.items k [] ≡ [];
}
