use Rattle.std.proofs.Common.{◌<◌, ◌++◌, ℕ, List, length}
use Rattle.std.specs.Prelude.{reverse}
use Rattle.ode_value.specs.Tables.{Table}
use Rattle.ode_walk.specs.Search.{IsTree, IsWordBack}
use Rattle.ode_walk.proofs.VisitLaws.{IsBehind}
use Rattle.ode_walk.proofs.visit.word_to.Given as goal

-- the symbols so far, turned round, lead from the visit at `place` to the one at `at`
abbrev pub invariant-loop-place : goal.invariant-loop-place
invariant-loop-place l = record {
  within : l.place < length l.visits;
  behind : (stored built : Table) → IsTree stored built l.visits → IsBehind stored built l.visits l.at l.place (reverse l.word.items);
  back : (rest : List ℕ) → IsWordBack l.visits l.place rest → IsWordBack l.visits l.at (l.word.items ++ rest);
}

abbrev pub decreases-loop-place : goal.decreases-loop-place
decreases-loop-place l = l.place
