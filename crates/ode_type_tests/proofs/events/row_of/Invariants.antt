use Rattle.std.specs.Prelude.{All}
use Rattle.ode_timer.specs.Due.{Recurs}
use Rattle.ode_type_tests.proofs.events.row_of.Given as goal

abbrev pub invariant-loop-kind : goal.invariant-loop-kind
invariant-loop-kind l =
    (goal.iterator-loop-kind).can_next l.kind-iterator
    × (goal.iterator-loop-kind).is_finite l.kind-iterator
    × All Recurs l.kinds
