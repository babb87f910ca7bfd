use Rattle.std.proofs.Common.{◌*◌, ◌-◌}
use Rattle.ode_walk.specs.Search.{IsSearch}
use Rattle.ode_walk.proofs.search.explore.Given as goal

abbrev pub invariant-loop-head : goal.invariant-loop-head
invariant-loop-head l = IsSearch l.stored l.built l.search.visits l.search.seen l.head 0

abbrev pub decreases-loop-head : goal.decreases-loop-head
decreases-loop-head l = l.stored.states * l.built.states - l.head
