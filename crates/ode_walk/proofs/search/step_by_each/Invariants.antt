use Rattle.std.proofs.Common.{◌<◌, length}
use Rattle.ode_walk.specs.Search.{IsSearch}
use Rattle.ode_walk.proofs.search.step_by_each.Given as goal

abbrev pub invariant-loop-symbol : goal.invariant-loop-symbol
invariant-loop-symbol l = record {
  within : l.head < length l.search.visits;
  search : IsSearch l.stored l.built l.search.visits l.search.seen l.head l.symbol;
}
