use Rattle.std.proofs.Common.{◌<◌, length}
use Rattle.ode_walk.specs.Reaching.{IsFront}
use Rattle.ode_walk.proofs.reaching.step_by_each.Given as goal

abbrev pub invariant-loop-symbol : goal.invariant-loop-symbol
invariant-loop-symbol l = record {
  within : l.head < length l.front.states;
  front : IsFront l.table l.front.states l.front.seen l.head l.symbol;
}
