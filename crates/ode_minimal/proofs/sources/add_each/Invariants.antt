use Rattle.ode_minimal.specs.Sources.{IsFilled}
use Rattle.ode_minimal.proofs.sources.add_each.Given as goal

abbrev pub invariant-loop-s : goal.invariant-loop-s
invariant-loop-s l = IsFilled l.t l.lists.items l.q l.s
