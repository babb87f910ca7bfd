use Rattle.ode_minimal.specs.Sources.{IsFilled}
use Rattle.ode_minimal.proofs.sources.sources_of.Given as goal

abbrev pub invariant-loop-q : goal.invariant-loop-q
invariant-loop-q l = IsFilled l.t l.lists.items l.q 0
