use Rattle.std.proofs.Common.{◌≡◌, take}
use Rattle.std.specs.List.{sum_by}
use Rattle.ode_objects.specs.Weights.{capped, active_weight}
use Rattle.ode_objects.proofs.weights.actives_weight.Given as goal

abbrev pub invariant-loop-active : goal.invariant-loop-active
invariant-loop-active l = l.weight ≡ capped (sum_by active_weight (take l.active-index l.activations))
