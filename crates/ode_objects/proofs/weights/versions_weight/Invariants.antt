use Rattle.std.proofs.Common.{◌≡◌, take}
use Rattle.std.specs.List.{sum_by}
use Rattle.ode_objects.specs.Weights.{capped, version_weight}
use Rattle.ode_objects.proofs.weights.versions_weight.Given as goal

abbrev pub invariant-loop-version : goal.invariant-loop-version
invariant-loop-version l = l.weight ≡ capped (sum_by (version_weight l.fields) (take l.version-index l.versions))
