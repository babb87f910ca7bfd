use Rattle.std.proofs.Common.{◌≡◌, ◌≤◌, drop}
use Rattle.ode_heights.specs.declared.height.TheConstants.{HEIGHT_LIMIT}
use Rattle.ode_heights.specs.Heights.{highest}
use Rattle.ode_heights.specs.Lowest.{raised_all}
use Rattle.ode_heights.proofs.least.raise_all.Given as goal

abbrev pub invariant-loop-effect : goal.invariant-loop-effect
invariant-loop-effect l = record {
  same : raised_all (drop l.effect-index l.effects) l.heights ≡ raised_all l.effects l.fn.heights;
  within : highest l.heights ≤ HEIGHT_LIMIT;
}
