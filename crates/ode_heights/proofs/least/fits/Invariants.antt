use Rattle.std.proofs.Common.{◌≡◌, ◌≤◌, length}
use Rattle.ode_heights.specs.declared.height.TheConstants.{HEIGHT_LIMIT}
use Rattle.ode_heights.specs.Heights.{highest}
use Rattle.ode_heights.specs.Lowest.{lowest}
use Rattle.ode_heights.proofs.least.fits.Given as goal

abbrev pub invariant-loop-item : goal.invariant-loop-item
invariant-loop-item l = record {
  same : lowest l.items l.heights ≡ lowest l.fn.items l.fn.heights;
  within : highest l.heights ≤ HEIGHT_LIMIT;
}

abbrev pub decreases-loop-item : goal.decreases-loop-item
decreases-loop-item l = length l.items
