use Rattle.std.proofs.Common.{◌≤◌, take}
use Rattle.ode_heights.specs.declared.height.TheConstants.{HEIGHT_LIMIT}
use Rattle.ode_heights.specs.Heights.{highest}
use Rattle.ode_heights.specs.Lowest.{lowest}
use Rattle.ode_heights.proofs.Depths.{ReadsTo}
use Rattle.ode_heights.proofs.deep.first_too_deep.Given as goal

abbrev pub invariant-loop-at : goal.invariant-loop-at
invariant-loop-at l = record {
  reads : ReadsTo l.fn.start (take l.at l.tokens) l.items l.made;
  within : highest (lowest l.items l.made) ≤ HEIGHT_LIMIT;
}
