use Rattle.std.proofs.Common.{◌-◌}
use Rattle.ode_areas.proofs.Loading.{IsMade}
use Rattle.ode_areas.proofs.payload.replay.Given as goal

abbrev pub invariant-changes : goal.invariant-changes
invariant-changes l = IsMade l.payload l.count l.made l.fn.map l.map l.rest l.last

abbrev pub decreases-changes : goal.decreases-changes
decreases-changes l = l.count - l.made
