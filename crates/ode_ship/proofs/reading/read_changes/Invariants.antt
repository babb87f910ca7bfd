use Rattle.std.proofs.Common.{◌-◌, ◌≤◌}
use Rattle.ode_keep.specs.declared.limits.TheConstants.{MAX_CHANGES}
use Rattle.ode_ship.proofs.Taking.{IsRead}
use Rattle.ode_ship.proofs.reading.read_changes.Given as goal

abbrev pub invariant-changes : goal.invariant-changes
invariant-changes l = record {
  read : IsRead l.bytes l.count l.taken l.batch l.rest l.last;
  few : l.count ≤ MAX_CHANGES;
}

abbrev pub decreases-changes : goal.decreases-changes
decreases-changes l = l.count - l.taken
