use Rattle.std.proofs.Common.{◌≤◌, ◌-◌, length}
use Rattle.ode_run.proofs.places.touched_count.Given as goal

abbrev pub invariant-counting : goal.invariant-counting
invariant-counting l = l.count ≤ length l.overlay.touched

abbrev pub decreases-counting : goal.decreases-counting
decreases-counting l = length l.overlay.touched - l.count
