use Rattle.std.proofs.Common.{◌≡◌, ◌++◌, ◌-◌, drop, length}
use Rattle.ode_run.proofs.places.touched_in.Given as goal

-- the objects so far and those that are left are all
abbrev pub invariant-loop-id : goal.invariant-loop-id
invariant-loop-id l = l.ids ++ drop (length l.ids) l.overlay.touched ≡ l.overlay.touched

abbrev pub decreases-loop-id : goal.decreases-loop-id
decreases-loop-id l = length l.overlay.touched - length l.ids
