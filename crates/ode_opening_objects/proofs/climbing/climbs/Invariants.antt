use Rattle.std.proofs.Common.{◌≡◌, ◌-◌, length}
use Rattle.ode_opening_objects.specs.Fitting.{climbs_to}
use Rattle.ode_opening_objects.proofs.climbing.climbs.Given as goal

abbrev pub invariant-loop-step : goal.invariant-loop-step
invariant-loop-step g l =
    climbs_to (g.S.Sought.passes l.sought) (l.steps - l.step) l.classes l.number ≡ climbs_to (g.S.Sought.passes l.sought) (length l.classes) l.classes l.initial.number
