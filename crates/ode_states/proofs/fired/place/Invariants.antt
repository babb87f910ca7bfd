use Rattle.std.proofs.Common.{◌≡◌, ◌-◌, ◌≤◌, ◌++◌, length, take, drop}
use Rattle.ode_states.specs.Advance.{placed}
use Rattle.ode_states.proofs.fired.place.Given as goal

-- the firing goes among those from here on
abbrev pub invariant-loop-at : goal.invariant-loop-at
invariant-loop-at l =
    (l.at ≤ length l.fired) × (l.fired ≡ l.initial.fired) × (placed l.fired l.f ≡ take l.at l.fired ++ placed (drop l.at l.fired) l.f)

abbrev pub decreases-loop-at : goal.decreases-loop-at
decreases-loop-at l = length l.fired - l.at
