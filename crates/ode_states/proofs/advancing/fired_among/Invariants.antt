use Rattle.std.proofs.Common.{◌≡◌, map, take}
use Rattle.ode_types.specs.declared.running.Running.{Running}
use Rattle.ode_states.specs.declared.step.Step.{Step}
use Rattle.ode_states.specs.Advance.{fires_among}
use Rattle.ode_states.proofs.advancing.fired_among.Given as goal

abbrev pub invariant-loop-i : goal.invariant-loop-i
invariant-loop-i l = (f : Running → Step) → l.steps ≡ map f l.acts → l.fired ≡ fires_among f (take l.i l.acts)
