use Rattle.std.proofs.Common.{◌≡◌, map, take}
use Rattle.ode_states.specs.Advance.{step_by}
use Rattle.ode_states.proofs.advancing.steps_of.Given as goal

abbrev pub invariant-loop-a : goal.invariant-loop-a
invariant-loop-a l = l.steps.items ≡ map (step_by l.tables l.alphabets l.classes record { kind = l.kind; args = l.args; fields = l.own }) (take l.a-index l.acts)
