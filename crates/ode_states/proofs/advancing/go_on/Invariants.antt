use Rattle.std.proofs.Common.{◌≡◌, ◌++◌, length, map, take, drop}
use Rattle.ode_types.specs.declared.running.Running.{Running}
use Rattle.ode_states.specs.declared.step.Step.{Step}
use Rattle.ode_states.specs.Advance.{moved}
use Rattle.ode_states.proofs.advancing.go_on.Given as goal

abbrev pub invariant-loop-i : goal.invariant-loop-i
invariant-loop-i l = record {
  length : length l.acts.items ≡ length l.initial.acts.items;
  acts : (f : Running → Step) → l.steps ≡ map f l.initial.acts.items → l.acts.items ≡ map (λ a. moved a (f a)) (take l.i l.initial.acts.items) ++ drop l.i l.initial.acts.items;
}
