use Rattle.std.proofs.Common.{◌≡◌, take}
use Rattle.ode_objects.specs.Objects.{taken_over}
use Rattle.ode_objects.proofs.changing.take_over.Given as goal

abbrev pub invariant-loop-i : goal.invariant-loop-i
invariant-loop-i l = l.activations.items ≡ taken_over (take l.i l.acts) l.initial.activations.items
