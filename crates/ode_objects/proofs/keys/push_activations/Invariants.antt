use Rattle.std.proofs.Common.{◌≡◌, ◌++◌, take}
use Rattle.ode_objects.specs.Objects.{activation_keys}
use Rattle.ode_objects.proofs.keys.push_activations.Given as goal

abbrev pub invariant-loop-active : goal.invariant-loop-active
invariant-loop-active l = l.keys ≡ l.initial.keys ++ activation_keys l.id (take l.active-index l.activations)
