use Rattle.std.proofs.Common.{◌≡◌, ◌++◌, length, map, take, drop}
use Rattle.ode_objects.specs.Objects.{turned_off}
use Rattle.ode_objects.proofs.changing.switch_off.Given as goal

abbrev pub invariant-loop-i : goal.invariant-loop-i
invariant-loop-i l = record {
  length : length l.activations.items ≡ length l.initial.activations.items;
  items : l.activations.items ≡ map (turned_off l.number) (take l.i l.initial.activations.items) ++ drop l.i l.initial.activations.items;
}
