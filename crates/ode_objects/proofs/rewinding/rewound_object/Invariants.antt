use Rattle.std.proofs.Common.{◌≡◌, map, take}
use Rattle.ode_objects.specs.Rewinding.{rewound_active}
use Rattle.ode_objects.proofs.rewinding.rewound_object.Given as goal

abbrev pub invariant-loop-active : goal.invariant-loop-active
invariant-loop-active l = l.activations ≡ map (rewound_active l.classes l.now.activations) (take l.active-index l.first.activations)
