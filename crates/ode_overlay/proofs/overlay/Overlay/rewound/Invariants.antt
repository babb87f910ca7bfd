use Rattle.std.proofs.Common.{◌≡◌, []}
use Rattle.ode_overlay.specs.Rewinding.{rewound_from}
use Rattle.ode_overlay.proofs.overlay.Overlay.rewound.Given as goal

abbrev pub invariant-loop-id : goal.invariant-loop-id
invariant-loop-id l = rewound_from l.classes l.objects.entries l.id-iterator ≡ rewound_from l.classes [] l.self.objects
