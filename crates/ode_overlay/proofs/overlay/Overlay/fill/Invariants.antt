use Rattle.std.proofs.Common.{◌≡◌, drop}
use Rattle.ode_objects.specs.Records.{AreShort}
use Rattle.ode_overlay.specs.Records.{filled}
use Rattle.ode_overlay.proofs.overlay.Overlay.fill.Given as goal

abbrev pub invariant-loop-key : goal.invariant-loop-key
invariant-loop-key l = record {
  rest : filled l.self (drop l.key-index l.self.keys) l.batch ≡ filled l.self l.self.keys l.initial.batch;
  short : AreShort l.initial.batch → AreShort l.batch;
}
