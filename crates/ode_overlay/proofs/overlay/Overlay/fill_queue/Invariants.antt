use Rattle.std.proofs.Common.{◌≡◌, ◌+◌, drop}
use Rattle.ode_objects.specs.Records.{AreShort}
use Rattle.ode_overlay.specs.Records.{queued_from}
use Rattle.ode_overlay.proofs.overlay.Overlay.fill_queue.Given as goal

abbrev pub invariant-loop-collected : goal.invariant-loop-collected
invariant-loop-collected l = record {
  rest : queued_from l.number (drop l.collected-index l.self.collected) l.batch ≡ queued_from l.self.first.next_entry l.self.collected l.initial.batch;
  number : l.number ≡ l.self.first.next_entry + l.collected-index;
  short : AreShort l.initial.batch → AreShort l.batch;
}
