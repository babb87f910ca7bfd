use Rattle.std.proofs.Common.{◌≡◌, take}
use Rattle.ode_host.specs.Replay.{disk_after}
use Rattle.ode_host.proofs.stop.image_after.Given as goal

abbrev pub invariant-loop-call : goal.invariant-loop-call
invariant-loop-call l = l.held.items ≡ (disk_after l.start (take l.call-index l.calls)).image
