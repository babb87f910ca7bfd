use Rattle.std.proofs.Common.{◌≡◌, [], take}
use Rattle.ode_host.specs.Replay.{HostState, after}
use Rattle.ode_host.specs.Tears.{torn_behind, torn_image, pending_bytes}
use Rattle.ode_host.proofs.stop.torn_after.Given as goal

abbrev pub invariant-loop-call : goal.invariant-loop-call
invariant-loop-call l = (s : HostState) → s.disk.pending ≡ [] → s.disk.synced ≡ l.fn.held.items
    → let now = (after (take l.call-index l.calls) s).disk in
    (l.held.items ≡ torn_image l.fn.torn now.synced now.pending) × (l.torn ≡ torn_behind l.fn.torn (pending_bytes now.pending))
