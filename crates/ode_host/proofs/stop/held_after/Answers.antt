use Rattle.std.proofs.Common.{◌∙◌, take, ap, sym}
use Rattle.ode_host.specs.Replay.{HostState, after, first}
use Rattle.ode_host.specs.Tears.{torn_image}
use Rattle.ode_host.proofs.Tearing.{last_settled, after_split}
use Rattle.ode_host.proofs.stop.held_after.Goals as goal

pub returns : goal.returns
returns c =
    let calls = c.args.calls.now in
    let last = c.last_sync-last.result in
    let s = after (take last calls) (first c.args.start.now) in
    let settled = last_settled c.args.start.now calls last c.last_sync-last.ensures in
    c.in_ok-torn_after.ensures s settled.0 (settled.1 ∙ sym c.in_ok-held.ensures)
    ∙ ap (λ (s : HostState). torn_image c.args.torn s.disk.synced s.disk.pending) (after_split calls last (first c.args.start.now))
