use Rattle.std.proofs.Common.{ℕ, subst}
use Rattle.ode_host.specs.Host.{LeavesOnly, LeavesTorn}
use Rattle.ode_gate.specs.Slots.{place_of}
use Rattle.ode_gate.proofs.Changing.{torn_later}
use Rattle.ode_gate.proofs.change.close_slot.Goals as goal

pub returns-in_err-write_synced-clause-any_moment : goal.returns-in_err-write_synced-clause-any_moment
returns-in_err-write_synced-clause-any_moment g c image stands =
    let mid = g.H.Host.view c.is_open.new.host in
    let new = g.H.Host.view c.write_synced.new.host in
    torn_later (place_of c.args.slot) 1 image (g.H.Host.view c.args.host.now) mid new (g.met.H.Host.text_stands c.args.host.now) stands c.is_open.ensures.looks
    (λ still. subst (λ (k : ℕ). LeavesOnly mid new (LeavesTorn k 1 image mid)) c.place_of.ensures (c.write_synced.ensures.any_moment image still))

pub returns-in_ok-write_synced-clause-any_moment : goal.returns-in_ok-write_synced-clause-any_moment
returns-in_ok-write_synced-clause-any_moment g c image stands =
    let mid = g.H.Host.view c.is_open.new.host in
    let new = g.H.Host.view c.write_synced.new.host in
    torn_later (place_of c.args.slot) 1 image (g.H.Host.view c.args.host.now) mid new (g.met.H.Host.text_stands c.args.host.now) stands c.is_open.ensures.looks
    (λ still. subst (λ (k : ℕ). LeavesOnly mid new (LeavesTorn k 1 image mid)) c.place_of.ensures (c.write_synced.ensures.any_moment image still))
