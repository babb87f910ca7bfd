use Rattle.std.proofs.Common.{◌∙◌, ◌+◌}
use Rattle.std.proofs.lemmas.Result.{on_ok_weaker}
use Rattle.ode_host.specs.Host.{LeavesTorn}
use Rattle.ode_host.proofs.Moments.{joined, weaker}
use Rattle.ode_gate.specs.Changes.{LeavesHeader}
use Rattle.ode_gate.specs.Slots.{place_of}
use Rattle.ode_gate.proofs.Changing.{changed, closing, filled, fills, opens_slot, ready}
use Rattle.ode_gate.proofs.change.change_header.Goals as goal
use Rattle.ode_gate.specs.declared.places.TheConstants.{HEADER_LEN}

pub returns-in_err-close_slot-clause-any_moment : goal.returns-in_err-close_slot-clause-any_moment
returns-in_err-close_slot-clause-any_moment g c image older follows stands =
    let view = g.H.Host.view in
    closing image older c.args.h.now follows c.requires (view c.args.host.now) (view c.close_slot.new.host) (g.met.H.Host.text_stands c.args.host.now) stands
    (λ shut. c.close_slot.ensures.nothing image stands.tells shut) (c.close_slot.ensures.any_moment image stands)

pub returns-in_err-fill_slot-clause-any_moment : goal.returns-in_err-fill_slot-clause-any_moment
returns-in_err-fill_slot-clause-any_moment g c image older follows stands =
    let old = g.H.Host.view c.args.host.now in
    let mid = g.H.Host.view c.close_slot.new.host in
    let new = g.H.Host.view c.fill_slot.new.host in
    let h = c.args.h.now in
    let is_slot = c.requires in
    let so_far = closing image older h follows is_slot old mid (g.met.H.Host.text_stands c.args.host.now) stands
    (λ shut. c.close_slot.ensures.nothing image stands.tells shut) (c.close_slot.ensures.any_moment image stands) in
    let now = ready image older h follows is_slot old mid stands (λ shut. c.close_slot.ensures.nothing image stands.tells shut)
    (λ opened. c.in_ok-close_slot.ensures.closed image stands.tells opened) in
    joined old mid new (LeavesHeader image older h old) so_far
    (weaker mid new (LeavesTorn (place_of h.slot + 1) HEADER_LEN now.now mid) (LeavesHeader image older h old)
    (fills image older h follows is_slot old mid now c.close_slot.ensures.leaves.text) (c.fill_slot.ensures.any_moment now.now now.stands))

pub returns-clause-any_moment : goal.returns-clause-any_moment
returns-clause-any_moment g c image older follows stands =
    let old = g.H.Host.view c.args.host.now in
    let mid = g.H.Host.view c.close_slot.new.host in
    let full = g.H.Host.view c.fill_slot.new.host in
    let new = g.H.Host.view c.open_slot.new.host in
    let h = c.args.h.now in
    let is_slot = c.requires in
    let so_far = closing image older h follows is_slot old mid (g.met.H.Host.text_stands c.args.host.now) stands
    (λ shut. c.close_slot.ensures.nothing image stands.tells shut) (c.close_slot.ensures.any_moment image stands) in
    let now = ready image older h follows is_slot old mid stands (λ shut. c.close_slot.ensures.nothing image stands.tells shut)
    (λ opened. c.in_ok-close_slot.ensures.closed image stands.tells opened) in
    let further = joined old mid full (LeavesHeader image older h old) so_far
    (weaker mid full (LeavesTorn (place_of h.slot + 1) HEADER_LEN now.now mid) (LeavesHeader image older h old)
    (fills image older h follows is_slot old mid now c.close_slot.ensures.leaves.text) (c.fill_slot.ensures.any_moment now.now now.stands)) in
    let filled_now = filled image older h follows is_slot mid full now (c.in_ok-fill_slot.ensures.filled now.now now.stands.tells) in
    joined old full new (LeavesHeader image older h old) further
    (weaker full new (LeavesTorn (place_of h.slot) 1 filled_now.now full) (LeavesHeader image older h old)
    (opens_slot image older h follows is_slot old full filled_now (c.fill_slot.ensures.puts.text ∙ c.close_slot.ensures.leaves.text)) (c.open_slot.ensures.any_moment filled_now.now filled_now.stands))

pub returns-clause-changed : goal.returns-clause-changed
returns-clause-changed g c =
    let old = g.H.Host.view c.args.host.now in
    let mid = g.H.Host.view c.close_slot.new.host in
    let full = g.H.Host.view c.fill_slot.new.host in
    let new = g.H.Host.view c.open_slot.new.host in
    let h = c.args.h.now in
    let is_slot = c.requires in
    on_ok_weaker c.open_slot.result
    (λ opened image older follows stands.
    let now = ready image older h follows is_slot old mid stands (λ shut. c.close_slot.ensures.nothing image stands.tells shut)
    (λ opened. c.in_ok-close_slot.ensures.closed image stands.tells opened) in
    let filled_now = filled image older h follows is_slot mid full now (c.in_ok-fill_slot.ensures.filled now.now now.stands.tells) in
    changed image older h follows is_slot full new filled_now (opened filled_now.now filled_now.stands.tells))
    c.open_slot.ensures.opened
