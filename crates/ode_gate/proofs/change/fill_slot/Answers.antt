use Rattle.std.proofs.Common.{◌≡◌, ◌∙◌, ◌+◌, ◌∷◌, List, ℕ, ap, arith, drop, length, subst, take}
use Rattle.std.proofs.lemmas.List.{take_all}
use Rattle.ode_host.specs.Host.{LeavesOnly, LeavesTorn, Stands, written_over}
use Rattle.ode_gate.specs.declared.header.Header.{Header}
use Rattle.ode_gate.specs.Headers.{header_bytes}
use Rattle.ode_gate.proofs.Spelling.{length-header_bytes}
use Rattle.ode_gate.proofs.change.fill_slot.Goals as goal
use Rattle.ode_gate.specs.declared.places.TheConstants.{HEADER_LEN}
use Rattle.ode_gate.specs.declared.gate.TheConstants.{OPEN}

-- what stands behind the gate in a filled buffer
behind : (buffer : List ℕ) (h : Header) → buffer ≡ OPEN ∷ header_bytes h → take HEADER_LEN (drop 1 buffer) ≡ header_bytes h
behind buffer h is = ap (λ (l : List ℕ). take HEADER_LEN (drop 1 l)) is ∙ take_all HEADER_LEN (header_bytes h) (omega (arith, length-header_bytes h))

pub returns-clause-filled : goal.returns-clause-filled
returns-clause-filled g c image tells =
    let new = g.H.Host.view c.write_synced.new.host in
    subst (λ (k : ℕ). Stands (written_over image (k + 1) (header_bytes c.args.h.now)) new) c.place_of.ensures
    (subst (λ (l : List ℕ). Stands (written_over image (c.place_of.result + 1) l) new) (behind c.fill.new.buffer c.args.h.now c.fill.ensures) (c.in_ok-write_synced.ensures.stands image tells))

pub returns-clause-any_moment : goal.returns-clause-any_moment
returns-clause-any_moment g c image stands =
    let old = g.H.Host.view c.args.host.now in
    let new = g.H.Host.view c.write_synced.new.host in
    let long : length (take HEADER_LEN (drop 1 c.fill.new.buffer)) ≡ HEADER_LEN = ap length (behind c.fill.new.buffer c.args.h.now c.fill.ensures) ∙ length-header_bytes c.args.h.now in
    subst (λ (k : ℕ). LeavesOnly old new (LeavesTorn (k + 1) HEADER_LEN image old)) c.place_of.ensures
    (subst (λ (n : ℕ). LeavesOnly old new (LeavesTorn (c.place_of.result + 1) n image old)) long (c.write_synced.ensures.any_moment image stands))

pub returns-in_err-write_synced-clause-any_moment : goal.returns-in_err-write_synced-clause-any_moment
returns-in_err-write_synced-clause-any_moment g c image stands =
    let old = g.H.Host.view c.args.host.now in
    let new = g.H.Host.view c.write_synced.new.host in
    let long : length (take HEADER_LEN (drop 1 c.fill.new.buffer)) ≡ HEADER_LEN = ap length (behind c.fill.new.buffer c.args.h.now c.fill.ensures) ∙ length-header_bytes c.args.h.now in
    subst (λ (k : ℕ). LeavesOnly old new (LeavesTorn (k + 1) HEADER_LEN image old)) c.place_of.ensures
    (subst (λ (n : ℕ). LeavesOnly old new (LeavesTorn (c.place_of.result + 1) n image old)) long (c.write_synced.ensures.any_moment image stands))
