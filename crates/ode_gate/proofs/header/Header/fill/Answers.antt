use Rattle.std.proofs.Common.{◌≡◌, ℕ, ◌++◌, List, length, take, refl, sym, ◌∙◌, ap, arith}
use Rattle.std.proofs.lemmas.List.{take_all}
use Rattle.ode_gate.specs.Headers.{header_bytes}
use Rattle.ode_gate.proofs.header.Header.fill.Goals as goal
use Rattle.ode_gate.specs.declared.places.TheConstants.{SLOT_LEN}

grown : (n m : ℕ) (before now front bytes spelled : List ℕ) → take n before ≡ front → take m now ≡ take n before ++ bytes → bytes ≡ spelled → take m now ≡ front ++ spelled
grown n m before now front bytes spelled first second is = second ∙ ap (λ (l : List ℕ). l ++ bytes) first ∙ ap (λ (l : List ℕ). front ++ l) is

pub returns : goal.returns
unfolding header_bytes
returns c =
    let whole : c.put.result ≡ SLOT_LEN = omega arith in
    let long : length c.put.new.to ≡ SLOT_LEN = omega arith in
    let e = grown _ _ _ _ _ _ _
    (grown _ _ _ _ _ _ _
    (grown _ _ _ _ _ _ _
    (grown _ _ _ _ _ _ _
    (grown _ _ _ _ _ _ _
    (grown _ _ _ _ _ _ _
    (grown _ _ _ _ _ _ _
    (grown _ _ _ _ _ _ _ c.put-at.ensures.written c.put-at-2.ensures.written refl)
    c.put-at-3.ensures.written c.to_be_bytes.ensures)
    c.put-at-4.ensures.written c.to_be_bytes-2.ensures)
    c.put-at-5.ensures.written c.to_be_bytes-3.ensures)
    c.put-at-6.ensures.written c.to_be_bytes-4.ensures)
    c.put-at-7.ensures.written c.to_be_bytes-5.ensures)
    c.put-at-8.ensures.written c.to_be_bytes-6.ensures)
    c.put.ensures.written c.to_be_bytes-7.ensures in
    sym (take_all c.put.result c.put.new.to (omega arith)) ∙ e
