-- What stands behind the slots is nothing to the header that counts.
use Rattle.std.proofs.Common.{◌≡◌, ℕ, ◌+◌, List, take, drop, sym, ◌∙◌, ap, subst, arith}
use Rattle.std.proofs.lemmas.List.{drop-take, take-take}
use Rattle.ode_gate.specs.declared.header.Header.{Header}
use Rattle.ode_gate.specs.Slots.{Counts, IsSlot, Leads, bytes_of, other_slot, place_of}
use Rattle.ode_gate.specs.declared.places.TheConstants.{SLOTS_END, SLOT_LEN}

-- the slots stand in front of the slots' end
pub same_slot : (slot : ℕ) (image c : List ℕ) → IsSlot slot → take SLOTS_END c ≡ take SLOTS_END image → bytes_of slot c ≡ bytes_of slot image
same_slot slot image c is_slot same = within c ∙ ap (λ (l : List ℕ). drop (place_of slot) (take (place_of slot + SLOT_LEN) l)) same ∙ sym (within image)
  where
    within : (l : List ℕ) → bytes_of slot l ≡ drop (place_of slot) (take (place_of slot + SLOT_LEN) (take SLOTS_END l))
    within l = sym (drop-take (place_of slot) SLOT_LEN l) ∙ ap (λ (k : List ℕ). drop (place_of slot) k) (sym (take-take (place_of slot + SLOT_LEN) SLOTS_END l (omega (arith, is_slot))))

-- the header that counts in them counts in all images that begin so
pub counts_front : (image c : List ℕ) (h : Header) → take SLOTS_END c ≡ take SLOTS_END image → Counts image h → Counts c h
counts_front image c h same counts =
    let own : bytes_of h.slot c ≡ bytes_of h.slot image = same_slot h.slot image c counts.slot same in
    let other : bytes_of (other_slot h.slot) c ≡ bytes_of (other_slot h.slot) image = same_slot (other_slot h.slot) image c (omega arith) same in
    record {
      slot = counts.slot;
      leads = subst (λ (l : List ℕ). Leads (bytes_of h.slot c) l h) (sym other) (subst (λ (l : List ℕ). Leads l (bytes_of (other_slot h.slot) image) h) (sym own) counts.leads);
    }
