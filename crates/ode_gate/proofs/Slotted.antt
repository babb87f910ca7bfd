-- An image round one of its slots, and what a torn or whole write in that slot leaves.
use Rattle.std.proofs.Common.{◌≡◌, ◌≤◌, ◌⊎◌, inl, inr, ⊎_elim, ℕ, ◌+◌, ◌-◌, min, List, [], ◌∷◌, ◌++◌, length, get_or, take, drop, None, Some, sym, ◌∙◌, ap, subst, arith, append_assoc, take-append-drop, length-append, length-take, length-drop}
use Rattle.std.proofs.lemmas.List.{take_at, take_min, take-append-le, drop_at, drop_more, drop-drop}
use Rattle.std.proofs.lemmas.Bool.{cases_eq}
use Rattle.std.proofs.lemmas.Bool.Decides.{nat_tests}
use Rattle.std.proofs.Math.Seq.{drop-append-add}
use Rattle.ode_host.specs.Host.{Torn, written_over}
use Rattle.ode_gate.specs.Changes.{IsSameBehind}
use Rattle.ode_gate.specs.Slots.{IsShut, IsSlot, bytes_of, open_body, other_slot, place_of, slot_at}
use Rattle.ode_gate.proofs.Gates.{torn_behind, torn_gate, wrote_behind, wrote_gate}
use Rattle.ode_gate.specs.declared.places.TheConstants.{HEADER_LEN, SLOTS_END, SLOT_LEN, SLOT_STEP}
use Rattle.ode_gate.specs.declared.gate.TheConstants.{OPEN}

-- a read of a slot, as far as the file reaches
pub slot_is : (place n : ℕ) (to image : List ℕ) → n ≡ min SLOT_LEN (length image - place) → take n to ≡ take n (drop place image) → take n to ≡ slot_at place image
slot_is place n to image count same =
    let is : n ≡ min SLOT_LEN (length (drop place image)) = omega (arith, count, length-drop place image) in
    same ∙ ap (λ (k : ℕ). take k (drop place image)) is ∙ take_min SLOT_LEN (drop place image)

-- a gate is open or shut
pub opens : (gate : ℕ) (body : List ℕ) → (open_body (gate ∷ body) ≡ None) ⊎ ((gate ≡ OPEN) × (open_body (gate ∷ body) ≡ Some body))
opens gate body = elim (cases_eq gate OPEN) [
  | inl opened ↦ inr (opened, grind (arith, nat_tests))
  | inr shut ↦ inl (grind (arith, nat_tests))
]

-- whatever stands behind it
pub shut_any : (gate : ℕ) (a b : List ℕ) → IsShut (gate ∷ a) → IsShut (gate ∷ b)
shut_any gate a b none = elim (cases_eq gate OPEN) [
  | inl opened ↦ let some : open_body (gate ∷ a) ≡ Some a = grind (arith, nat_tests) in absurd (cc (some, none))
  | inr shut ↦ grind (arith, nat_tests)
]

-- the gate and the header of a slot, with what stands before and behind it
pub record Around (slot : ℕ) (front rest : List ℕ) (gate : ℕ) (body image : List ℕ) : Type 0 where
  pub place : place_of slot ≡ length front
  pub long : length body ≡ HEADER_LEN
  pub split : image ≡ front ++ gate ∷ (body ++ rest)

module _ (slot : ℕ) (is_slot : IsSlot slot) (front rest : List ℕ) (gate : ℕ) (body image : List ℕ) (around : Around slot front rest gate body image) where
  pub own : bytes_of slot image ≡ gate ∷ body
  own =
      ap (λ (l : List ℕ). slot_at (place_of slot) l) around.split
      ∙ ap (λ (l : List ℕ). take SLOT_LEN l) (drop_at front (gate ∷ (body ++ rest)) (place_of slot) (sym around.place))
      ∙ take_at (gate ∷ body) rest SLOT_LEN (omega (arith, around.long))

  own_long : length (front ++ gate ∷ body) ≡ length front + SLOT_LEN
  own_long = omega (arith, length-append front (gate ∷ body), around.long)

  beyond : (n : ℕ) → length front + SLOT_LEN ≤ n → drop n image ≡ drop (n - (length front + SLOT_LEN)) rest
  beyond n le =
      let is : n ≡ length (front ++ gate ∷ body) + (n - (length front + SLOT_LEN)) = omega (arith, own_long) in
      ap (λ (l : List ℕ). drop n l) (around.split ∙ sym (append_assoc front (gate ∷ body) rest))
      ∙ ap (λ (k : ℕ). drop k ((front ++ gate ∷ body) ++ rest)) is
      ∙ drop-append-add (front ++ gate ∷ body) rest (n - (length front + SLOT_LEN))

  pub rest_is : drop (place_of slot + 1 + HEADER_LEN) image ≡ rest
  rest_is =
      let none : place_of slot + 1 + HEADER_LEN - (length front + SLOT_LEN) ≡ 0 = omega (arith, around.place) in
      beyond (place_of slot + 1 + HEADER_LEN) (omega (arith, around.place)) ∙ ap (λ (k : ℕ). drop k rest) none

  pub image_long : length image ≡ length front + SLOT_LEN + length rest
  image_long = omega (arith, ap length around.split, length-append front (gate ∷ (body ++ rest)), length-append body rest, around.long)

  pub behind : drop SLOTS_END image ≡ drop (SLOTS_END - (length front + SLOT_LEN)) rest
  behind = beyond SLOTS_END (omega (arith, around.place, is_slot))

  in_front : slot ≡ 1 → bytes_of 0 image ≡ take SLOT_LEN front
  in_front is =
      ap (λ (l : List ℕ). take SLOT_LEN l) around.split
      ∙ take-append-le SLOT_LEN front (gate ∷ (body ++ rest)) (omega (arith, around.place, is))

  pub behind_it : slot ≡ 0 → bytes_of 1 image ≡ take SLOT_LEN (drop (SLOT_STEP - SLOT_LEN) rest)
  behind_it is =
      let past : SLOT_STEP - (length front + SLOT_LEN) ≡ SLOT_STEP - SLOT_LEN = omega (arith, around.place, is) in
      ap (λ (l : List ℕ). take SLOT_LEN l) (beyond SLOT_STEP (omega (arith, around.place, is)) ∙ ap (λ (k : ℕ). drop k rest) past)

  -- a torn write of the gate leaves some gate
  pub torn_gate_around : (c : List ℕ) → Torn (place_of slot) 1 image c → Around slot front rest (get_or c (place_of slot) 0) body c
  torn_gate_around c torn = record {
    place = around.place;
    long = around.long;
    split = torn_gate front (place_of slot) around.place gate (body ++ rest) image around.split c torn;
  }

  pub wrote_gate_around : (new : ℕ) → Around slot front rest new body (written_over image (place_of slot) (new ∷ []))
  wrote_gate_around new = record {
    place = around.place;
    long = around.long;
    split = wrote_gate front (place_of slot) around.place gate (body ++ rest) image around.split new;
  }

  -- a torn write behind the gate leaves as many bytes
  pub torn_body_around : (c : List ℕ) → Torn (place_of slot + 1) HEADER_LEN image c → Around slot front rest gate (take HEADER_LEN (drop (place_of slot + 1) c)) c
  torn_body_around c torn =
      let tail = drop (place_of slot + 1) c in
      let rests : drop HEADER_LEN tail ≡ rest = drop-drop HEADER_LEN (place_of slot + 1) c ∙ torn.after ∙ rest_is in
      record {
        place = around.place;
        long = omega (arith, length-take HEADER_LEN tail, length-drop (place_of slot + 1) c, torn.no_shorter, image_long, around.place);
        split =
            torn_behind front (place_of slot) around.place gate (body ++ rest) image around.split HEADER_LEN c torn
            ∙ ap (λ (l : List ℕ). front ++ gate ∷ l) (sym (take-append-drop HEADER_LEN tail) ∙ ap (λ (l : List ℕ). take HEADER_LEN tail ++ l) rests);
      }

  pub wrote_body_around : (new : List ℕ) → length new ≡ HEADER_LEN → Around slot front rest gate new (written_over image (place_of slot + 1) new)
  wrote_body_around new is =
      let rests : drop (place_of slot + 1 + length new) image ≡ rest = ap (λ (k : ℕ). drop (place_of slot + 1 + k) image) is ∙ rest_is in
      record {
        place = around.place;
        long = is;
        split =
            wrote_behind front (place_of slot) around.place gate (body ++ rest) image around.split new
            ∙ ap (λ (l : List ℕ). front ++ gate ∷ (new ++ l)) rests;
      }

-- an image that is long enough, round a slot
pub around_of : (slot : ℕ) (image : List ℕ) → IsSlot slot → SLOTS_END ≤ length image
    → Around slot (take (place_of slot) image) (drop (place_of slot + 1 + HEADER_LEN) image) (get_or image (place_of slot) 0) (take HEADER_LEN (drop (place_of slot + 1) image)) image
around_of slot image is_slot long =
    let place = place_of slot in
    let tail = drop (place + 1) image in
    record {
      place = omega (arith, is_slot, length-take place image);
      long = omega (arith, is_slot, length-take HEADER_LEN tail, length-drop (place + 1) image);
      split =
          sym (take-append-drop place image)
          ∙ ap (λ (l : List ℕ). take place image ++ l) (drop_more image place 0 (omega (arith, is_slot))
          ∙ ap (λ (l : List ℕ). get_or image place 0 ∷ l) (sym (take-append-drop HEADER_LEN tail) ∙ ap (λ (l : List ℕ). take HEADER_LEN tail ++ l) (drop-drop HEADER_LEN (place + 1) image)));
    }

-- two images round one slot differ in that slot alone
module _ (slot : ℕ) (is_slot : IsSlot slot) (front rest : List ℕ) (gate gate' : ℕ) (body body' image c : List ℕ)
    (around : Around slot front rest gate body image) (around' : Around slot front rest gate' body' c) where
  pub same_beside : (other : ℕ) → other ≡ other_slot slot → bytes_of other c ≡ bytes_of other image
  same_beside other is = ⊎_elim
      (λ (first : slot ≡ 0).
      let one : other ≡ 1 = omega (arith, first, is) in
      subst (λ (k : ℕ). bytes_of k c ≡ bytes_of k image) (sym one)
      (behind_it slot is_slot front rest gate' body' c around' first ∙ sym (behind_it slot is_slot front rest gate body image around first)))
      (λ (second : slot ≡ 1).
      let none : other ≡ 0 = omega (arith, second, is) in
      subst (λ (k : ℕ). bytes_of k c ≡ bytes_of k image) (sym none)
      (in_front slot is_slot front rest gate' body' c around' second ∙ sym (in_front slot is_slot front rest gate body image around second)))
      (by_slot slot is_slot)
    where
      by_slot : (k : ℕ) → IsSlot k → (k ≡ 0) ⊎ (k ≡ 1)
      by_slot k is = elim (cases_eq k 0) [ inl zero ↦ inl zero | inr more ↦ inr (omega (arith, more, is)) ]

  pub same_behind : IsSameBehind image c
  same_behind = record {
    long = omega (arith, image_long slot is_slot front rest gate body image around, image_long slot is_slot front rest gate' body' c around');
    behind = behind slot is_slot front rest gate' body' c around' ∙ sym (behind slot is_slot front rest gate body image around);
  }
