-- Versions with one changed, without one and with one more, by their numbers.
use Rattle.std.proofs.Common.{◌≡◌, ◌+◌, ◌<◌, ◌≤◌, ◌==◌, ℕ, suc, List, [], ◌∷◌, ◌++◌, Bool, true, false, cond, not, nat_lt, map, length, option_map, position, Option, Some, None, refl, sym, ap, subst, ◌∙◌, arith}
use Rattle.std.proofs.lemmas.Bool.{eqb-true}
use Rattle.std.proofs.lemmas.Bool.Decides.{nat_tests}
use Rattle.std.specs.List.{AllByRecursion, find, position_or_len}
use Rattle.ode_formed_laws.proofs.SpelledLaws.{IsWritten}
use Rattle.ode_objects.specs.Objects.{is_numbered, without_at, written_at}
use Rattle.ode_objects.specs.declared.object.Fields.TheVariants.{Written}
use Rattle.ode_objects.specs.declared.object.Version.{Version}
use Rattle.ode_overlay_laws.specs.Standing.{version_as}
use Rattle.ode_settling_laws.specs.Formed.{IsNewest}
use Rattle.ode_value.specs.GoodWorlds.{RiseFrom}
use Rattle.ode_value.specs.Versions as versions
use Rattle.ode_value.specs.declared.value.Value.{Value}

-- a version that was written has this stamp
abbrev HasStamp : ℕ → Version → Type 0
HasStamp stamp v = IsNewest stamp v.fields

-- ---- the place of the first of a number

abbrev one_on : ℕ → ℕ
one_on i = suc i

module _ (number : ℕ) (v : Version) (vs : List Version) where
  abbrev at : ℕ
  at = position_or_len (is_numbered number) vs

  later_at : (b : Bool) → nat_lt at (length vs) ≡ b → nat_lt (1 + at) (length (v ∷ vs)) ≡ b
  later_at true below = grind (arith, nat_tests)
  later_at false above = grind (arith, nat_tests)

  later : (b : Bool) → nat_lt at (length vs) ≡ b → cond b (Some (1 + at)) None ≡ option_map one_on (cond b (Some at) None)
  later true below = let e : 1 + at ≡ suc at = omega arith in ap (λ (i : ℕ). Some i) e
  later false above = refl

  first_at : nat_lt 0 (length (v ∷ vs)) ≡ true
  first_at = grind (arith, nat_tests)

  abbrev placed : Bool → Option ℕ
  placed b = let i = cond (not b) (1 + at) 0 in cond (nat_lt i (length (v ∷ vs))) (Some i) None

  place_step : (b : Bool) → (v.number == number) ≡ b → position (is_numbered number) (v ∷ vs) ≡ cond b (Some 0) (option_map one_on (position (is_numbered number) vs))
  place_step true is = ap placed is ∙ ap (λ (b : Bool). cond b (Some 0) None) first_at
  place_step false is = ap placed is ∙ ap (λ (b : Bool). cond b (Some (1 + at)) None) (later_at (nat_lt at (length vs)) refl) ∙ later (nat_lt at (length vs)) refl

-- ---- with one changed

module _ (number : ℕ) (fields : ℕ × List Value) where
  abbrev with_one : List Version → List Version
  with_one vs = written_at (position (is_numbered number) vs) number fields vs

  abbrev one : Version → Version
  one v = record { number = number; parent = v.parent; fields = Written fields }

  written_later : (v : Version) (vs : List Version) (i : Option ℕ) → written_at (option_map one_on i) number fields (v ∷ vs) ≡ v ∷ written_at i number fields vs
  written_later v vs None = refl
  written_later v vs (Some i) = refl

  written_step : (v : Version) (vs : List Version) (b : Bool) → (v.number == number) ≡ b → with_one (v ∷ vs) ≡ cond b (one v ∷ vs) (v ∷ with_one vs)
  written_step v vs true is = ap (λ (i : Option ℕ). written_at i number fields (v ∷ vs)) (place_step number v vs true is)
  written_step v vs false is = ap (λ (i : Option ℕ). written_at i number fields (v ∷ vs)) (place_step number v vs false is) ∙ written_later v vs (position (is_numbered number) vs)

  pub found_other : (n : ℕ) (vs : List Version) → (number == n) ≡ false → find (is_numbered n) (with_one vs) ≡ find (is_numbered n) vs
  found_other n [] out = refl
  found_other n (v ∷ vs) out = by_test (v.number == number) refl (found_other n vs out) where
    by_test : (b : Bool) → (v.number == number) ≡ b → find (is_numbered n) (with_one vs) ≡ find (is_numbered n) vs → find (is_numbered n) (with_one (v ∷ vs)) ≡ find (is_numbered n) (v ∷ vs)
    by_test true is more =
        let other : (v.number == n) ≡ false = ap (λ m. m == n) (eqb-true v.number number is) ∙ out in
        ap (find (is_numbered n)) (written_step v vs true is) ∙ ap (λ b. cond b (Some (one v)) (find (is_numbered n) vs)) out ∙ sym (ap (λ b. cond b (Some v) (find (is_numbered n) vs)) other)
    by_test false is more = ap (find (is_numbered n)) (written_step v vs false is) ∙ ap (λ (f : Option Version). cond (v.number == n) (Some v) f) more

  itself : (n : ℕ) → (n == n) ≡ true
  itself n = grind (arith, nat_tests)

  written_here : (v : Version) → IsWritten (Some (one v))
  written_here v stamp values e = absurd (cc)

  pub found_written : (vs : List Version) → IsWritten (find (is_numbered number) (with_one vs))
  found_written [] = tt
  found_written (v ∷ vs) = by_test (v.number == number) refl (found_written vs) where
    by_test : (b : Bool) → (v.number == number) ≡ b → IsWritten (find (is_numbered number) (with_one vs)) → IsWritten (find (is_numbered number) (with_one (v ∷ vs)))
    by_test true is more =
        subst IsWritten (sym (ap (find (is_numbered number)) (written_step v vs true is) ∙ ap (λ b. cond b (Some (one v)) (find (is_numbered number) vs)) (itself number))) (written_here v)
    by_test false is more =
        subst IsWritten (sym (ap (find (is_numbered number)) (written_step v vs false is) ∙ ap (λ b. cond b (Some v) (find (is_numbered number) (with_one vs))) is)) more

  pub newest_written : (stamp : ℕ) → fields.0 ≡ stamp → (vs : List Version) → AllByRecursion (HasStamp stamp) vs → AllByRecursion (HasStamp stamp) (with_one vs)
  newest_written stamp is [] all = tt
  newest_written stamp is (v ∷ vs) all = by_test (v.number == number) refl (newest_written stamp is vs all.1) where
    by_test : (b : Bool) → (v.number == number) ≡ b → AllByRecursion (HasStamp stamp) (with_one vs) → AllByRecursion (HasStamp stamp) (with_one (v ∷ vs))
    by_test true same more = subst (AllByRecursion (HasStamp stamp)) (sym (written_step v vs true same)) (is, all.1)
    by_test false differs more = subst (AllByRecursion (HasStamp stamp)) (sym (written_step v vs false differs)) (all.0, more)

-- ---- without one

module _ (number : ℕ) where
  abbrev without_one : List Version → List Version
  without_one vs = without_at (position (is_numbered number) vs) vs

  without_later : (v : Version) (vs : List Version) (i : Option ℕ) → without_at (option_map one_on i) (v ∷ vs) ≡ v ∷ without_at i vs
  without_later v vs None = refl
  without_later v vs (Some i) = refl

  without_step : (v : Version) (vs : List Version) (b : Bool) → (v.number == number) ≡ b → without_one (v ∷ vs) ≡ cond b vs (v ∷ without_one vs)
  without_step v vs true is = ap (λ (i : Option ℕ). without_at i (v ∷ vs)) (place_step number v vs true is)
  without_step v vs false is = ap (λ (i : Option ℕ). without_at i (v ∷ vs)) (place_step number v vs false is) ∙ without_later v vs (position (is_numbered number) vs)

  pub found_left : (n : ℕ) (vs : List Version) → (number == n) ≡ false → find (is_numbered n) (without_one vs) ≡ find (is_numbered n) vs
  found_left n [] out = refl
  found_left n (v ∷ vs) out = by_test (v.number == number) refl (found_left n vs out) where
    by_test : (b : Bool) → (v.number == number) ≡ b → find (is_numbered n) (without_one vs) ≡ find (is_numbered n) vs → find (is_numbered n) (without_one (v ∷ vs)) ≡ find (is_numbered n) (v ∷ vs)
    by_test true is more =
        let other : (v.number == n) ≡ false = ap (λ m. m == n) (eqb-true v.number number is) ∙ out in
        ap (find (is_numbered n)) (without_step v vs true is) ∙ sym (ap (λ b. cond b (Some v) (find (is_numbered n) vs)) other)
    by_test false is more = ap (find (is_numbered n)) (without_step v vs false is) ∙ ap (λ (f : Option Version). cond (v.number == n) (Some v) f) more

  abbrev numbers_of : List Version → List ℕ
  numbers_of vs = map (λ (v : versions.Version). v.number) (map version_as vs)

  above : (n m low : ℕ) → n < low → low ≤ m → (m == n) ≡ false
  above n m low less up = grind (arith, nat_tests)

  none_later : (low : ℕ) (vs : List Version) → number < low → RiseFrom low (numbers_of vs) → find (is_numbered number) vs ≡ None
  none_later low [] less rise = refl
  none_later low (v ∷ vs) less rise =
      let up : low ≤ v.number = rise.0 in
      ap (λ b. cond b (Some v) (find (is_numbered number) vs)) (above number v.number low less up) ∙ none_later (v.number + 1) vs (omega arith) rise.1

  pub found_gone : (low : ℕ) (vs : List Version) → RiseFrom low (numbers_of vs) → find (is_numbered number) (without_one vs) ≡ None
  found_gone low [] rise = refl
  found_gone low (v ∷ vs) rise = by_test (v.number == number) refl (found_gone (v.number + 1) vs rise.1) where
    by_test : (b : Bool) → (v.number == number) ≡ b → find (is_numbered number) (without_one vs) ≡ None → find (is_numbered number) (without_one (v ∷ vs)) ≡ None
    by_test true is more =
        let same : v.number ≡ number = eqb-true v.number number is in
        ap (find (is_numbered number)) (without_step v vs true is) ∙ none_later (v.number + 1) vs (omega arith) rise.1
    by_test false is more = ap (find (is_numbered number)) (without_step v vs false is) ∙ ap (λ b. cond b (Some v) (find (is_numbered number) (without_one vs))) is ∙ more

  pub newest_left : (stamp : ℕ) (vs : List Version) → AllByRecursion (HasStamp stamp) vs → AllByRecursion (HasStamp stamp) (without_one vs)
  newest_left stamp [] all = tt
  newest_left stamp (v ∷ vs) all = by_test (v.number == number) refl (newest_left stamp vs all.1) where
    by_test : (b : Bool) → (v.number == number) ≡ b → AllByRecursion (HasStamp stamp) (without_one vs) → AllByRecursion (HasStamp stamp) (without_one (v ∷ vs))
    by_test true same more = subst (AllByRecursion (HasStamp stamp)) (sym (without_step v vs true same)) all.1
    by_test false differs more = subst (AllByRecursion (HasStamp stamp)) (sym (without_step v vs false differs)) (all.0, more)

-- ---- with one more

pub newest_derived : (stamp : ℕ) (v : Version) → HasStamp stamp v → (vs : List Version) → AllByRecursion (HasStamp stamp) vs → AllByRecursion (HasStamp stamp) (vs ++ v ∷ [])
newest_derived stamp v is [] all = (is, tt)
newest_derived stamp v is (u ∷ vs) all = (all.0, newest_derived stamp v is vs all.1)

pub found_before : (n : ℕ) (vs : List Version) (v : Version) → (v.number == n) ≡ false → find (is_numbered n) (vs ++ v ∷ []) ≡ find (is_numbered n) vs
found_before n [] v out = ap (λ b. cond b (Some v) None) out
found_before n (u ∷ vs) v out = ap (λ (f : Option Version). cond (u.number == n) (Some u) f) (found_before n vs v out)

below : (m n last : ℕ) → m ≤ last → n ≡ last + 1 → (m == n) ≡ false
below m n last most is = grind (arith, nat_tests)

pub found_new : (last n : ℕ) (vs : List Version) (v : Version) → n ≡ last + 1 → AllByRecursion (λ (u : versions.Version). u.number ≤ last) (map version_as vs) → IsWritten (Some v) → IsWritten (find (is_numbered n) (vs ++ v ∷ []))
found_new last n [] v is most written = by_test (v.number == n) where
  by_test : (b : Bool) → IsWritten (cond b (Some v) None)
  by_test true = written
  by_test false = tt
found_new last n (u ∷ vs) v is most written =
    subst IsWritten (sym (ap (λ b. cond b (Some u) (find (is_numbered n) (vs ++ v ∷ []))) (below u.number n last most.0 is))) (found_new last n vs v is most.1 written)
