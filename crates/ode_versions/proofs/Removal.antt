-- The list without a version.
use Rattle.std.proofs.Common.{◌≡◌, ◌+◌, ◌<◌, ◌≤◌, ◌==◌, ◌||◌, ℕ, List, [], ◌∷◌, Bool, true, false, not, nat_lt, cond, Some, None, length, suc, refl, sym, ap, ◌∙◌, arith}
use Rattle.std.specs.List.{AllByRecursion, filter, list_any, position, position_or_len, remove}
use Rattle.std.proofs.lemmas.Bool.Decides.{nat_tests}
use Rattle.std.proofs.lemmas.List.Edits.{length-remove}
use Rattle.ode_versions.specs.Versions.{AreRising, IsVersionList, RiseAbove, has_number, is_numbered, without}
use Rattle.ode_versions.specs.declared.list.Version.{Version}
use Rattle.ode_versions.specs.declared.list.VersionList.{VersionList}

others : ℕ → List Version → List Version
others n vs = filter (λ v. not (is_numbered n v)) vs

-- where the version of a number stands, or would be looked for last
place : ℕ → List Version → ℕ
place n vs = position_or_len (is_numbered n) vs

-- no version has a number at or below one that all are above
none_here : (n low : ℕ) (vs : List Version) → n ≤ low → RiseAbove low vs → others n vs ≡ vs
unfolding others
none_here n low [] le rising = refl
none_here n low (v ∷ vs) le rising =
    let above : low < v.number = rising.0 in
    let off : (v.number == n) ≡ false = grind (arith, nat_tests) in
    let lower : n ≤ v.number = omega arith in
    ap (λ b. cond (not b) (v ∷ others n vs) (others n vs)) off ∙ ap (λ ws. v ∷ ws) (none_here n v.number vs lower rising.1)

further : (v : Version) (vs : List Version) (k : ℕ) → remove (v ∷ vs) (1 + k) ≡ v ∷ remove vs k
further v vs k = let e : 1 + k ≡ suc k = omega arith in ap (λ i. remove (v ∷ vs) i) e

removed_step : (n : ℕ) (v : Version) (vs : List Version) → RiseAbove v.number vs → (list_any (is_numbered n) vs ≡ true → remove vs (place n vs) ≡ others n vs) → (b : Bool) → (v.number == n) ≡ b
    → (b || list_any (is_numbered n) vs) ≡ true
    → remove (v ∷ vs) (cond (not b) (1 + place n vs) 0) ≡ cond (not b) (v ∷ others n vs) (others n vs)
removed_step n v vs rising more true is there = let le : n ≤ v.number = grind (arith, nat_tests) in sym (none_here n v.number vs le rising)
removed_step n v vs rising more false is there = further v vs (place n vs) ∙ ap (λ ws. v ∷ ws) (more there)

rises_on : (v : Version) (vs : List Version) → RiseAbove v.number vs → AreRising vs
rises_on v [] rising = tt
rises_on v (w ∷ vs) rising = rising.1

removed_there : (n : ℕ) (vs : List Version) → AreRising vs → list_any (is_numbered n) vs ≡ true → remove vs (place n vs) ≡ others n vs
unfolding others place
removed_there n [] rising there = absurd (cc)
removed_there n (v ∷ vs) rising there = removed_step n v vs rising (removed_there n vs (rises_on v vs rising)) (v.number == n) refl there

-- a place within the list is that of a version of this number
there_step : (n : ℕ) (v : Version) (vs : List Version) → (place n vs < length vs → list_any (is_numbered n) vs ≡ true) → (b : Bool)
    → cond (not b) (1 + place n vs) 0 < length (v ∷ vs) → (b || list_any (is_numbered n) vs) ≡ true
there_step n v vs more true below = refl
there_step n v vs more false below = more (omega (arith, below))

there_at : (n : ℕ) (vs : List Version) → place n vs < length vs → list_any (is_numbered n) vs ≡ true
unfolding place
there_at n [] below = absurd (omega (arith, below))
there_at n (v ∷ vs) below = there_step n v vs (there_at n vs) (v.number == n) below

off_step : (n : ℕ) (v : Version) (vs : List Version) → (list_any (is_numbered n) vs ≡ true → place n vs < length vs) → (b : Bool)
    → (b || list_any (is_numbered n) vs) ≡ true → cond (not b) (1 + place n vs) 0 < length (v ∷ vs)
off_step n v vs more true there = omega arith
off_step n v vs more false there = let below : place n vs < length vs = more there in omega arith

below_at : (n : ℕ) (vs : List Version) → list_any (is_numbered n) vs ≡ true → place n vs < length vs
unfolding place
below_at n [] there = absurd (cc)
below_at n (v ∷ vs) there = off_step n v vs (below_at n vs) (v.number == n) there

at_choice : (b : Bool) (n at : ℕ) → cond b (Some n) None ≡ Some at → (b ≡ true) × (n ≡ at)
at_choice true n at h = (refl, cc)
at_choice false n at h = absurd (cc)

none_choice : (b : Bool) (n : ℕ) → cond b (Some n) None ≡ None → b ≡ false
none_choice true n h = absurd (cc)
none_choice false n h = refl

pub there : (n at : ℕ) (vs : List Version) → position (is_numbered n) vs ≡ Some at → has_number n vs ≡ true
unfolding place
there n at vs found =
    let choice = at_choice (nat_lt (place n vs) (length vs)) (place n vs) at found in
    let below : place n vs < length vs = grind (arith, nat_tests, choice.0) in
    there_at n vs below

absent_by : (b : Bool) → (b ≡ true → ⊥) → b ≡ false
absent_by true h = absurd (h refl)
absent_by false h = refl

pub absent : (n : ℕ) (vs : List Version) → position (is_numbered n) vs ≡ None → has_number n vs ≡ false
unfolding place
absent n vs found =
    let choice = none_choice (nat_lt (place n vs) (length vs)) (place n vs) found in
    absent_by (has_number n vs) (λ h. let below : place n vs < length vs = below_at n vs h in absurd (grind (arith, nat_tests, choice)))

pub removed : (n at : ℕ) (vs : List Version) → AreRising vs → position (is_numbered n) vs ≡ Some at → remove vs at ≡ filter (λ v. not (is_numbered n v)) vs
unfolding place others
removed n at vs rising found =
    let choice = at_choice (nat_lt (place n vs) (length vs)) (place n vs) at found in
    ap (remove vs) (sym choice.1) ∙ removed_there n vs rising (there n at vs found)

-- what stays is a list of versions
from_lower : (low m : ℕ) (vs : List Version) → low < m → RiseAbove m vs → RiseAbove low vs
from_lower low m [] lt rising = tt
from_lower low m (v ∷ vs) lt rising = let above : m < v.number = rising.0 in (omega arith, rising.1)

rise_step : (n low : ℕ) (v : Version) (kept : List Version) → low < v.number → RiseAbove v.number kept → (b : Bool) → RiseAbove low (cond (not b) (v ∷ kept) kept)
rise_step n low v kept above more true = from_lower low v.number kept above more
rise_step n low v kept above more false = (above, more)

kept_rise : (n low : ℕ) (vs : List Version) → RiseAbove low vs → RiseAbove low (others n vs)
unfolding others
kept_rise n low [] rising = tt
kept_rise n low (v ∷ vs) rising = rise_step n low v (others n vs) rising.0 (kept_rise n v.number vs rising.1) (v.number == n)

rising_step : (v : Version) (kept : List Version) → RiseAbove v.number kept → (b : Bool) → AreRising (cond (not b) (v ∷ kept) kept)
rising_step v kept more true = rises_on v kept more
rising_step v kept more false = more

kept_rising : (n : ℕ) (vs : List Version) → AreRising vs → AreRising (others n vs)
unfolding others
kept_rising n [] rising = tt
kept_rising n (v ∷ vs) rising = rising_step v (others n vs) (kept_rise n v.number vs rising) (v.number == n)

within_step : (last : ℕ) (v : Version) (kept : List Version) → v.number ≤ last → AllByRecursion (λ (w : Version). w.number ≤ last) kept → (b : Bool)
    → AllByRecursion (λ (w : Version). w.number ≤ last) (cond (not b) (v ∷ kept) kept)
within_step last v kept le more true = more
within_step last v kept le more false = (le, more)

kept_within : (n last : ℕ) (vs : List Version) → AllByRecursion (λ (w : Version). w.number ≤ last) vs → AllByRecursion (λ (w : Version). w.number ≤ last) (others n vs)
unfolding others
kept_within n last [] within = tt
kept_within n last (v ∷ vs) within = within_step last v (others n vs) within.0 (kept_within n last vs within.1) (v.number == n)

kept_some : (n at : ℕ) (vs : List Version) → AreRising vs → position (is_numbered n) vs ≡ Some at → 0 < length vs → (length vs ≡ 1 → ⊥) → 0 < length (others n vs)
unfolding others place
kept_some n at vs rising found some many =
    let choice = at_choice (nat_lt (place n vs) (length vs)) (place n vs) at found in
    let below : at < length vs = grind (arith, nat_tests, choice.0, choice.1) in
    let shorter : length (remove vs at) + 1 ≡ length vs = length-remove vs at below in
    let same : length (remove vs at) ≡ length (others n vs) = ap length (removed n at vs rising found) in
    omega arith

pub without_keeps : (n at : ℕ) (l : VersionList) → IsVersionList l → position (is_numbered n) l.versions ≡ Some at → (length l.versions ≡ 1 → ⊥) → IsVersionList (without n l)
unfolding others
without_keeps n at l is found many = record {
  some = kept_some n at l.versions is.rising found is.some many;
  rising = kept_rising n l.versions is.rising;
  last = kept_within n l.last l.versions is.last;
}

pub apart : (b : Bool) → b ≡ true → b ≡ false → ⊥
apart b t f = cc
