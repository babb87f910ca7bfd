-- The current version is the last of the list, and has the greatest number.
use Rattle.std.proofs.Common.{◌≡◌, ◌-◌, ◌<◌, ◌≤◌, ◌==◌, ◌||◌, ℕ, List, [], ◌∷◌, Bool, true, false, cond, Option, Some, None, length, map, refl, sym, ap, ◌∙◌, arith, slice_index_or, subst}
use Rattle.std.specs.List.{AllByRecursion, list_any}
use Rattle.std.specs.Option.{option_map}
use Rattle.std.proofs.lemmas.Bool.Decides.{nat_tests}
use Rattle.ode_value.specs.Versions as whole
use Rattle.ode_versions.specs.Versions.{AreRising, RiseAbove, found, has_number, is_numbered, listed, newest_number, number_of}
use Rattle.ode_versions.specs.declared.list.Version.{Version}
use Rattle.ode_versions.specs.declared.list.VersionList.{VersionList}

-- the last number of a list that begins with this version
last_of : Version → List Version → ℕ
last_of v [] = v.number
last_of v (w ∷ vs) = last_of w vs

newest_is : (v : Version) (vs : List Version) → newest_number (v ∷ vs) ≡ Some (last_of v vs)
unfolding last_of
newest_is v [] = refl
newest_is v (w ∷ vs) = newest_is w vs

last_is : (v : Version) (vs : List Version) (d : Version) → (slice_index_or (v ∷ vs) (length vs) d).number ≡ last_of v vs
unfolding last_of
last_is v [] d = refl
last_is v (w ∷ vs) d = last_is w vs d

last_place : (v : Version) (vs : List Version) (d : Version) → (slice_index_or (v ∷ vs) (length (v ∷ vs) - 1) d).number ≡ last_of v vs
last_place v vs d = let e : length (v ∷ vs) - 1 ≡ length vs = omega arith in ap (λ i. (slice_index_or (v ∷ vs) i d).number) e ∙ last_is v vs d

pub newest_at : (vs : List Version) (d : Version) → 0 < length vs → Some (slice_index_or vs (length vs - 1) d).number ≡ newest_number vs
newest_at [] d some = absurd (omega (arith, some))
newest_at (v ∷ vs) d some = ap (λ n. Some n) (last_place v vs d) ∙ sym (newest_is v vs)

above_first : (v : Version) (vs : List Version) → RiseAbove v.number vs → v.number ≤ last_of v vs
unfolding last_of
above_first v [] rising = omega arith
above_first v (w ∷ vs) rising = let more : w.number ≤ last_of w vs = above_first w vs rising.1 in omega (arith, rising.0)

greatest_from : (v : Version) (vs : List Version) → RiseAbove v.number vs → AllByRecursion (λ (w : Version). w.number ≤ last_of v vs) (v ∷ vs)
unfolding last_of
greatest_from v [] rising = (omega arith, tt)
greatest_from v (w ∷ vs) rising = (let more : w.number ≤ last_of w vs = above_first w vs rising.1 in omega (arith, rising.0), greatest_from w vs rising.1)

pub greatest : (vs : List Version) (d : Version) → 0 < length vs → AreRising vs → AllByRecursion (λ (w : Version). w.number ≤ (slice_index_or vs (length vs - 1) d).number) vs
greatest [] d some rising = tt
greatest (v ∷ vs) d some rising = subst (λ n. AllByRecursion (λ (w : Version). w.number ≤ n) (v ∷ vs)) (sym (last_place v vs d)) (greatest_from v vs rising)

last_there : (v : Version) (vs : List Version) → has_number (last_of v vs) (v ∷ vs) ≡ true
unfolding last_of
last_there v [] = grind (arith, nat_tests)
last_there v (w ∷ vs) = by_either (v.number == last_of w vs) (list_any (is_numbered (last_of w vs)) (w ∷ vs)) (last_there w vs)
  where
    by_either : (b c : Bool) → c ≡ true → (b || c) ≡ true
    by_either true c h = refl
    by_either false c h = h

-- the same among versions with their fields
pub newest_of : (vs : List whole.Version) → newest_number (map listed vs) ≡ option_map number_of (whole.newest vs)
newest_of [] = refl
newest_of (v ∷ []) = refl
newest_of (v ∷ w ∷ vs) = newest_of (w ∷ vs)

numbered_step : (n m : ℕ) (rest : Bool) (later : Option whole.Version) (v : whole.Version) → v.number ≡ m → cond rest (Some n) None ≡ option_map number_of later
    → (b : Bool) → (m == n) ≡ b → cond (b || rest) (Some n) None ≡ option_map number_of (cond b (Some v) later)
numbered_step n m rest later v is more true test = let same : m ≡ n = grind (arith, nat_tests) in ap (λ k. Some k) (sym same ∙ sym is)
numbered_step n m rest later v is more false test = more

pub numbered_of : (n : ℕ) (vs : List whole.Version) → cond (has_number n (map listed vs)) (Some n) None ≡ option_map number_of (whole.version_numbered n vs)
numbered_of n [] = refl
numbered_of n (v ∷ vs) = numbered_step n v.number (has_number n (map listed vs)) (whole.version_numbered n vs) v refl (numbered_of n vs) (v.number == n) refl

pub found_of : (version : Option ℕ) (vs : List whole.Version) (l : VersionList) → map listed vs ≡ l.versions → found version l ≡ option_map number_of (whole.version_of version vs)
found_of None vs l same = ap newest_number (sym same) ∙ newest_of vs
found_of (Some n) vs l same = ap (λ ws. cond (has_number n ws) (Some n) None) (sym same) ∙ numbered_of n vs
