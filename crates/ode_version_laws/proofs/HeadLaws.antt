-- The heads of objects: their versions without fields.
use Rattle.std.proofs.Common.{◌≡◌, ◌+◌, ◌<◌, ◌≤◌, ◌==◌, ◌||◌, ℕ, List, [], ◌∷◌, Bool, true, false, cond, find, length, map, option_map, Option, Some, None, Ok, Err, refl, sym, ap, subst, ◌∙◌, arith}
use Rattle.std.proofs.lemmas.Bool.{eqb-true}
use Rattle.std.proofs.lemmas.Bool.Decides.{nat_tests}
use Rattle.std.specs.Prelude.{nat_le, nat_lt}
use Rattle.std.specs.Cmp.Derive.{both_true}
use Rattle.std.specs.List.{AllByRecursion}
use Rattle.ode_heap.specs.Answering.{head_of_object}
use Rattle.ode_heap.specs.declared.object.ObjectHead.{ObjectHead}
use Rattle.ode_laws.proofs.Rows.{find_rising}
use Rattle.ode_objects.specs.Objects as objects
use Rattle.ode_objects.specs.declared.object.Object.{Object}
use Rattle.ode_objects.specs.declared.object.Version.{Version}
use Rattle.ode_overlay.specs.Answers.{Answer, ◌>>=◌}
use Rattle.ode_overlay.specs.Reading.{is_rising, rise_above, shown, sound}
use Rattle.ode_overlay.specs.declared.error.OverlayError.TheVariants.{Damaged}
use Rattle.ode_overlay_laws.specs.Standing.{object_as, version_as}
use Rattle.ode_value.specs.GoodWorlds.{RiseFrom}
use Rattle.ode_value.specs.Keys.{object_key}
use Rattle.ode_value.specs.Versions as versions
use Rattle.ode_value.specs.Versions.{newest, version_numbered, version_of}
use Rattle.ode_value.specs.Worlds as worlds
use Rattle.ode_version_laws.specs.Denoting.{HasVersions}
use Rattle.ode_versions.specs.Versions.{found, has_number, listed, newest_number, number_of}
use Rattle.ode_versions.specs.declared.list.Version.{Version as Listed}

-- ---- of an object that is tracked

listed_same : (vs : List Version) → map listed (map version_as vs) ≡ map objects.listed vs
listed_same [] = refl
listed_same (v ∷ vs) = ap (λ (ls : List Listed). objects.listed v ∷ ls) (listed_same vs)

pub head_same : (id : ℕ) (o : Object) → objects.head_of o ≡ head_of_object (object_as id o)
head_same id o = ap (λ (ls : List Listed). record { class = o.class; versions = record { versions = ls; last = o.last } }) (sym (listed_same o.versions))

-- ---- their versions rise

rise_more : (last low : ℕ) (vs : List versions.Version) → RiseFrom (low + 1) (map (λ (v : versions.Version). v.number) vs) → AllByRecursion (λ (v : versions.Version). v.number ≤ last) vs
    → rise_above last low (map listed vs) ≡ true
rise_more last low [] rise below = refl
rise_more last low (v ∷ vs) rise below =
    let up : low + 1 ≤ v.number = rise.0 in
    let down : v.number ≤ last = below.0 in
    let above : nat_lt low v.number ≡ true = grind (arith, nat_tests) in
    let within : nat_le v.number last ≡ true = grind (arith, nat_tests) in
    both_true above (both_true within (rise_more last v.number vs rise.1 below.1))

rises : (last : ℕ) (vs : List versions.Version) → 0 < length vs → RiseFrom 0 (map (λ (v : versions.Version). v.number) vs) → AllByRecursion (λ (v : versions.Version). v.number ≤ last) vs
    → is_rising last (map listed vs) ≡ true
rises last [] some rise below = absurd (omega (arith, some))
rises last (v ∷ vs) some rise below =
    let down : v.number ≤ last = below.0 in
    let within : nat_le v.number last ≡ true = grind (arith, nat_tests) in
    both_true within (rise_more last v.number vs rise.1 below.1)

pub head_sound : (id : ℕ) (o : worlds.Object) → HasVersions o → sound id (head_of_object o) ≡ Ok (head_of_object o)
head_sound id o has = ap (λ (b : Bool). cond b (Ok (head_of_object o)) (Err (Damaged (object_key id)))) (rises o.last o.versions has.some has.rising has.last)

pub head_shown : (id : ℕ) (o : worlds.Object) → HasVersions o → shown id (Some (head_of_object o)) ≡ Ok (Some (head_of_object o))
head_shown id o has = ap (λ (a : Answer ObjectHead). a >>= λ h. Ok (Some h)) (head_sound id o has)

-- ---- the version that a reference denotes

newest_of : (vs : List versions.Version) → newest_number (map listed vs) ≡ option_map number_of (newest vs)
newest_of [] = refl
newest_of (v ∷ []) = refl
newest_of (v ∷ w ∷ vs) = newest_of (w ∷ vs)

numbered_of : (n : ℕ) (vs : List versions.Version) → cond (has_number n (map listed vs)) (Some n) None ≡ option_map number_of (version_numbered n vs)
numbered_of n [] = refl
numbered_of n (v ∷ vs) = by_test (v.number == n) (eqb-true v.number n) (numbered_of n vs) where
  by_test : (b : Bool) → (b ≡ true → v.number ≡ n) → cond (has_number n (map listed vs)) (Some n) None ≡ option_map number_of (version_numbered n vs)
      → cond (b || has_number n (map listed vs)) (Some n) None ≡ option_map number_of (cond b (Some v) (version_numbered n vs))
  by_test true same more = ap (λ (m : ℕ). Some m) (sym (same refl))
  by_test false same more = more

pub found_of : (number : Option ℕ) (o : worlds.Object) → found number (head_of_object o).versions ≡ option_map number_of (version_of number o.versions)
found_of None o = newest_of o.versions
found_of (Some n) o = numbered_of n o.versions

-- a version that is denoted is found by its number, where numbers rise
found_by : (n : ℕ) (vs : List versions.Version) (v : versions.Version) → find (λ (w : versions.Version). w.number == n) vs ≡ Some v → version_numbered n vs ≡ Some v
found_by n [] v is = is
found_by n (w ∷ vs) v is = by_test (w.number == n) is (found_by n vs v) where
  by_test : (b : Bool) → cond b (Some w) (find (λ (w : versions.Version). w.number == n) vs) ≡ Some v
      → (find (λ (w : versions.Version). w.number == n) vs ≡ Some v → version_numbered n vs ≡ Some v) → cond b (Some w) (version_numbered n vs) ≡ Some v
  by_test true e more = e
  by_test false e more = more e

-- what holds of all versions holds of the newest one
pub newest_of_all : (P : versions.Version → Type 0) (vs : List versions.Version) (v : versions.Version) → AllByRecursion P vs → newest vs ≡ Some v → P v
newest_of_all P [] v all is = absurd (cc)
newest_of_all P (w ∷ []) v all is = let same : w ≡ v = cc in subst P same all.0
newest_of_all P (w ∷ u ∷ vs) v all is = newest_of_all P (u ∷ vs) v all.1 is

numbered_found : (n : ℕ) (vs : List versions.Version) (v : versions.Version) → version_numbered n vs ≡ Some v → v.number ≡ n
numbered_found n [] v is = absurd (cc)
numbered_found n (w ∷ vs) v is = by_test (w.number == n) (eqb-true w.number n) is (numbered_found n vs v) where
  by_test : (b : Bool) → (b ≡ true → w.number ≡ n) → cond b (Some w) (version_numbered n vs) ≡ Some v → (version_numbered n vs ≡ Some v → v.number ≡ n) → v.number ≡ n
  by_test true same e more = let it : w ≡ v = cc in ap (λ (u : versions.Version). u.number) (sym it) ∙ same refl
  by_test false same e more = more e

pub denoted_found : (number : Option ℕ) (vs : List versions.Version) (v : versions.Version) → RiseFrom 0 (map (λ (w : versions.Version). w.number) vs) → version_of number vs ≡ Some v
    → version_numbered v.number vs ≡ Some v
denoted_found None vs v rise is =
    found_by v.number vs v
    (newest_of_all (λ w. find (λ (u : versions.Version). u.number == w.number) vs ≡ Some w) vs v (find_rising (λ (w : versions.Version). w.number) 0 vs rise) is)
denoted_found (Some n) vs v rise is = ap (λ (m : ℕ). version_numbered m vs) (numbered_found n vs v is) ∙ is
