-- The list with a version more.
use Rattle.std.proofs.Common.{◌≡◌, ◌+◌, ◌<◌, ◌≤◌, ℕ, List, [], ◌∷◌, ◌++◌, length, Some, refl, arith}
use Rattle.std.specs.List.{AllByRecursion}
use Rattle.ode_versions.specs.Versions.{AreRising, IsVersionList, RiseAbove, derived}
use Rattle.ode_versions.specs.declared.list.Version.{Version}
use Rattle.ode_versions.specs.declared.list.VersionList.{VersionList}

module _ (last : ℕ) (new : Version) (above : new.number ≡ last + 1) where
  rise_more : (low : ℕ) (vs : List Version) → low ≤ last → RiseAbove low vs → AllByRecursion (λ (v : Version). v.number ≤ last) vs → RiseAbove low (vs ++ new ∷ [])
  rise_more low [] le rising within = (omega arith, tt)
  rise_more low (v ∷ vs) le rising within = (rising.0, rise_more v.number vs within.0 rising.1 within.1)

  rising_more : (vs : List Version) → AreRising vs → AllByRecursion (λ (v : Version). v.number ≤ last) vs → AreRising (vs ++ new ∷ [])
  rising_more [] rising within = tt
  rising_more (v ∷ vs) rising within = rise_more v.number vs within.0 rising within.1

  within_more : (vs : List Version) → AllByRecursion (λ (v : Version). v.number ≤ last) vs → AllByRecursion (λ (v : Version). v.number ≤ last + 1) (vs ++ new ∷ [])
  within_more [] within = (omega arith, tt)
  within_more (v ∷ vs) within = (omega (arith, within.0), within_more vs within.1)

some_more : (vs : List Version) (new : Version) → 0 < length (vs ++ new ∷ [])
some_more [] new = omega arith
some_more (v ∷ vs) new = omega arith

pub derived_keeps : (from : ℕ) (l : VersionList) → IsVersionList l → IsVersionList (derived from l)
derived_keeps from l is =
    let new : Version = record { number = l.last + 1; parent = Some from } in
    record {
      some = some_more l.versions new;
      rising = rising_more l.last new refl l.versions is.rising is.last;
      last = within_more l.last new refl l.versions is.last;
    }
