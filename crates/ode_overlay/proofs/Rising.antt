-- Versions whose numbers pass the test are those of an object.
use Rattle.std.proofs.Common.{◌≡◌, ◌≤◌, ℕ, List, [], ◌∷◌, true, arith}
use Rattle.std.proofs.lemmas.Bool.Decides.{nat_tests}
use Rattle.std.specs.Prelude.{◌&&◌, nat_le, nat_lt}
use Rattle.std.specs.List.{AllByRecursion}
use Rattle.ode_objects.proofs.Kept.{first_of, second_of}
use Rattle.ode_overlay.specs.Reading.{is_rising, rise_above}
use Rattle.ode_versions.specs.Versions.{IsVersionList, RiseAbove}
use Rattle.ode_versions.specs.declared.list.Version.{Version}
use Rattle.ode_versions.specs.declared.list.VersionList.{VersionList}

module _ (last : ℕ) where
  rest_of : (low : ℕ) (v : Version) (vs : List Version) → rise_above last low (v ∷ vs) ≡ true → (nat_le v.number last && rise_above last v.number vs) ≡ true
  rest_of low v vs rises = second_of (nat_lt low v.number) (nat_le v.number last && rise_above last v.number vs) rises

  rising_from : (low : ℕ) (vs : List Version) → rise_above last low vs ≡ true → RiseAbove low vs
  rising_from low [] rises = tt
  rising_from low (v ∷ vs) rises = (
    let above : nat_lt low v.number ≡ true = first_of (nat_lt low v.number) (nat_le v.number last && rise_above last v.number vs) rises in grind (arith, nat_tests),
    rising_from v.number vs (second_of (nat_le v.number last) (rise_above last v.number vs) (rest_of low v vs rises)),
  )

  below_last : (low : ℕ) (vs : List Version) → rise_above last low vs ≡ true → AllByRecursion (λ (v : Version). v.number ≤ last) vs
  below_last low [] rises = tt
  below_last low (v ∷ vs) rises = (
    let below : nat_le v.number last ≡ true = first_of (nat_le v.number last) (rise_above last v.number vs) (rest_of low v vs rises) in grind (arith, nat_tests),
    below_last v.number vs (second_of (nat_le v.number last) (rise_above last v.number vs) (rest_of low v vs rises)),
  )

by_versions : (last : ℕ) (vs : List Version) → is_rising last vs ≡ true → IsVersionList (record { versions = vs; last = last })
by_versions last [] rises = absurd (cc rises)
by_versions last (v ∷ vs) rises =
    let more = second_of (nat_le v.number last) (rise_above last v.number vs) rises in
    let below : nat_le v.number last ≡ true = first_of (nat_le v.number last) (rise_above last v.number vs) rises in
    record { some = omega arith; rising = rising_from last v.number vs more; last = (grind (arith, nat_tests), below_last last v.number vs more) }

pub are_versions : (l : VersionList) → is_rising l.last l.versions ≡ true → IsVersionList l
are_versions l rises = by_versions l.last l.versions rises
