-- The positions that are due lie in their range.
use Rattle.std.proofs.Common.{◌≡◌, ◌≤◌, ◌<◌, ℕ, zero, suc, ◌+◌, ◌*◌, ◌^◌, ℤ, pos, Bool, true, false, cond, List, [], ◌∷◌, ◌++◌, length, refl, sym, ap, subst, arith}
use Rattle.std.specs.Prelude.{◌+ℤ◌, ◌≤ℤ◌, FitsSigned, int_le}
use Rattle.std.specs.Int.{int_gap, w64}
use Rattle.std.specs.List.{AllByRecursion, enumerate_from, filter, flat_map, range_with_len, sum_by}
use Rattle.std.proofs.lemmas.Int.{ints}
use Rattle.std.proofs.lemmas.List.{length-append, length-map}
use Rattle.std.proofs.lemmas.List.Concat.{length-flat_map}
use Rattle.std.proofs.lemmas.List.FromFn.{length-enumerate_from, length-map-range_with_len}
use Rattle.std.proofs.lemmas.List.Sums.{sum_by-le-sum_by}
use Rattle.ode_value.specs.declared.event.Kind.{Kind}
use Rattle.ode_value.specs.GoodWorlds.{IsPosition}
use Rattle.ode_value.specs.Worlds.{Position}
use Rattle.ode_timer.specs.declared.clock.TimeRow.{TimeRow}
use Rattle.ode_timer.specs.Due.{HasPlaces, behind, due, due_at, due_in, is_above, is_due, position_at, seconds}
use Rattle.ode_timer.proofs.Divisors.{within_gap}
use Rattle.ode_laws.proofs.Each.{all-filter, all-map, all-then}
use Rattle.ode_sound_laws.proofs.WalkPosting.{all-flat}

-- ---- seconds

below_last : (from to : ℤ) → int_le from to ≡ true → from ≤ℤ to
below_last from to h = grind (arith, ints)

between : (from to z : ℤ) → FitsSigned w64 from → FitsSigned w64 to → from ≤ℤ z → z ≤ℤ to → FitsSigned w64 z
between from to z low high above below = grind (arith, ints)

behind_first : (from : ℤ) (n : ℕ) → from ≤ℤ (from +ℤ pos n)
behind_first from n = grind (arith, ints)

all_range : (most a n : ℕ) → a + n ≤ most → AllByRecursion (λ k. k < most) (range_with_len a n)
all_range most a zero less = tt
all_range most a (suc n) less = (omega (arith, less), all_range most (a + 1) n (omega (arith, less)))

seconds_fit : (from to : ℤ) → FitsSigned w64 from → FitsSigned w64 to → AllByRecursion (FitsSigned w64) (seconds from to)
seconds_fit from to low high = all-map (FitsSigned w64) (λ n. from +ℤ pos n) (range_with_len 0 (cond (int_le from to) (int_gap from to + 1) 0)) (by_order (int_le from to) refl) where
  by_order : (b : Bool) → int_le from to ≡ b → AllByRecursion (λ n. FitsSigned w64 (from +ℤ pos n)) (range_with_len 0 (cond b (int_gap from to + 1) 0))
  by_order false h = tt
  by_order true h =
      all-then (λ n. n < int_gap from to + 1) (λ n. FitsSigned w64 (from +ℤ pos n))
      (λ n less. between from to (from +ℤ pos n) low high (behind_first from n) (within_gap from to n (below_last from to h) (omega (arith, less)))) (range_with_len 0 (int_gap from to + 1))
      (all_range (int_gap from to + 1) 0 (int_gap from to + 1) (omega arith))

-- ---- rows

-- a row of an object whose number, and of kinds whose places, are those of a position
pub record FitsRow (row : TimeRow) : Type 0 where
  pub object : row.object < 2 ^ 64
  pub places : HasPlaces row

places_below : (most n : ℕ) (ks : List Kind) → n + length ks ≤ most → AllByRecursion (λ (k : ℕ × Kind). k.0 < most) (enumerate_from n ks)
places_below most n [] less = tt
places_below most n (k ∷ ks) less = (omega (arith, less), places_below most (n + 1) ks (omega (arith, less)))

due_in_fits : (t : ℤ) → FitsSigned w64 t → (row : TimeRow) → FitsRow row → AllByRecursion IsPosition (due_in t row)
due_in_fits t fits row h =
    all-map IsPosition (λ (k : ℕ × Kind). position_at t row.object k.0) (filter (λ (k : ℕ × Kind). is_due t k.1) (enumerate_from 0 row.kinds))
    (all-filter (λ (k : ℕ × Kind). IsPosition (position_at t row.object k.0)) (λ (k : ℕ × Kind). is_due t k.1) (enumerate_from 0 row.kinds)
    (all-then (λ (k : ℕ × Kind). k.0 < 2 ^ 32) (λ (k : ℕ × Kind). IsPosition (position_at t row.object k.0)) (λ k less. record { instant = fits; object = h.object; place = less }) (enumerate_from 0 row.kinds)
    (places_below (2 ^ 32) 0 row.kinds (let places : length row.kinds ≤ 2 ^ 32 = h.places in omega (arith, places)))))

pub due_fits : (rows : List TimeRow) → AllByRecursion FitsRow rows → (old : Position) → IsPosition old → (t : ℤ) → FitsSigned w64 t → AllByRecursion IsPosition (due rows old t)
unfolding due
due_fits rows all old is t fits =
    all-filter IsPosition (is_above old) (flat_map (due_at rows) (seconds old.instant t))
    (all-flat (FitsSigned w64) IsPosition (due_at rows) (λ s second. all-flat FitsRow IsPosition (due_in s) (due_in_fits s second) rows all) (seconds old.instant t) (seconds_fit old.instant t is.instant fits))

pub behind_fits : (t : ℤ) → FitsSigned w64 t → IsPosition (behind t)
behind_fits t fits = record { instant = fits; object = omega arith; place = omega arith }

-- ---- how many are due

-- the kinds of all rows
abbrev pub kind_count : List TimeRow → ℕ
kind_count rows = sum_by (λ (row : TimeRow). length row.kinds) rows

filter_few : {X : Type 0} (p : X → Bool) (xs : List X) → length (filter p xs) ≤ length xs
filter_few p [] = omega arith
filter_few p (x ∷ xs) = by_test (p x) (filter_few p xs) where
  by_test : (b : Bool) → length (filter p xs) ≤ length xs → length (cond b (x ∷ filter p xs) (filter p xs)) ≤ length (x ∷ xs)
  by_test true less = omega (arith, less)
  by_test false less = omega (arith, less)

due_in_few : (t : ℤ) (row : TimeRow) → length (due_in t row) ≤ length row.kinds
due_in_few t row =
    let ks : List (ℕ × Kind) = enumerate_from 0 row.kinds in
    let same : length (due_in t row) ≡ length (filter (λ (k : ℕ × Kind). is_due t k.1) ks) = length-map (filter (λ (k : ℕ × Kind). is_due t k.1) ks) (λ (k : ℕ × Kind). position_at t row.object k.0) in
    let fewer = filter_few (λ (k : ℕ × Kind). is_due t k.1) ks in
    let all : length ks ≡ length row.kinds = length-enumerate_from 0 row.kinds in
    omega (arith, same, fewer, all)

due_at_few : (rows : List TimeRow) (t : ℤ) → length (due_at rows t) ≤ kind_count rows
due_at_few rows t = subst (λ n. n ≤ kind_count rows) (sym (length-flat_map (due_in t) rows)) (sum_by-le-sum_by (λ (row : TimeRow). length (due_in t row)) (λ (row : TimeRow). length row.kinds) rows (due_in_few t))

all_few : (rows : List TimeRow) → kind_count rows ≤ 2 ^ 56 → (ts : List ℤ) → length (flat_map (due_at rows) ts) ≤ 2 ^ 56 * length ts
all_few rows few [] = omega arith
all_few rows few (t ∷ ts) =
    let both : length (due_at rows t ++ flat_map (due_at rows) ts) ≡ length (due_at rows t) + length (flat_map (due_at rows) ts) = length-append (due_at rows t) (flat_map (due_at rows) ts) in
    omega (arith, few, both, due_at_few rows t, all_few rows few ts)

seconds_few : (from to : ℤ) → FitsSigned w64 from → FitsSigned w64 to → length (seconds from to) ≤ 2 ^ 64
seconds_few from to low high =
    let n : ℕ = cond (int_le from to) (int_gap from to + 1) 0 in
    subst (λ k. k ≤ 2 ^ 64) (sym (length-map-range_with_len (λ k. from +ℤ pos k) 0 n)) (by_order (int_le from to) refl)
  where
    gap_few : (a b : ℤ) → FitsSigned w64 a → FitsSigned w64 b → a ≤ℤ b → int_gap a b + 1 ≤ 2 ^ 64
    gap_few a b low high order = grind (arith, ints)

    by_order : (b : Bool) → int_le from to ≡ b → cond b (int_gap from to + 1) 0 ≤ 2 ^ 64
    by_order false h = omega arith
    by_order true h = gap_few from to low high (below_last from to h)

-- a counter of 128 bits counts all that is due of few kinds
pub due_few : (rows : List TimeRow) → kind_count rows ≤ 2 ^ 56 → (old : Position) → IsPosition old → (t : ℤ) → FitsSigned w64 t → length (due rows old t) < 2 ^ 128
unfolding due
due_few rows few old is t fits =
    let above = filter_few (is_above old) (flat_map (due_at rows) (seconds old.instant t)) in
    omega (arith, above, all_few rows few (seconds old.instant t), seconds_few old.instant t is.instant fits)
