-- The seconds of instants have 64 bits.
use Rattle.std.proofs.Common.{◌≡◌, ◌≤◌, ◌<◌, ◌+◌, ◌-◌, ◌*◌, ◌^◌, ℕ, zero, suc, ℤ, pos, List, [], ◌∷◌, Bool, true, false, cond, Some, None, refl, sym, subst, arith, sum, take}
use Rattle.std.specs.Prelude.{◌-ℤ◌, ◌&&◌, FitsSigned, nat_le, nat_lt, slice_index}
use Rattle.std.specs.Int.{w64}
use Rattle.std.specs.List.{AllByRecursion}
use Rattle.std.specs.Option.{option_map}
use Rattle.std.specs.Str.{bytes_eq}
use Rattle.std.proofs.lemmas.Bool.{and_parts}
use Rattle.std.proofs.lemmas.Bool.Decides.{nat_tests}
use Rattle.std.proofs.lemmas.Int.{ints}
use Rattle.ode_timer.specs.Dates.{date_in, days_before, instant_of, is_day, is_leap, is_real, months, second_of, seconds_before, spelled}
use Rattle.ode_timer.proofs.DateLaws.{epoch, months_before, year_days}

-- ---- the days before a year

short_year : (b : Bool) → cond b 366 365 ≤ 366
short_year true = omega arith
short_year false = omega arith

days_few : (year : ℕ) → days_before year ≤ 366 * year
unfolding days_before
days_few zero = omega arith
days_few (suc year) =
    let past = days_few year in
    let here : sum (months year) ≤ 366 = subst (λ n. n ≤ 366) (sym (year_days year)) (short_year (is_leap year)) in
    omega (arith, past, here)

-- ---- dates

at_most : (m n : ℕ) → nat_le m n ≡ true → m ≤ n
at_most m n is = grind (arith, nat_tests)

below : (m n : ℕ) → nat_lt m n ≡ true → m < n
below m n is = grind (arith, nat_tests)

short_month : (b : Bool) → cond b 29 28 ≤ 31
short_month true = omega arith
short_month false = omega arith

all_short : (xs : List ℕ) → AllByRecursion (λ n. n ≤ 31) xs → (i : ℕ) → slice_index xs i ≤ 31
all_short [] all i = omega arith
all_short (x ∷ xs) all zero = all.0
all_short (x ∷ xs) all (suc i) = all_short xs all.1 i

months_short : (year i : ℕ) → slice_index (months year) i ≤ 31
months_short year i =
    let m : 31 ≤ 31 = omega arith in
    let n : 30 ≤ 31 = omega arith in
    all_short (months year) (m, (short_month (is_leap year), (m, (n, (m, (n, (m, (m, (n, (m, (n, (m, tt)))))))))))) i

second_few : (year month day hour minute second : ℕ) → year ≤ 9999 → day ≤ 31 → hour < 24 → minute < 60 → second < 60
    → (days_before year + sum (take (month - 1) (months year)) + (day - 1)) * 86400 + hour * 3600 + minute * 60 + second < 2 ^ 62
second_few year month day hour minute second y d h m s =
    let days = days_few year in
    let before : sum (take (month - 1) (months year)) ≤ 366 = months_before year (month - 1) in
    omega (arith, days, before, y, d, h, m, s)

fits_by : (n : ℕ) → n < 2 ^ 62 → (m : ℕ) → m ≡ 719528 → FitsSigned w64 (pos n -ℤ pos (m * 86400))
fits_by n less m is = grind (arith, ints)

-- ---- a text

real_fits : (text : List ℕ) → is_real (date_in text) ≡ true → FitsSigned w64 (second_of (date_in text))
real_fits text is =
    let d = date_in text in
    let third = and_parts (is_day d.year d.month d.day && nat_lt d.hour 24 && nat_lt d.minute 60) (nat_lt d.second 60) is in
    let second = and_parts (is_day d.year d.month d.day && nat_lt d.hour 24) (nat_lt d.minute 60) third.0 in
    let first = and_parts (is_day d.year d.month d.day) (nat_lt d.hour 24) second.0 in
    let last = nat_le d.day (slice_index (months d.year) (d.month - 1)) in
    let days = and_parts (nat_le d.year 9999 && nat_le 1 d.month && nat_le d.month 12 && nat_le 1 d.day) last first.0 in
    let from = and_parts (nat_le d.year 9999 && nat_le 1 d.month && nat_le d.month 12) (nat_le 1 d.day) days.0 in
    let high = and_parts (nat_le d.year 9999 && nat_le 1 d.month) (nat_le d.month 12) from.0 in
    let low = and_parts (nat_le d.year 9999) (nat_le 1 d.month) high.0 in
    let within : d.day ≤ slice_index (months d.year) (d.month - 1) = at_most d.day (slice_index (months d.year) (d.month - 1)) days.1 in
    let short = months_short d.year (d.month - 1) in
    let day : d.day ≤ 31 = omega (arith, within, short) in
    let few = second_few d.year d.month d.day d.hour d.minute d.second (at_most d.year 9999 low.0) day (below d.hour 24 first.1) (below d.minute 60 second.1) (below d.second 60 third.1) in
    fits_by (seconds_before d) few (days_before 1970) epoch

pub instants_fit : (text : List ℕ) (t : ℤ) → instant_of text ≡ Some t → FitsSigned w64 t
unfolding instant_of
instants_fit text t h = by_test (bytes_eq text (spelled (date_in text))) (is_real (date_in text)) refl h where
  by_test : (a b : Bool) → is_real (date_in text) ≡ b → option_map second_of (cond (a && b) (Some (date_in text)) None) ≡ Some t → FitsSigned w64 t
  by_test true true is e = let same : second_of (date_in text) ≡ t = cc in subst (FitsSigned w64) same (real_fits text is)
  by_test true false is e = absurd (cc)
  by_test false b is e = absurd (cc)
