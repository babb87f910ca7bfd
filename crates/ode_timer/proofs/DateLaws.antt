-- The calendar's days, counted.
use Rattle.std.proofs.Common.{◌≡◌, ℕ, zero, suc, ◌+◌, ◌-◌, ◌*◌, ◌/◌, ◌%◌, ◌≤◌, ◌<◌, List, [], ◌∷◌, length, take, sum, Bool, true, false, cond, refl, ap, sym, ◌∙◌, arith, pos, IsTrue, ◌↔◌, Some, None}
use Rattle.std.specs.Prelude.{not, ◌&&◌, ◌||◌, ◌==◌, nat_le, slice_index}
use Rattle.std.proofs.lemmas.Bool.Decides.{nat_tests}
use Rattle.std.proofs.lemmas.List.Sums.{sum_by-take-le}
use Rattle.jiff.specs.Words.{IsDate, days_in_month}
use Rattle.ode_timer.specs.declared.calendar.Date.{Date}
use Rattle.ode_timer.specs.Dates.{date_in, date_of, days_before, months, is_leap, is_day, is_real, spelled}
use Rattle.std.specs.Str.{bytes_eq}
use Rattle.std.proofs.lemmas.Int.{ints}
use Rattle.std.proofs.lemmas.Slice.Eq.{bytes_eq-Decides}

-- a year's days
by_leap : (b : Bool) → sum (31 ∷ cond b 29 28 ∷ 31 ∷ 30 ∷ 31 ∷ 30 ∷ 31 ∷ 31 ∷ 30 ∷ 31 ∷ 30 ∷ 31 ∷ []) ≡ cond b 366 365
by_leap true = refl
by_leap false = refl

pub year_days : (y : ℕ) → sum (months y) ≡ cond (is_leap y) 366 365
year_days y = by_leap (is_leap y)

most : (b : Bool) → cond b 366 365 ≤ 366
most true = omega arith
most false = omega arith

pub months_before : (y k : ℕ) → sum (take k (months y)) ≤ 366
months_before y k = let part = sum_by-take-le (λ n. n) (months y) k in let all = year_days y in let up = most (is_leap y) in omega arith

-- the days before a year, counted by leap days
abbrev closed : ℕ → ℕ
closed y = 365 * y + (y + 3) / 4 - (y + 99) / 100 + (y + 399) / 400

is_zero : (n : ℕ) → (n == 0) ≡ true → n ≡ 0
is_zero n h = grind (arith, nat_tests)

not_zero : (n : ℕ) → (n == 0) ≡ false → 0 < n
not_zero n h = grind (arith, nat_tests)

by_tests : (y : ℕ) (a b c : Bool) → (y % 4 == 0) ≡ a → (y % 100 == 0) ≡ b → (y % 400 == 0) ≡ c → closed y + cond (a && (not b || c)) 366 365 ≡ closed (suc y)
by_tests y true true true p q r = let d = is_zero (y % 4) p in let e = is_zero (y % 100) q in let f = is_zero (y % 400) r in omega arith
by_tests y true true false p q r = let d = is_zero (y % 4) p in let e = is_zero (y % 100) q in let f = not_zero (y % 400) r in omega arith
by_tests y true false true p q r = let d = is_zero (y % 4) p in let e = not_zero (y % 100) q in let f = is_zero (y % 400) r in omega arith
by_tests y true false false p q r = let d = is_zero (y % 4) p in let e = not_zero (y % 100) q in let f = not_zero (y % 400) r in omega arith
by_tests y false true true p q r = let d = not_zero (y % 4) p in let e = is_zero (y % 100) q in let f = is_zero (y % 400) r in omega arith
by_tests y false true false p q r = let d = not_zero (y % 4) p in let e = is_zero (y % 100) q in let f = not_zero (y % 400) r in omega arith
by_tests y false false true p q r = let d = not_zero (y % 4) p in let e = not_zero (y % 100) q in let f = is_zero (y % 400) r in omega arith
by_tests y false false false p q r = let d = not_zero (y % 4) p in let e = not_zero (y % 100) q in let f = not_zero (y % 400) r in omega arith

pub days_closed : (y : ℕ) → days_before y ≡ 365 * y + (y + 3) / 4 - (y + 99) / 100 + (y + 399) / 400
unfolding days_before
days_closed zero = refl
days_closed (suc y) =
    ap (λ n. n + sum (months y)) (days_closed y) ∙ ap (λ n. closed y + n) (year_days y) ∙ by_tests y (y % 4 == 0) (y % 100 == 0) (y % 400 == 0) refl refl refl

pub epoch : days_before 1970 ≡ 719528
unfolding days_before
epoch = refl

-- a month's days are those of the calendar
pub month_days : (y m : ℕ) → 1 ≤ m → m ≤ 12 → slice_index (months y) (m - 1) ≡ days_in_month (pos y) m
month_days y zero low high = absurd (omega arith)
month_days y (suc zero) low high = refl
month_days y (suc (suc zero)) low high = refl
month_days y (suc (suc (suc zero))) low high = refl
month_days y (suc (suc (suc (suc zero)))) low high = refl
month_days y (suc (suc (suc (suc (suc zero))))) low high = refl
month_days y (suc (suc (suc (suc (suc (suc zero)))))) low high = refl
month_days y (suc (suc (suc (suc (suc (suc (suc zero))))))) low high = refl
month_days y (suc (suc (suc (suc (suc (suc (suc (suc zero)))))))) low high = refl
month_days y (suc (suc (suc (suc (suc (suc (suc (suc (suc zero))))))))) low high = refl
month_days y (suc (suc (suc (suc (suc (suc (suc (suc (suc (suc zero)))))))))) low high = refl
month_days y (suc (suc (suc (suc (suc (suc (suc (suc (suc (suc (suc zero))))))))))) low high = refl
month_days y (suc (suc (suc (suc (suc (suc (suc (suc (suc (suc (suc (suc zero)))))))))))) low high = refl
month_days y (suc (suc (suc (suc (suc (suc (suc (suc (suc (suc (suc (suc (suc n))))))))))))) low high = absurd (omega arith)

and_left : (a b : Bool) → (a && b) ≡ true → a ≡ true
and_left true b h = refl
and_left false b h = h

and_right : (a b : Bool) → (a && b) ≡ true → b ≡ true
and_right true b h = h
and_right false b h = absurd (cc)

le_from : (a b : ℕ) → nat_le a b ≡ true → a ≤ b
le_from a b h = grind (arith, nat_tests)

le_to : (a b : ℕ) → a ≤ b → nat_le a b ≡ true
le_to a b h = grind (arith, nat_tests)

all_true : (a b c d e : Bool) → a ≡ true → b ≡ true → c ≡ true → d ≡ true → e ≡ true → (a && b && c && d && e) ≡ true
all_true a b c d e p q r s t = rw (p, q, r, s, t) refl

dated : (y m d : ℕ) → is_day y m d ≡ true → IsDate (pos y) (pos m) (pos d)
dated y m d h =
    let a = nat_le y 9999 in
    let b = nat_le 1 m in
    let c = nat_le m 12 in
    let e = nat_le 1 d in
    let f = nat_le d (slice_index (months y) (m - 1)) in
    let four = and_left (a && b && c && e) f h in
    let three = and_left (a && b && c) e four in
    let two = and_left (a && b) c three in
    let year = le_from y 9999 (and_left a b two) in
    let low = le_from 1 m (and_right a b two) in
    let high = le_from m 12 (and_right (a && b) c three) in
    let first = le_from 1 d (and_right (a && b && c) e four) in
    let last : d ≤ days_in_month (pos y) m = let within = le_from d (slice_index (months y) (m - 1)) (and_right (a && b && c && e) f h) in let same = month_days y m low high in omega arith in
    ((omega (arith, ints), omega (arith, ints)), (omega (arith, ints), omega (arith, ints)), (omega (arith, ints), omega (arith, ints)))

-- the calendar's answer is that of the test
pub day_test : (y m d : ℕ) (b : Bool) → y ≤ 9999 → IsTrue b ↔ IsDate (pos y) (pos m) (pos d) → b ≡ is_day y m d
day_test y m d true year is =
    let date = is.0 refl in
    let low : 1 ≤ m = omega (arith, ints, date.1.0) in
    let high : m ≤ 12 = omega (arith, ints, date.1.1) in
    let first : 1 ≤ d = omega (arith, ints, date.2.0) in
    let last : d ≤ slice_index (months y) (m - 1) = omega (arith, ints, date.2.1, month_days y m low high) in
    sym (all_true (nat_le y 9999) (nat_le 1 m) (nat_le m 12) (nat_le 1 d) (nat_le d (slice_index (months y) (m - 1))) (le_to y 9999 year) (le_to 1 m low) (le_to m 12 high) (le_to 1 d first) (le_to d (slice_index (months y) (m - 1)) last))
day_test y m d false year is = by_test (is_day y m d) refl where
  by_test : (t : Bool) → is_day y m d ≡ t → false ≡ t
  by_test false h = refl
  by_test true h = is.1 (dated y m d h)

-- a text of another length spells no date
pub short_text : (text : List ℕ) → (length text ≡ 20 → ⊥) → None ≡ date_of text
short_text text other = by_test (bytes_eq text (spelled (date_in text))) refl where
  by_test : (t : Bool) → bytes_eq text (spelled (date_in text)) ≡ t → None ≡ cond (t && is_real (date_in text)) (Some (date_in text)) None
  by_test false h = refl
  by_test true h = absurd (other (ap length ((bytes_eq-Decides text (spelled (date_in text))).0 h)))

-- nor does one that doesn't spell the date that it would be, or whose date isn't real
pub not_dated : (text : List ℕ) (d : Date) → d ≡ date_in text → (bytes_eq text (spelled d) && is_real d) ≡ false → None ≡ date_of text
not_dated text d is h = sym (ap (λ (e : Date). cond (bytes_eq text (spelled e) && is_real e) (Some e) None) (sym is) ∙ ap (λ t. cond t (Some d) None) h)
