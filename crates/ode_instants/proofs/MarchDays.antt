-- A day of the calendar, counted from the first of March of the year -400.
use Rattle.std.proofs.Common.{◌≡◌, ◌≤◌, ◌<◌, ℕ, zero, suc, ◌+◌, ◌-◌, ◌*◌, ◌/◌, ◌%◌, Bool, true, false, not, ◌&&◌, ◌||◌, ◌==◌, cond, nat_lt, List, [], ◌∷◌, sum, take, arith, refl, ◌∙◌, ap}
use Rattle.std.specs.Prelude.{slice_index}
use Rattle.std.proofs.lemmas.Bool.{false≢true}
use Rattle.std.proofs.lemmas.Bool.Decides.{nat_tests}
use Rattle.ode_timer.specs.Dates.{days_before, is_leap, months}
use Rattle.ode_timer.proofs.DateLaws.{days_closed}
use Rattle.ode_value.specs.Instants.{date_by, date_text, month_day, spelled_date}
use Rattle.ode_instants.proofs.Years.{begins, date_found, year_of, IsYear}

is_zero : (n : ℕ) → (n == 0) ≡ true → n ≡ 0
is_zero n h = grind (arith, nat_tests)

not_zero : (n : ℕ) → (n == 0) ≡ false → 0 < n
not_zero n h = grind (arith, nat_tests)

-- ---- the parts of a year

record Parts (y : ℕ) : Type 0 where
  pub a : ℕ
  pub p : ℕ
  pub q : ℕ
  pub r : ℕ
  pub is : y ≡ 400 * a + year_of p q r
  pub year : IsYear p q r

parts : (y : ℕ) → Parts y
parts y =
    let s = y % 400 in
    let t = s % 100 in
    record { a = y / 400; p = s / 100; q = t / 4; r = t % 4; is = omega arith; year = record { hundred = omega arith; four = omega arith; year = omega arith } }

-- ---- days before a year

abbrev closed : ℕ → ℕ
closed y = 365 * y + (y + 3) / 4 - (y + 99) / 100 + (y + 399) / 400

-- from March on, behind the leap day
late_sum : (y a p q r : ℕ) → IsYear p q r → 400 + y ≡ 400 * a + year_of p q r → (x z w : Bool) → (y % 4 == 0) ≡ x → (y % 100 == 0) ≡ z → (y % 400 == 0) ≡ w
    → closed y + 59 + cond (x && (not z || w)) 1 0 + 146037 ≡ 146097 * a + begins p q r
late_sum y a p q r i e true true true f g h = let d = is_zero (y % 4) f in let u = is_zero (y % 100) g in let v = is_zero (y % 400) h in omega arith
late_sum y a p q r i e true true false f g h = let d = is_zero (y % 4) f in let u = is_zero (y % 100) g in let v = not_zero (y % 400) h in omega arith
late_sum y a p q r i e true false true f g h = let d = is_zero (y % 4) f in let u = not_zero (y % 100) g in let v = is_zero (y % 400) h in omega arith
late_sum y a p q r i e true false false f g h = let d = is_zero (y % 4) f in let u = not_zero (y % 100) g in let v = not_zero (y % 400) h in omega arith
late_sum y a p q r i e false true true f g h = let d = not_zero (y % 4) f in let u = is_zero (y % 100) g in let v = is_zero (y % 400) h in omega arith
late_sum y a p q r i e false true false f g h = let d = not_zero (y % 4) f in let u = is_zero (y % 100) g in let v = not_zero (y % 400) h in omega arith
late_sum y a p q r i e false false true f g h = let d = not_zero (y % 4) f in let u = not_zero (y % 100) g in let v = is_zero (y % 400) h in omega arith
late_sum y a p q r i e false false false f g h = let d = not_zero (y % 4) f in let u = not_zero (y % 100) g in let v = not_zero (y % 400) h in omega arith

-- in January and February the year before
early_sum : (y a p q r : ℕ) → IsYear p q r → 399 + y ≡ 400 * a + year_of p q r → closed y + 146037 ≡ 146097 * a + begins p q r + 306
early_sum y a p q r i e = omega arith

-- a leap day ends four years, and a hundred only where it ends 400
leap_last : (y a p q r : ℕ) → IsYear p q r → 399 + y ≡ 400 * a + year_of p q r → (x z w : Bool) → (y % 4 == 0) ≡ x → (y % 100 == 0) ≡ z → (y % 400 == 0) ≡ w
    → (x && (not z || w)) ≡ true → (r ≡ 3) × (q ≡ 24 → p ≡ 3)
leap_last y a p q r i e true true true f g h l = let d = is_zero (y % 4) f in let u = is_zero (y % 100) g in let v = is_zero (y % 400) h in (omega arith, λ k. omega arith)
leap_last y a p q r i e true true false f g h l = absurd (false≢true l)
leap_last y a p q r i e true false true f g h l = let d = is_zero (y % 4) f in let u = not_zero (y % 100) g in let v = is_zero (y % 400) h in (omega arith, λ k. omega arith)
leap_last y a p q r i e true false false f g h l = let d = is_zero (y % 4) f in let u = not_zero (y % 100) g in let v = not_zero (y % 400) h in (omega arith, λ k. omega arith)
leap_last y a p q r i e false true true f g h l = absurd (false≢true l)
leap_last y a p q r i e false true false f g h l = absurd (false≢true l)
leap_last y a p q r i e false false true f g h l = absurd (false≢true l)
leap_last y a p q r i e false false false f g h l = absurd (false≢true l)

-- ---- days before a month, and how long it is

abbrev months_by : Bool → List ℕ
months_by b = 31 ∷ cond b 29 28 ∷ 31 ∷ 30 ∷ 31 ∷ 30 ∷ 31 ∷ 31 ∷ 30 ∷ 31 ∷ 30 ∷ 31 ∷ []

month_sum : (b : Bool) (m : ℕ) → 3 ≤ m → m ≤ 12 → sum (take (m - 1) (months_by b)) ≡ 59 + cond b 1 0 + month_day (m - 3)
month_sum b zero low high = absurd (omega arith)
month_sum b (suc zero) low high = absurd (omega arith)
month_sum b (suc (suc zero)) low high = absurd (omega arith)
month_sum true (suc (suc (suc zero))) low high = refl
month_sum true (suc (suc (suc (suc zero)))) low high = refl
month_sum true (suc (suc (suc (suc (suc zero))))) low high = refl
month_sum true (suc (suc (suc (suc (suc (suc zero)))))) low high = refl
month_sum true (suc (suc (suc (suc (suc (suc (suc zero))))))) low high = refl
month_sum true (suc (suc (suc (suc (suc (suc (suc (suc zero)))))))) low high = refl
month_sum true (suc (suc (suc (suc (suc (suc (suc (suc (suc zero))))))))) low high = refl
month_sum true (suc (suc (suc (suc (suc (suc (suc (suc (suc (suc zero)))))))))) low high = refl
month_sum true (suc (suc (suc (suc (suc (suc (suc (suc (suc (suc (suc zero))))))))))) low high = refl
month_sum true (suc (suc (suc (suc (suc (suc (suc (suc (suc (suc (suc (suc zero)))))))))))) low high = refl
month_sum false (suc (suc (suc zero))) low high = refl
month_sum false (suc (suc (suc (suc zero)))) low high = refl
month_sum false (suc (suc (suc (suc (suc zero))))) low high = refl
month_sum false (suc (suc (suc (suc (suc (suc zero)))))) low high = refl
month_sum false (suc (suc (suc (suc (suc (suc (suc zero))))))) low high = refl
month_sum false (suc (suc (suc (suc (suc (suc (suc (suc zero)))))))) low high = refl
month_sum false (suc (suc (suc (suc (suc (suc (suc (suc (suc zero))))))))) low high = refl
month_sum false (suc (suc (suc (suc (suc (suc (suc (suc (suc (suc zero)))))))))) low high = refl
month_sum false (suc (suc (suc (suc (suc (suc (suc (suc (suc (suc (suc zero))))))))))) low high = refl
month_sum false (suc (suc (suc (suc (suc (suc (suc (suc (suc (suc (suc (suc zero)))))))))))) low high = refl
month_sum b (suc (suc (suc (suc (suc (suc (suc (suc (suc (suc (suc (suc (suc m))))))))))))) low high = absurd (omega arith)

month_bound : (b : Bool) (m day : ℕ) → 3 ≤ m → m ≤ 12 → day ≤ slice_index (months_by b) (m - 1) → month_day (m - 3) + day ≤ month_day (m - 3 + 1)
month_bound b zero day low high within = absurd (omega arith)
month_bound b (suc zero) day low high within = absurd (omega arith)
month_bound b (suc (suc zero)) day low high within = absurd (omega arith)
month_bound true (suc (suc (suc zero))) day low high within = omega arith
month_bound true (suc (suc (suc (suc zero)))) day low high within = omega arith
month_bound true (suc (suc (suc (suc (suc zero))))) day low high within = omega arith
month_bound true (suc (suc (suc (suc (suc (suc zero)))))) day low high within = omega arith
month_bound true (suc (suc (suc (suc (suc (suc (suc zero))))))) day low high within = omega arith
month_bound true (suc (suc (suc (suc (suc (suc (suc (suc zero)))))))) day low high within = omega arith
month_bound true (suc (suc (suc (suc (suc (suc (suc (suc (suc zero))))))))) day low high within = omega arith
month_bound true (suc (suc (suc (suc (suc (suc (suc (suc (suc (suc zero)))))))))) day low high within = omega arith
month_bound true (suc (suc (suc (suc (suc (suc (suc (suc (suc (suc (suc zero))))))))))) day low high within = omega arith
month_bound true (suc (suc (suc (suc (suc (suc (suc (suc (suc (suc (suc (suc zero)))))))))))) day low high within = omega arith
month_bound false (suc (suc (suc zero))) day low high within = omega arith
month_bound false (suc (suc (suc (suc zero)))) day low high within = omega arith
month_bound false (suc (suc (suc (suc (suc zero))))) day low high within = omega arith
month_bound false (suc (suc (suc (suc (suc (suc zero)))))) day low high within = omega arith
month_bound false (suc (suc (suc (suc (suc (suc (suc zero))))))) day low high within = omega arith
month_bound false (suc (suc (suc (suc (suc (suc (suc (suc zero)))))))) day low high within = omega arith
month_bound false (suc (suc (suc (suc (suc (suc (suc (suc (suc zero))))))))) day low high within = omega arith
month_bound false (suc (suc (suc (suc (suc (suc (suc (suc (suc (suc zero)))))))))) day low high within = omega arith
month_bound false (suc (suc (suc (suc (suc (suc (suc (suc (suc (suc (suc zero))))))))))) day low high within = omega arith
month_bound false (suc (suc (suc (suc (suc (suc (suc (suc (suc (suc (suc (suc zero)))))))))))) day low high within = omega arith
month_bound b (suc (suc (suc (suc (suc (suc (suc (suc (suc (suc (suc (suc (suc m))))))))))))) day low high within = absurd (omega arith)

-- ---- the date of a day

pub record IsCalendarDay (y m day : ℕ) : Type 0 where
  pub low : 1 ≤ m
  pub high : m ≤ 12
  pub some : 1 ≤ day
  pub within : day ≤ slice_index (months y) (m - 1)

-- the days before it, from year 0
abbrev pub days_to : ℕ → ℕ → ℕ → ℕ
days_to y m day = days_before y + sum (take (m - 1) (months y)) + (day - 1)

late_month : (m : ℕ) → 3 ≤ m → m ≤ 12 → month_day (m - 3 + 1) ≤ 306
late_month m low high = omega arith

late_date : (a y m day c : ℕ) → nat_lt (m - 3) 10 ≡ true → 400 + y ≡ 400 * a + c → 3 ≤ m → date_by a c (m - 3) day ≡ spelled_date y m day
late_date a y m day c l e low =
    let year : 400 * a + c - 400 ≡ y = omega arith in
    let month : m - 3 + 3 ≡ m = omega arith in
    ap (λ t. cond t (spelled_date (400 * a + c - 400) (m - 3 + 3) day) (spelled_date (400 * a + c + 1 - 400) (m - 3 - 9) day)) l
    ∙ (ap (λ n. spelled_date n (m - 3 + 3) day) year ∙ ap (λ n. spelled_date y n day) month)

before_ten : (m : ℕ) → m ≤ 12 → nat_lt (m - 3) 10 ≡ true
before_ten m l = grind (arith, nat_tests)

-- sums with the parts named
late_total : (before s days day first a b n : ℕ) → s ≡ 59 + b + first → before + 59 + b + 146037 ≡ n → days ≡ before → days + s + (day - 1) + 146037 ≡ n + (first + (day - 1))
late_total before s days day first a b n e f g = omega arith

moved : (x y z : ℕ) → x + y + z ≡ x + (y + z)
moved x y z = omega arith

late : (y m day : ℕ) → IsCalendarDay y m day → 3 ≤ m → date_text (days_to y m day + 146037) ≡ spelled_date y m day
late y m day d low =
    let x = parts (400 + y) in
    let some = d.some in
    let years = late_sum y x.a x.p x.q x.r x.year x.is (y % 4 == 0) (y % 100 == 0) (y % 400 == 0) refl refl refl in
    let before = month_sum (is_leap y) m low d.high in
    let bound = month_bound (is_leap y) m day low d.high d.within in
    let most = late_month m low d.high in
    let first = month_day (m - 3) in
    let k = first + (day - 1) in
    let total = late_total (closed y) (sum (take (m - 1) (months y))) (days_before y) day first 0 (cond (is_leap y) 1 0) (146097 * x.a + begins x.p x.q x.r) before years (days_closed y) in
    let exact : days_to y m day + 146037 ≡ 146097 * x.a + (begins x.p x.q x.r + k) = total ∙ moved (146097 * x.a) (begins x.p x.q x.r) k in
    let short : k < 306 = omega arith in
    let found = date_found (days_to y m day + 146037) x.a x.p x.q x.r k (m - 3)
    (record {
      year = x.year;
      in_year = record { small = omega arith; leap = λ e. absurd (omega arith); century = λ e f. absurd (omega arith) };
      low = omega arith;
      high = omega arith;
      is = exact;
    }) in
    let number : k - first + 1 ≡ day = omega arith in
    found ∙ (ap (date_by x.a (year_of x.p x.q x.r) (m - 3)) number ∙ late_date x.a y m day (year_of x.p x.q x.r) (before_ten m d.high) x.is low)

early_date : (a y day c : ℕ) → 399 + y ≡ 400 * a + c → (date_by a c 10 day ≡ spelled_date y 1 day) × (date_by a c 11 day ≡ spelled_date y 2 day)
early_date a y day c e =
    let year : 400 * a + c + 1 - 400 ≡ y = omega arith in
    (ap (λ n. spelled_date n 1 day) year, ap (λ n. spelled_date n 2 day) year)

early_total : (before s days day first n : ℕ) → first ≡ 306 + s → before + 146037 ≡ n + 306 → days ≡ before → days + s + (day - 1) + 146037 ≡ n + (first + (day - 1))
early_total before s days day first n e f g = omega arith

january : (y day : ℕ) → IsCalendarDay y 1 day → date_text (days_to y 1 day + 146037) ≡ spelled_date y 1 day
january y day d =
    let x = parts (399 + y) in
    let some = d.some in
    let few : day ≤ 31 = d.within in
    let k = 306 + (day - 1) in
    let total = early_total (closed y) 0 (days_before y) day 306 (146097 * x.a + begins x.p x.q x.r) refl (early_sum y x.a x.p x.q x.r x.year x.is) (days_closed y) in
    let exact : days_to y 1 day + 146037 ≡ 146097 * x.a + (begins x.p x.q x.r + k) = total ∙ moved (146097 * x.a) (begins x.p x.q x.r) k in
    let short : k < 337 = omega arith in
    let found = date_found (days_to y 1 day + 146037) x.a x.p x.q x.r k 10
    (record {
      year = x.year;
      in_year = record { small = omega arith; leap = λ e. absurd (omega arith); century = λ e f. absurd (omega arith) };
      low = omega arith;
      high = short;
      is = exact;
    }) in
    let number : k - 306 + 1 ≡ day = omega arith in
    found ∙ (ap (date_by x.a (year_of x.p x.q x.r) 10) number ∙ (early_date x.a y day (year_of x.p x.q x.r) x.is).0)

february_days : (b : Bool) (day : ℕ) → day ≤ cond b 29 28 → (day ≤ 29) × (29 ≤ day → b ≡ true)
february_days true day l = (l, λ k. refl)
february_days false day l = (omega arith, λ k. absurd (omega arith))

february : (y day : ℕ) → IsCalendarDay y 2 day → date_text (days_to y 2 day + 146037) ≡ spelled_date y 2 day
february y day d =
    let x = parts (399 + y) in
    let some = d.some in
    let within = february_days (is_leap y) day d.within in
    let few = within.0 in
    let last : day ≡ 29 → (x.r ≡ 3) × (x.q ≡ 24 → x.p ≡ 3) =
    λ e. leap_last y x.a x.p x.q x.r x.year x.is (y % 4 == 0) (y % 100 == 0) (y % 400 == 0) refl refl refl (within.1 (omega arith)) in
    let k = 337 + (day - 1) in
    let total = early_total (closed y) 31 (days_before y) day 337 (146097 * x.a + begins x.p x.q x.r) refl (early_sum y x.a x.p x.q x.r x.year x.is) (days_closed y) in
    let exact : days_to y 2 day + 146037 ≡ 146097 * x.a + (begins x.p x.q x.r + k) = total ∙ moved (146097 * x.a) (begins x.p x.q x.r) k in
    let short : k ≤ 365 = omega arith in
    let of_last : k ≡ 365 → day ≡ 29 = λ e. omega arith in
    let found = date_found (days_to y 2 day + 146037) x.a x.p x.q x.r k 11
    (record {
      year = x.year;
      in_year = record { small = short; leap = λ e. (last (of_last e)).0; century = λ e f. (last (of_last e)).1 f };
      low = omega arith;
      high = omega arith;
      is = exact;
    }) in
    let number : k - 337 + 1 ≡ day = omega arith in
    found ∙ (ap (date_by x.a (year_of x.p x.q x.r) 11) number ∙ (early_date x.a y day (year_of x.p x.q x.r) x.is).1)

pub calendar_date : (y m day : ℕ) → IsCalendarDay y m day → date_text (days_to y m day + 146037) ≡ spelled_date y m day
calendar_date y zero day d = absurd (let l = d.low in omega arith)
calendar_date y (suc zero) day d = january y day d
calendar_date y (suc (suc zero)) day d = february y day d
calendar_date y (suc (suc (suc m))) day d = late y (suc (suc (suc m))) day d (omega arith)
