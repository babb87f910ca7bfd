-- The year and the month of a day, counted from March on.
use Rattle.std.proofs.Common.{◌≡◌, ◌≤◌, ◌<◌, ◌⊎◌, inl, inr, ℕ, ◌+◌, ◌-◌, ◌*◌, ◌/◌, ◌%◌, arith, refl, sym, ◌∙◌, ap}
use Rattle.std.proofs.lemmas.Bool.{cases_lt}
use Rattle.ode_value.specs.Instants.{date_by, date_in_age, date_in_year, date_text, first_day, month_day, month_in, year_in}

-- a year of 400, by its hundred, its four years and the year among these
abbrev pub year_of : ℕ → ℕ → ℕ → ℕ
year_of p q r = 100 * p + 4 * q + r

-- and its first day
abbrev pub begins : ℕ → ℕ → ℕ → ℕ
begins p q r = 36524 * p + 1461 * q + 365 * r

pub record IsYear (p q r : ℕ) : Type 0 where
  pub hundred : p ≤ 3
  pub four : q ≤ 24
  pub year : r ≤ 3

by_four : (p q r : ℕ) → IsYear p q r → year_of p q r / 4 ≡ 25 * p + q
by_four p q r y = omega arith

by_hundred : (p q r : ℕ) → IsYear p q r → year_of p q r / 100 ≡ p
by_hundred p q r y = omega arith

first_day_is : (p q r : ℕ) → IsYear p q r → first_day (year_of p q r) ≡ begins p q r
first_day_is p q r y = let a = by_four p q r y in let b = by_hundred p q r y in omega arith

-- a day of that year: its last one, where it is the 366th, ends four years, and a hundred only where it ends 400
pub record IsDay (p q r k : ℕ) : Type 0 where
  pub small : k ≤ 365
  pub leap : k ≡ 365 → r ≡ 3
  pub century : k ≡ 365 → q ≡ 24 → p ≡ 3

-- ---- the divisions

low_1460 : (n p q r k : ℕ) → n ≡ begins p q r + k → IsYear p q r → 365 * r + k + q + 24 * p < 1460 → n / 1460 ≡ 25 * p + q
low_1460 n p q r k e y l = omega arith

high_1460 : (n p q r k : ℕ) → n ≡ begins p q r + k → IsYear p q r → k ≤ 365 → 1460 ≤ 365 * r + k + q + 24 * p → n / 1460 ≡ 25 * p + q + 1
high_1460 n p q r k e y s l = omega arith

low_36524 : (n p q r k : ℕ) → n ≡ begins p q r + k → IsYear p q r → 1461 * q + 365 * r + k < 36524 → n / 36524 ≡ p
low_36524 n p q r k e y l = omega arith

low_146096 : (n p q r k : ℕ) → n ≡ begins p q r + k → IsYear p q r → 1461 * q + 365 * r + k < 36524 → n / 146096 ≡ 0
low_146096 n p q r k e y l = omega arith

year_low : (n p q r k u v x : ℕ) → n ≡ begins p q r + k → k ≤ 364 → u ≡ 25 * p + q → v ≡ p → x ≡ 0 → (n - u + v - x) / 365 ≡ year_of p q r
year_low n p q r k u v x e s a b c = omega arith

year_high : (n p q r k u v x : ℕ) → n ≡ begins p q r + k → k ≤ 365 → 0 < k → u ≡ 25 * p + q + 1 → v ≡ p → x ≡ 0 → (n - u + v - x) / 365 ≡ year_of p q r
year_high n p q r k u v x e s t a b c = omega arith

no_last : (p q r k : ℕ) → IsDay p q r k → IsYear p q r → 365 * r + k + q + 24 * p < 1460 → k ≤ 364
no_last p q r k d y l = cases (cases_lt k 365)
  where
    cases : (k < 365) ⊎ (365 ≤ k) → k ≤ 364
    cases (inl h) = omega arith
    cases (inr h) = let s = d.small in let k_is : k ≡ 365 = omega arith in let r_is = d.leap k_is in absurd (omega arith)

not_first : (p q r k : ℕ) → IsYear p q r → 1460 ≤ 365 * r + k + q + 24 * p → 0 < k
not_first p q r k y l = omega arith

inside : (n p q r k : ℕ) → n ≡ begins p q r + k → IsYear p q r → IsDay p q r k → 1461 * q + 365 * r + k < 36524 → year_in n ≡ year_of p q r
inside n p q r k e y d l = cases (cases_lt (365 * r + k + q + 24 * p) 1460)
  where
    cases : (365 * r + k + q + 24 * p < 1460) ⊎ (1460 ≤ 365 * r + k + q + 24 * p) → year_in n ≡ year_of p q r
    cases (inl h) =
        year_low n p q r k (n / 1460) (n / 36524) (n / 146096) e (no_last p q r k d y h) (low_1460 n p q r k e y h) (low_36524 n p q r k e y l) (low_146096 n p q r k e y l)
    cases (inr h) =
        year_high n p q r k (n / 1460) (n / 36524) (n / 146096) e d.small (not_first p q r k y h) (high_1460 n p q r k e y d.small h) (low_36524 n p q r k e y l) (low_146096 n p q r k e y l)

last_day : (n p q r k : ℕ) → n ≡ begins p q r + k → IsYear p q r → IsDay p q r k → 36524 ≤ 1461 * q + 365 * r + k → (n ≡ 146096) × (year_of p q r ≡ 399)
last_day n p q r k e y d l =
    let s = d.small in
    let k_is : k ≡ 365 = omega arith in
    let q_is : q ≡ 24 = omega arith in
    let r_is : r ≡ 3 = d.leap k_is in
    let p_is : p ≡ 3 = d.century k_is q_is in
    (omega arith, omega arith)

pub year_found : (n p q r k : ℕ) → n ≡ begins p q r + k → IsYear p q r → IsDay p q r k → year_in n ≡ year_of p q r
year_found n p q r k e y d = cases (cases_lt (1461 * q + 365 * r + k) 36524)
  where
    cases : (1461 * q + 365 * r + k < 36524) ⊎ (36524 ≤ 1461 * q + 365 * r + k) → year_in n ≡ year_of p q r
    cases (inl h) = inside n p q r k e y d h
    cases (inr h) = let x = last_day n p q r k e y d h in ap year_in x.0 ∙ sym x.1

-- ---- months

pub month_found : (m k : ℕ) → month_day m ≤ k → k < month_day (m + 1) → month_in k ≡ m
month_found m k low high = omega arith

-- ---- dates

pub record IsMarchDate (day a p q r k m : ℕ) : Type 0 where
  pub year : IsYear p q r
  pub in_year : IsDay p q r k
  pub low : month_day m ≤ k
  pub high : k < month_day (m + 1)
  pub is : day ≡ 146097 * a + (begins p q r + k)

behind_years : (day a n : ℕ) → day ≡ 146097 * a + n → n < 146097 → (day / 146097 ≡ a) × (day % 146097 ≡ n)
behind_years day a n e l = (omega arith, omega arith)

year_short : (p q r k : ℕ) → IsYear p q r → k ≤ 365 → begins p q r + k < 146097
year_short p q r k y s = omega arith

first_gone : (p q r k : ℕ) → IsYear p q r → begins p q r + k - first_day (year_of p q r) ≡ k
first_gone p q r k y = let e = first_day_is p q r y in ap (λ f. begins p q r + k - f) e ∙ omega arith

pub date_found : (day a p q r k m : ℕ) → IsMarchDate day a p q r k m → date_text day ≡ date_by a (year_of p q r) m (k - month_day m + 1)
date_found day a p q r k m x =
    let n = begins p q r + k in
    let b = behind_years day a n x.is (year_short p q r k x.year x.in_year.small) in
    let y = year_found n p q r k refl x.year x.in_year in
    let month = month_found m k x.low x.high in
    ap (λ c. date_in_age c (day % 146097)) b.0
    ∙ (ap (date_in_age a) b.1
    ∙ (ap (λ c. date_in_year a c (n - first_day c)) y
    ∙ (ap (date_in_year a (year_of p q r)) (first_gone p q r k x.year)
    ∙ ap (λ c. date_by a (year_of p q r) c (k - month_day c + 1)) month)))
