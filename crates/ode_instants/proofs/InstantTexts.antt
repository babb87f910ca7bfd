-- The text of an instant is that instant.
use Rattle.std.proofs.Common.{◌≡◌, ◌≤◌, ◌<◌, ◌⊎◌, inl, inr, ℕ, ◌+◌, ◌-◌, ◌*◌, ◌/◌, ◌%◌, ℤ, pos, negsuc, Bool, true, false, ◌&&◌, cond, codes, nat_le, nat_lt, List, ◌++◌, Some, None, option_map, arith, refl, sym, ◌∙◌, ap}
use Rattle.std.specs.Prelude.{slice_index, ◌-ℤ◌}
use Rattle.std.specs.Str.{bytes_eq}
use Rattle.std.proofs.lemmas.Bool.{cases_lt}
use Rattle.std.proofs.lemmas.Bool.Decides.{nat_tests}
use Rattle.std.proofs.lemmas.Int.{ints}
use Rattle.std.proofs.lemmas.Option.{same_Some}
use Rattle.std.proofs.lemmas.Slice.Eq.{bytes_eq-Decides}
use Rattle.ode_timer.specs.Dates.{date_in, date_of, days_before, instant_of, is_day, is_real, months, second_of, spelled}
use Rattle.ode_timer.proofs.DateLaws.{epoch}
use Rattle.ode_value.specs.Instants.{date_text, elapsed, instant_text, spelled_date, time_text, two_digits}
use Rattle.ode_instants.proofs.MarchDays.{calendar_date, days_to, IsCalendarDay}

-- ---- seconds

-- seconds from 1970 on, and before
elapsed_is : (n : ℕ) → elapsed (pos n -ℤ pos 62167219200) ≡ n + 12617596800
elapsed_is n = cases (cases_lt n 62167219200)
  where
    cases : (n < 62167219200) ⊎ (62167219200 ≤ n) → elapsed (pos n -ℤ pos 62167219200) ≡ n + 12617596800
    cases (inl l) =
        let e : pos n -ℤ pos 62167219200 ≡ negsuc (62167219199 - n) = omega (arith, ints) in
        ap elapsed e ∙ omega arith
    cases (inr l) =
        let e : pos n -ℤ pos 62167219200 ≡ pos (n - 62167219200) = omega (arith, ints) in
        ap elapsed e ∙ omega arith

second_elapsed : (n : ℕ) → elapsed (pos n -ℤ pos (days_before 1970 * 86400)) ≡ n + 12617596800
second_elapsed n =
    let e : days_before 1970 * 86400 ≡ 62167219200 = ap (λ k. k * 86400) epoch in
    ap (λ k. elapsed (pos n -ℤ pos k)) e ∙ elapsed_is n

-- ---- a real date

record IsClock (h m s : ℕ) : Type 0 where
  pub hour : h < 24
  pub minute : m < 60
  pub second : s < 60

parts_of : (b c : Bool) → (b && c) ≡ true → (b ≡ true) × (c ≡ true)
parts_of true c e = (refl, e)
parts_of false c e = absurd (cc)

below : (a b : ℕ) → nat_lt a b ≡ true → a < b
below a b e = grind (arith, nat_tests)

within : (a b : ℕ) → nat_le a b ≡ true → a ≤ b
within a b e = grind (arith, nat_tests)

record IsReal (y m day h n s : ℕ) : Type 0 where
  pub date : IsCalendarDay y m day
  pub clock : IsClock h n s

real : (y m day h n s : ℕ) → (is_day y m day && nat_lt h 24 && nat_lt n 60 && nat_lt s 60) ≡ true → IsReal y m day h n s
real y m day h n s e =
    let x = parts_of (is_day y m day && nat_lt h 24 && nat_lt n 60) (nat_lt s 60) e in
    let b = parts_of (is_day y m day && nat_lt h 24) (nat_lt n 60) x.0 in
    let z = parts_of (is_day y m day) (nat_lt h 24) b.0 in
    let last = nat_le day (slice_index (months y) (m - 1)) in
    let p = parts_of (nat_le y 9999 && nat_le 1 m && nat_le m 12 && nat_le 1 day) last z.0 in
    let q = parts_of (nat_le y 9999 && nat_le 1 m && nat_le m 12) (nat_le 1 day) p.0 in
    let r = parts_of (nat_le y 9999 && nat_le 1 m) (nat_le m 12) q.0 in
    let t = parts_of (nat_le y 9999) (nat_le 1 m) r.0 in
    record {
      date = record { low = within 1 m t.1; high = within m 12 r.1; some = within 1 day q.1; within = within day (slice_index (months y) (m - 1)) p.1 };
      clock = record { hour = below h 24 z.1; minute = below n 60 b.1; second = below s 60 x.1 };
    }

-- ---- the text

day_part : (days h m s : ℕ) → IsClock h m s → (days * 86400 + h * 3600 + m * 60 + s + 12617596800) / 86400 ≡ days + 146037
day_part days h m s c = omega arith

clock_part : (days h m s : ℕ) → IsClock h m s → (days * 86400 + h * 3600 + m * 60 + s + 12617596800) % 86400 ≡ h * 3600 + m * 60 + s
clock_part days h m s c = omega arith

hour_is : (h m s : ℕ) → IsClock h m s → (h * 3600 + m * 60 + s) / 3600 ≡ h
hour_is h m s c = omega arith

minutes_is : (h m s : ℕ) → IsClock h m s → (h * 3600 + m * 60 + s) / 60 ≡ h * 60 + m
minutes_is h m s c = omega arith

minute_is : (h m s : ℕ) → IsClock h m s → (h * 60 + m) % 60 ≡ m
minute_is h m s c = omega arith

second_is : (h m s : ℕ) → IsClock h m s → (h * 3600 + m * 60 + s) % 60 ≡ s
second_is h m s c = omega arith

abbrev clock_text : ℕ → ℕ → ℕ → List ℕ
clock_text h m s = two_digits h ++ codes ":" ++ two_digits m ++ codes ":" ++ two_digits s

time_is : (h m s : ℕ) → IsClock h m s → time_text (h * 3600 + m * 60 + s) ≡ clock_text h m s
time_is h m s c =
    let n = h * 3600 + m * 60 + s in
    ap (λ x. clock_text x (n / 60 % 60) (n % 60)) (hour_is h m s c)
    ∙ (ap (λ x. clock_text h x (n % 60)) (ap (λ x. x % 60) (minutes_is h m s c) ∙ minute_is h m s c) ∙ ap (clock_text h m) (second_is h m s c))

abbrev joined : List ℕ → List ℕ → List ℕ
joined date time = date ++ codes "T" ++ time ++ codes "Z"

-- by the parts of a real date
by_parts : (y m day h n s : ℕ) → IsReal y m day h n s
    → instant_text (pos (days_to y m day * 86400 + h * 3600 + n * 60 + s) -ℤ pos (days_before 1970 * 86400)) ≡ joined (spelled_date y m day) (clock_text h n s)
unfolding instant_text
by_parts y m day h n s r =
    let days = days_to y m day in
    let z = pos (days * 86400 + h * 3600 + n * 60 + s) -ℤ pos (days_before 1970 * 86400) in
    let e = second_elapsed (days * 86400 + h * 3600 + n * 60 + s) in
    let d : elapsed z / 86400 ≡ days + 146037 = ap (λ k. k / 86400) e ∙ day_part days h n s r.clock in
    let c : elapsed z % 86400 ≡ h * 3600 + n * 60 + s = ap (λ k. k % 86400) e ∙ clock_part days h n s r.clock in
    ap (λ x. joined (date_text x) (time_text (elapsed z % 86400))) d
    ∙ (ap (λ x. joined (date_text (days + 146037)) (time_text x)) c
    ∙ (ap (λ x. joined x (time_text (h * 3600 + n * 60 + s))) (calendar_date y m day r.date)
    ∙ ap (joined (spelled_date y m day)) (time_is h n s r.clock)))

text_is : (text : List ℕ) → is_real (date_in text) ≡ true → instant_text (second_of (date_in text)) ≡ spelled (date_in text)
text_is text e =
    let d = date_in text in
    by_parts d.year d.month d.day d.hour d.minute d.second (real d.year d.month d.day d.hour d.minute d.second e)

some_date : {D : Type 0} (c : Bool) (d : D) (f : D → ℤ) (s : ℤ) → option_map f (cond c (Some d) None) ≡ Some s → (c ≡ true) × (f d ≡ s)
some_date true d f s e = (refl, same_Some (f d) s e)
some_date false d f s e = absurd (cc)

pub text_again : (text : List ℕ) (second : ℤ) → instant_of text ≡ Some second → instant_of (instant_text second) ≡ Some second
unfolding instant_of
text_again text second e =
    let x = some_date (bytes_eq text (spelled (date_in text)) && is_real (date_in text)) (date_in text) second_of second e in
    let y = parts_of (bytes_eq text (spelled (date_in text))) (is_real (date_in text)) x.0 in
    let spells = (bytes_eq-Decides text (spelled (date_in text))).0 y.0 in
    let same : instant_text second ≡ text = ap instant_text (sym x.1) ∙ (text_is text y.1 ∙ sym spells) in
    ap (λ t. option_map second_of (date_of t)) same ∙ e
