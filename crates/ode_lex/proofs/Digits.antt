-- Digits and their value.
use Rattle.std.proofs.Common.{◌≡◌, ℕ, ◌+◌, ◌*◌, ◌<◌, ◌≤◌, Bool, true, false, cond, List, [], ◌∷◌, length, get_or, take, arith, refl}
use Rattle.std.specs.Char.{is_ascii_digit, digit_value}
use Rattle.std.specs.List.{take_while}
use Rattle.std.specs.Str.Parse.{AllDigits, digits_value}
use Rattle.std.proofs.lemmas.List.Sums.{take_while-cons}
use Rattle.std.proofs.lemmas.Int.Digits.{digits_value_more}
use Rattle.std.proofs.lemmas.Str.{digit_value_digit}
use Rattle.std.proofs.lemmas.Str.Parse.{digit_at, digits_value-take-le}
use Rattle.std.proofs.lemmas.Bool.Decides.{nat_tests}

-- one digit more
pub record Grows (ds : List ℕ) (i : ℕ) : Type 0 where
  pub digit : 48 ≤ get_or ds i 0
  pub step : digits_value 10 (take (i + 1) ds) + 48 ≡ digits_value 10 (take i ds) * 10 + get_or ds i 0
  pub bound : digits_value 10 (take (i + 1) ds) ≤ digits_value 10 ds

pub grows : (ds : List ℕ) (i : ℕ) → AllDigits 10 ds → i < length ds → Grows ds i
grows ds i all small =
    let range = digit_at ds i all small in
    let more = digits_value_more 10 ds i small in
    let value = digit_value_digit (get_or ds i 0) range in
    record { digit = omega arith; step = omega arith; bound = digits_value-take-le 10 ds (i + 1) (omega arith) }

small_digit : (c : ℕ) → is_ascii_digit c ≡ true → digit_value c < 10
small_digit c e = grind (arith, nat_tests)

-- the run of digits at the front is digits
pub digits_in_front : (bytes : List ℕ) → AllDigits 10 (take_while is_ascii_digit bytes)
digits_in_front [] = tt
digits_in_front (c ∷ cs) = rw take_while-cons (cases (is_ascii_digit c) refl (digits_in_front cs))
  where
    cases : (b : Bool) → is_ascii_digit c ≡ b → AllDigits 10 (take_while is_ascii_digit cs) → AllDigits 10 (cond b (c ∷ take_while is_ascii_digit cs) [])
    cases true e rest = (small_digit c e, rest)
    cases false e rest = tt
