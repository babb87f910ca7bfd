-- What decimal digits say of a number.
use Rattle.std.proofs.Common.{◌≡◌, ℕ, zero, suc, ◌+◌, ◌*◌, ◌<◌, ◌≤◌, ◌^◌, List, length, get_or, take, Option, None, Some, IfSome, IfNone, arith, sym, ap, ◌∙◌, subst}
use Rattle.std.specs.Char.{digit_value}
use Rattle.std.specs.Option.{SomeIff}
use Rattle.std.specs.Str.Parse.{AllDigits, digits_value}
use Rattle.std.proofs.lemmas.Fmt.{decimal_is_IsNumeral, decimal-digits_value, decimal_digit, first_decimal, decimal_nonempty, decimal_injective}
use Rattle.std.proofs.lemmas.Int.Digits.{digits_value_more}
use Rattle.std.proofs.lemmas.Str.Parse.{digit_at, digits_value-take-le, numerals_by_value, tells_digits}
use Rattle.std.proofs.lemmas.Bool.Decides.{nat_tests}
use Rattle.ode_value.specs.Decimal.{digits_of, BeginsAsNumber}

in_range : (c : ℕ) → 48 ≤ c → c ≤ 57 → digit_value c < 10
in_range c low high = grind (arith, nat_tests)

-- each byte of a numeral is a digit
digit_below : (ds : List ℕ) (i : ℕ) → AllDigits 10 ds → i < length ds → digit_value (get_or ds i 0) < 10
digit_below ds i all lt = let d = digit_at ds i all lt in in_range _ d.0 d.1

-- digits so far, with one more, give no more than all of them
next_within : (ds : List ℕ) (i : ℕ) → i < length ds
    → digits_value 10 (take i ds) * 10 + digit_value (get_or ds i 0) ≤ digits_value 10 ds
next_within ds i lt =
    let more = digits_value_more 10 ds i lt in
    let within = digits_value-take-le 10 ds (i + 1) (omega arith) in omega arith

-- where the next byte is no digit, or gives too large a number, all of them do
pub stops : (ds : List ℕ) (i n : ℕ) → i < length ds → n ≡ digits_value 10 (take i ds)
    → ((digit_value (get_or ds i 0) < 10) × (n * 10 + digit_value (get_or ds i 0) < 2 ^ 64) → ⊥)
    → AllDigits 10 ds × (digits_value 10 ds < 2 ^ 64) → ⊥
stops ds i n lt e refused all = let within = next_within ds i lt in refused (digit_below ds i all.0 lt, omega arith)

-- the digits of a number begin as one
pub number_begins : (n : ℕ) → n < 2 ^ 64 → BeginsAsNumber (digits_of n)
number_begins zero small =
    let alone = ap length (decimal_digit 0 (omega arith)) in
    record { some = decimal_nonempty 0 small; zero_alone = λ _. alone }
number_begins (suc n) small =
    let first = first_decimal (suc n) (omega arith) small in
    record { some = decimal_nonempty (suc n) small; zero_alone = λ e. absurd (omega arith) }

-- the three clauses of `parse_decimal`
pub record Reads (ds : List ℕ) (result : Option ℕ) : Type 0 where
  pub found : IfSome result (λ n. (n < 2 ^ 64) × (ds ≡ digits_of n))
  pub none : IfNone result ((n : ℕ) → n < 2 ^ 64 → ds ≡ digits_of n → ⊥)
  pub reads : (n : ℕ) → n < 2 ^ 64 → ds ≡ digits_of n → result ≡ Some n

-- what digits give is what they spell, where they begin as a number
pub reads : (ds : List ℕ) (result : Option ℕ) → BeginsAsNumber ds
    → SomeIff result (AllDigits 10 ds × (digits_value 10 ds < 2 ^ 64)) (digits_value 10 ds) → Reads ds result
reads ds None begins refused =
    let spells_none : (n : ℕ) → n < 2 ^ 64 → ds ≡ digits_of n → ⊥ = λ n small e.
    let is = decimal_is_IsNumeral n small in
    let value : digits_value 10 ds ≡ n = ap (digits_value 10) e ∙ is.1 in
    refused (subst (AllDigits 10) (sym e) is.0.1, omega arith)
    in record { found = tt; none = spells_none; reads = λ n small e. absurd (spells_none n small e) }
reads ds (Some n) begins is =
    let all = is.0 in
    let spelled = decimal-digits_value (numerals_by_value _ tells_digits) ds all.0 begins.some begins.zero_alone all.1 in
    let own : ds ≡ digits_of n = sym spelled ∙ ap digits_of (sym is.1) in
    let small : n < 2 ^ 64 = omega arith in
    record {
      found = (small, own);
      none = tt;
      reads = λ m below e. ap Some (decimal_injective n m small below (sym own ∙ e));
    }
