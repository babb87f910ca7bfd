-- A printed number in front of a text is one token.
use Rattle.std.proofs.Common.{◌≡◌, ℕ, ◌^◌, ◌<◌, ◌≤◌, Bool, true, false, not, ◌&&◌, ◌==◌, cond, nat_le, pos, List, [], ◌∷◌, ◌++◌, length, drop, Some, arith, refl, ◌∙◌, ap}
use Rattle.std.specs.Char.{is_ascii_digit}
use Rattle.std.specs.List.{list_all, take_while}
use Rattle.std.specs.Str.Parse.{AllDigits, digits_value}
use Rattle.std.proofs.lemmas.Bool.{false≢true}
use Rattle.std.proofs.lemmas.Bool.Decides.{nat_tests}
use Rattle.std.proofs.lemmas.Fmt.{decimal_is_IsNumeral}
use Rattle.std.proofs.lemmas.List.Sums.{take_while-cons}
use Rattle.std.proofs.lemmas.Str.Parse.{digit_at}
use Rattle.ode_lex.specs.Numerals.{is_plain, numeral_at}
use Rattle.ode_lex.specs.Tokens.{begins_word, is_blank, number_at, token_at, word_follows}
use Rattle.ode_lex.specs.declared.token.TokenKind.TheVariants as kind
use Rattle.ode_value.specs.Decimal.{digits_of, BeginsAsNumber}
use Rattle.ode_value.specs.Text.{is_name_byte}
use Rattle.ode_value.proofs.Decimals.{number_begins}
use Rattle.ode_relex.specs.Ends.{stops, IsToken}
use Rattle.ode_relex.proofs.WordTokens.{gap_none, neither}

-- no digit is in front
abbrev pub no_digit : List ℕ → Bool
no_digit [] = true
no_digit (b ∷ bytes) = not (is_ascii_digit b)

not_false : (b : Bool) → b ≡ false → not b ≡ true
not_false b e = ap not e

no_name_no_digit : (b : ℕ) → is_name_byte b ≡ false → is_ascii_digit b ≡ false
no_name_no_digit b e = grind (arith, nat_tests)

pub stops_digits : (rest : List ℕ) → stops rest ≡ true → no_digit rest ≡ true
stops_digits [] e = refl
stops_digits (b ∷ rest) e = not_false _ (no_name_no_digit b (neither (is_name_byte b) (b == 64) e).0)

-- ---- the run of digits

digit_of : (c : ℕ) → 48 ≤ c → c ≤ 57 → is_ascii_digit c ≡ true
digit_of c low high = grind (arith, nat_tests)

and_true : (b c : Bool) → b ≡ true → c ≡ true → (b && c) ≡ true
and_true b c e f = ap (λ x. x && c) e ∙ f

pub first_digit : (c : ℕ) (cs : List ℕ) → AllDigits 10 (c ∷ cs) → is_ascii_digit c ≡ true
first_digit c cs all = let d = digit_at (c ∷ cs) 0 all (omega arith) in digit_of c d.0 d.1

all_digits : (ds : List ℕ) → AllDigits 10 ds → list_all is_ascii_digit ds ≡ true
all_digits [] all = refl
all_digits (c ∷ cs) all = and_true _ _ (first_digit c cs all) (all_digits cs all.1)

run_digits : (ds rest : List ℕ) → list_all is_ascii_digit ds ≡ true → no_digit rest ≡ true → take_while is_ascii_digit (ds ++ rest) ≡ ds
run_digits [] [] a e = refl
run_digits [] (b ∷ rest) a e = rw take_while-cons (stop (is_ascii_digit b) e)
  where
    stop : (c : Bool) → not c ≡ true → cond c (b ∷ take_while is_ascii_digit rest) [] ≡ []
    stop true h = absurd (false≢true h)
    stop false h = refl
run_digits (d ∷ ds) rest a e = rw take_while-cons (more (is_ascii_digit d) a (λ h. run_digits ds rest h e))
  where
    more : (c : Bool) → (c && list_all is_ascii_digit ds) ≡ true → (list_all is_ascii_digit ds ≡ true → take_while is_ascii_digit (ds ++ rest) ≡ ds)
        → cond c (d ∷ take_while is_ascii_digit (ds ++ rest)) [] ≡ d ∷ ds
    more true h f = ap (λ xs. d ∷ xs) (f h)
    more false h f = absurd (false≢true h)

-- ---- no 0 leads

plain_of : (ds : List ℕ) → BeginsAsNumber ds → is_plain ds ≡ true
plain_of [] h = absurd (let s = h.some in omega arith)
plain_of (d ∷ []) h = refl
plain_of (d ∷ e ∷ more) h = cases (d == 48) refl
  where
    cases : (c : Bool) → (d == 48) ≡ c → not c ≡ true
    cases true f = let d_is : d ≡ 48 = grind (arith, nat_tests) in let s = h.zero_alone d_is in absurd (omega arith)
    cases false f = refl

-- ---- numerals

numeral_of : (least most n : ℕ) (bytes ds : List ℕ) → take_while is_ascii_digit bytes ≡ ds → digits_value 10 ds ≡ n → is_plain ds ≡ true
    → nat_le least n ≡ true → nat_le n most ≡ true → numeral_at least most bytes ≡ Some (n, length ds)
unfolding numeral_at
numeral_of least most n bytes ds run value plain low high = rw (run, value, plain, low, high) refl

pub numeral_found : (least most n : ℕ) (rest : List ℕ) → n < 2 ^ 64 → nat_le least n ≡ true → nat_le n most ≡ true → no_digit rest ≡ true
    → numeral_at least most (digits_of n ++ rest) ≡ Some (n, length (digits_of n))
numeral_found least most n rest small low high e =
    let is = decimal_is_IsNumeral n small in
    numeral_of least most n (digits_of n ++ rest) (digits_of n) (run_digits (digits_of n) rest (all_digits (digits_of n) is.0.1) e) is.1
    (plain_of (digits_of n) (number_begins n small)) low high

-- ---- numbers

pub drop_front : (xs ys : List ℕ) → drop (length xs) (xs ++ ys) ≡ ys
drop_front [] ys = refl
drop_front (x ∷ xs) ys = drop_front xs ys

no_name_no_word : (b : ℕ) → is_name_byte b ≡ false → begins_word b ≡ false
no_name_no_word b e = grind (arith, nat_tests)

no_word : (rest : List ℕ) → stops rest ≡ true → word_follows rest ≡ false
no_word [] e = refl
no_word (b ∷ rest) e = no_name_no_word b (neither (is_name_byte b) (b == 64) e).0

number_of : (n k : ℕ) (bytes : List ℕ) → numeral_at 0 9223372036854775807 bytes ≡ Some (n, k) → word_follows (drop k bytes) ≡ false
    → number_at bytes ≡ Some (kind.Number (pos n), k)
unfolding number_at
number_of n k bytes e f = rw (e, f) refl

digit_no_word : (d : ℕ) → is_ascii_digit d ≡ true → begins_word d ≡ false
digit_no_word d e = grind (arith, nat_tests)

digit_no_slash : (d : ℕ) → is_ascii_digit d ≡ true → (47 == d) ≡ false
digit_no_slash d e = grind (arith, nat_tests)

digit_no_blank : (d : ℕ) → is_ascii_digit d ≡ true → is_blank d ≡ false
digit_no_blank d e = grind (arith, nat_tests)

digit_row : (d : ℕ) (bytes : List ℕ) → begins_word d ≡ false → is_ascii_digit d ≡ true → token_at (d ∷ bytes) ≡ number_at (d ∷ bytes)
unfolding token_at
digit_row d bytes e f = rw (e, f) refl

digits_token : (n : ℕ) (ds rest : List ℕ) → 0 < length ds → AllDigits 10 ds → number_at (ds ++ rest) ≡ Some (kind.Number (pos n), length ds)
    → IsToken (kind.Number (pos n)) ds rest
digits_token n [] rest some all e = absurd (omega arith)
digits_token n (d ∷ ds) rest some all e =
    let digit = first_digit d ds all in
    record {
      some = some;
      no_gap = gap_none d (ds ++ rest) (digit_no_slash d digit) (digit_no_blank d digit);
      found = digit_row d (ds ++ rest) (digit_no_word d digit) digit ∙ e;
    }

pub number_token : (n : ℕ) (rest : List ℕ) → n < 2 ^ 63 → stops rest ≡ true → IsToken (kind.Number (pos n)) (digits_of n) rest
number_token n rest small e =
    let fits : n < 2 ^ 64 = omega arith in
    let found = numeral_found 0 9223372036854775807 n rest fits (grind (arith, nat_tests)) (grind (arith, nat_tests)) (stops_digits rest e) in
    let ends = ap word_follows (drop_front (digits_of n) rest) ∙ no_word rest e in
    digits_token n (digits_of n) rest (number_begins n fits).some (decimal_is_IsNumeral n fits).0.1 (number_of n (length (digits_of n)) (digits_of n ++ rest) found ends)
