-- Where the `@` stands in the text of a reference.
use Rattle.std.proofs.Common.{◌≡◌, ℕ, ◌+◌, ◌-◌, ◌<◌, ◌≤◌, ◌^◌, false, cond, List, [], ◌∷◌, ◌++◌, length, get_or, take, drop, Option, None, Some, IfSome, refl, arith, sym, ap, ◌∙◌, subst}
use Rattle.std.specs.Prelude.{position, nat_lt}
use Rattle.std.specs.List.{position_or_len}
use Rattle.std.specs.Str.Parse.{AllDigits}
use Rattle.std.proofs.lemmas.Fmt.{decimal_is_IsNumeral}
use Rattle.std.proofs.lemmas.List.{append-nil, length-append, length-drop, take_all}
use Rattle.std.proofs.lemmas.List.Sums.{position_or_len_is}
use Rattle.std.proofs.lemmas.Str.Parse.{digit_at}
use Rattle.std.proofs.lemmas.Bool.Decides.{nat_tests}
use Rattle.std.proofs.Math.ListN.{get_or-append}
use Rattle.std.proofs.Math.Seq.{get_or-append_seam, take-append_seam, drop-append-add}
use Rattle.ode_value.specs.Decimal.{digits_of}
use Rattle.ode_value.specs.References.{is_at_sign, spelled_version}

no_at_sign : (b : ℕ) → b ≤ 57 → is_at_sign b ≡ false
no_at_sign b le = grind (arith, nat_tests)

-- no byte of a numeral is an `@`
among_digits : (ds rest : List ℕ) → AllDigits 10 ds → (k : ℕ) → k < length ds
    → is_at_sign (get_or (ds ++ rest) k 0) ≡ false
among_digits ds rest all k lt =
    let digit = digit_at ds k all lt in
    let same = get_or-append ds rest 0 k lt in no_at_sign _ (omega arith)

-- the digits of the object end where the `@` stands, or where the text ends
at_end : (n : ℕ) (v : Option ℕ) → n < 2 ^ 64
    → position_or_len is_at_sign (digits_of n ++ spelled_version v) ≡ length (digits_of n)
at_end n None small =
    let whole = length-append (digits_of n) [] in
    position_or_len_is is_at_sign (digits_of n ++ []) (length (digits_of n)) 0 (omega arith)
    (among_digits _ [] (decimal_is_IsNumeral n small).0.1)
    (λ (lt : length (digits_of n) < length (digits_of n ++ [])). absurd (omega arith))
at_end n (Some v) small =
    let whole = length-append (digits_of n) (64 ∷ digits_of v) in
    position_or_len_is is_at_sign (digits_of n ++ 64 ∷ digits_of v) (length (digits_of n)) 0 (omega arith)
    (among_digits _ _ (decimal_is_IsNumeral n small).0.1)
    (λ lt. ap is_at_sign (get_or-append_seam (digits_of n) 64 (digits_of v) 0))

nowhere : (first len : ℕ) → cond (nat_lt first len) (Some first) None ≡ None → len ≤ first
nowhere first len e = grind (arith, nat_tests)

somewhere : (first len at : ℕ) → cond (nat_lt first len) (Some first) None ≡ Some at → (first ≡ at) × (at < len)
somewhere first len at e = (grind (arith, nat_tests), grind (arith, nat_tests))

-- a text without an `@` is the object's number alone
pub object_alone : (text : List ℕ) (n : ℕ) (v : Option ℕ) → n < 2 ^ 64 → text ≡ digits_of n ++ spelled_version v
    → None ≡ position is_at_sign text → (v ≡ None) × (text ≡ digits_of n)
object_alone text n None small e none = (refl, e ∙ append-nil (digits_of n))
object_alone text n (Some v) small e none =
    let end = at_end n (Some v) small in
    let whole = length-append (digits_of n) (64 ∷ digits_of v) in
    let past = nowhere _ _ (sym (subst (λ xs. None ≡ position is_at_sign xs) e none)) in absurd (omega arith)

rest_of : (xs : List ℕ) (k : ℕ) → take (length xs - k) (drop k xs) ≡ drop k xs
rest_of xs k = let rest = length-drop k xs in take_all _ _ (omega arith)

-- a text with an `@` is the object's number before it and the version's behind it
pub both_numbers : (text : List ℕ) (n : ℕ) (v : Option ℕ) (at : ℕ) → n < 2 ^ 64
    → IfSome v (λ w. (0 < n) × (0 < w) × (w < 2 ^ 32))
    → text ≡ digits_of n ++ spelled_version v → Some at ≡ position is_at_sign text
    → (take at text ≡ digits_of n)
    × ((w : ℕ) × (v ≡ Some w) × (0 < w) × (w < 2 ^ 32) × (take (length text - (at + 1)) (drop (at + 1) text) ≡ digits_of w))
both_numbers text n None at small good e found =
    let end = at_end n None small in
    let whole = length-append (digits_of n) [] in
    let place = somewhere _ _ at (sym (subst (λ xs. Some at ≡ position is_at_sign xs) e found)) in absurd (omega arith)
both_numbers text n (Some w) at small good e found =
    let end = at_end n (Some w) small in
    let place = somewhere _ _ at (sym (subst (λ xs. Some at ≡ position is_at_sign xs) e found)) in
    let there : at ≡ length (digits_of n) = omega arith in
    let object = ap (take at) e ∙ ap (λ k. take k (digits_of n ++ 64 ∷ digits_of w)) there
    ∙ take-append_seam (digits_of n) (64 ∷ digits_of w) in
    let version = ap (drop (at + 1)) e ∙ ap (λ k. drop (k + 1) (digits_of n ++ 64 ∷ digits_of w)) there
    ∙ drop-append-add (digits_of n) (64 ∷ digits_of w) 1 in
    (object, (w, refl, good.1, good.2, rest_of text (at + 1) ∙ version))
