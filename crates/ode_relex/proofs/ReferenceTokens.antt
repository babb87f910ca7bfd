-- A printed reference in front of a text is one token.
use Rattle.std.proofs.Common.{◌≡◌, ℕ, ◌+◌, ◌^◌, ◌<◌, true, false, ◌==◌, nat_le, List, [], ◌∷◌, ◌++◌, length, drop, Option, Some, None, arith, refl, sym, ◌∙◌, ap, subst, append_assoc, length-append}
use Rattle.std.proofs.lemmas.Bool.Decides.{nat_tests}
use Rattle.ode_lex.specs.Numerals.{numeral_at}
use Rattle.ode_lex.specs.Tokens.{gap_at, reference_at, reference_to, token_at, version_at}
use Rattle.ode_lex.specs.declared.token.TokenKind.TheVariants as kind
use Rattle.ode_value.specs.Decimal.{digits_of}
use Rattle.ode_value.specs.References.{spelled_ref, spelled_version, IsRef}
use Rattle.ode_value.specs.Text.{is_name_byte}
use Rattle.ode_value.specs.declared.value.Ref.{Ref}
use Rattle.ode_relex.specs.Ends.{stops, IsToken}
use Rattle.ode_relex.proofs.WordTokens.{neither}
use Rattle.ode_relex.proofs.NumberTokens.{drop_front, no_digit, numeral_found, stops_digits}

-- ---- versions

no_version : (rest : List ℕ) → stops rest ≡ true → version_at rest ≡ None
unfolding version_at
no_version [] e = refl
no_version (b ∷ rest) e = rw (neither (is_name_byte b) (b == 64) e).1 refl

a_version : (v k : ℕ) (bytes : List ℕ) → numeral_at 1 4294967295 bytes ≡ Some (v, k) → version_at (64 ∷ bytes) ≡ Some (v, 1 + k)
unfolding version_at
a_version v k bytes e = rw e refl

-- ---- the whole

reference_row : (o k : ℕ) (version : Option (ℕ × ℕ)) (bytes : List ℕ) → numeral_at 1 18446744073709551615 bytes ≡ Some (o, k) → version_at (drop k bytes) ≡ version
    → token_at (35 ∷ bytes) ≡ Some (reference_to o (1 + k) version)
unfolding token_at reference_at
reference_row o k version bytes e f = rw (e, f) refl

sharp_gap : (bytes : List ℕ) → gap_at (35 ∷ bytes) ≡ 0
unfolding gap_at
sharp_gap bytes = refl

above : (n : ℕ) → 0 < n → nat_le 1 n ≡ true
above n l = grind (arith, nat_tests)

below_object : (n : ℕ) → n < 2 ^ 64 → nat_le n 18446744073709551615 ≡ true
below_object n l = grind (arith, nat_tests)

below_version : (n : ℕ) → n < 2 ^ 32 → nat_le n 4294967295 ≡ true
below_version n l = grind (arith, nat_tests)

found_object : (o : ℕ) (bytes : List ℕ) → 0 < o → o < 2 ^ 64 → no_digit bytes ≡ true → numeral_at 1 18446744073709551615 (digits_of o ++ bytes) ≡ Some (o, length (digits_of o))
found_object o bytes some small e = numeral_found 1 18446744073709551615 o bytes small (above o some) (below_object o small) e

generic : (o : ℕ) (rest : List ℕ) → 0 < o → o < 2 ^ 64 → stops rest ≡ true
    → IsToken (kind.Reference (record { object = o; version = None })) (35 ∷ (digits_of o ++ [])) rest
generic o rest some small e =
    let same = append_assoc (digits_of o) [] rest in
    let found = reference_row o (length (digits_of o)) None (digits_of o ++ rest) (found_object o rest some small (stops_digits rest e))
    (ap version_at (drop_front (digits_of o) rest) ∙ no_version rest e) in
    let n : 1 + length (digits_of o) ≡ length (35 ∷ (digits_of o ++ [])) = omega (arith, length-append (digits_of o) []) in
    record {
      some = omega arith;
      no_gap = sharp_gap _;
      found = ap (λ bs. token_at (35 ∷ bs)) same ∙ (found ∙ ap (λ k. Some (kind.Reference (record { object = o; version = None }), k)) n);
    }

specific : (o v : ℕ) (rest : List ℕ) → 0 < o → o < 2 ^ 64 → 0 < v → v < 2 ^ 32 → stops rest ≡ true
    → IsToken (kind.Reference (record { object = o; version = Some v })) (35 ∷ (digits_of o ++ (64 ∷ digits_of v))) rest
specific o v rest some small from up e =
    let same = append_assoc (digits_of o) (64 ∷ digits_of v) rest in
    let wide : v < 2 ^ 64 = omega arith in
    let version = a_version v (length (digits_of v)) (digits_of v ++ rest) (numeral_found 1 4294967295 v rest wide (above v from) (below_version v up) (stops_digits rest e)) in
    let found = reference_row o (length (digits_of o)) (Some (v, 1 + length (digits_of v))) (digits_of o ++ (64 ∷ (digits_of v ++ rest)))
    (found_object o (64 ∷ (digits_of v ++ rest)) some small refl)
    (ap version_at (drop_front (digits_of o) (64 ∷ (digits_of v ++ rest))) ∙ version) in
    let n : (1 + length (digits_of o)) + (1 + length (digits_of v)) ≡ length (35 ∷ (digits_of o ++ (64 ∷ digits_of v))) = omega (arith, length-append (digits_of o) (64 ∷ digits_of v)) in
    record {
      some = omega arith;
      no_gap = sharp_gap _;
      found = ap (λ bs. token_at (35 ∷ bs)) same ∙ (found ∙ ap (λ k. Some (kind.Reference (record { object = o; version = Some v }), k)) n);
    }

not_null : (o : ℕ) → 0 < o → (o == 0) ≡ false
not_null o l = grind (arith, nat_tests)

pub spelled : (r : Ref) → 0 < r.object → spelled_ref r ≡ 35 ∷ (digits_of r.object ++ spelled_version r.version)
spelled r l = rw (not_null r.object l) refl

numbers_token : (o : ℕ) (version : Option ℕ) (rest : List ℕ) → IsRef (record { object = o; version = version }) → 0 < o → stops rest ≡ true
    → IsToken (kind.Reference (record { object = o; version = version })) (35 ∷ (digits_of o ++ spelled_version version)) rest
numbers_token o None rest h some e = generic o rest some h.object e
numbers_token o (Some v) rest h some e = let w = h.version in specific o v rest some h.object w.1 w.2 e

pub reference_token : (r : Ref) (rest : List ℕ) → IsRef r → 0 < r.object → stops rest ≡ true → IsToken (kind.Reference r) (spelled_ref r) rest
reference_token r rest h some e =
    subst (λ text. IsToken (kind.Reference r) text rest) (sym (spelled r some)) (numbers_token r.object r.version rest h some e)
