-- What the bytes of a word are.
use Rattle.std.proofs.Common.{◌≡◌, ℕ, suc, ◌+◌, ◌≤◌, Bool, true, false, not, cond, eqb, leb, ltb, List, [], ◌∷◌, length, take, drop, Option, Some, None, option_map, option_and_then, pos, arith, sym, ◌∙◌, ap, refl}
use Rattle.std.specs.List.{prefix_len, take_while}
use Rattle.std.specs.Char.{is_ascii_digit}
use Rattle.std.proofs.lemmas.Bool.{false≢true}
use Rattle.std.proofs.lemmas.Bool.Decides.{nat_tests}
use Rattle.std.proofs.lemmas.List.Sums.{take_while-cons}
use Rattle.std.proofs.lemmas.List.Folds.{length-prefix_len}
use Rattle.ode_value.specs.Limits.{name_limit}
use Rattle.ode_value.specs.Text.{is_name_byte, IsName}
use Rattle.ode_lex.specs.Marks.{mark_at}
use Rattle.ode_lex.specs.Numerals.{numeral_at}
use Rattle.ode_lex.specs.Texts.{text_length}
use Rattle.ode_lex.specs.Tokens.{begins_word, token_at, word_at, number_at, text_at, reference_at, reference_to, word_follows, version_at}
use Rattle.ode_lex.specs.declared.token.Mark.{Mark}
use Rattle.ode_lex.specs.declared.token.TokenKind.{TokenKind}
use Rattle.ode_lex.specs.declared.token.TokenKind.TheVariants.{Word, Number, Text, Reference, Mark as Marked}

is_word_kind : TokenKind → Bool
is_word_kind Word = true
is_word_kind (Number n) = false
is_word_kind Text = false
is_word_kind (Reference r) = false
is_word_kind (Marked m) = false

is_word : Option (TokenKind × ℕ) → Bool
is_word None = false
is_word (Some found) = is_word_kind found.0

-- no other row answers a word
number_is_no_word : (bytes : List ℕ) → is_word (number_at bytes) ≡ false
unfolding number_at is_word is_word_kind
number_is_no_word bytes = cases (numeral_at 0 9223372036854775807 bytes)
  where
    cases : (found : Option (ℕ × ℕ)) → is_word (option_and_then {U = TokenKind × ℕ} (λ f. cond (word_follows (drop f.1 bytes)) None (Some (Number (pos f.0), f.1))) found) ≡ false
    cases None = refl
    cases (Some f) = elim (word_follows (drop f.1 bytes)) as (λ w. is_word (cond w None (Some (Number (pos f.0), f.1))) ≡ false) [ true ↦ refl | false ↦ refl ]

text_is_no_word : (rest : List ℕ) → is_word (text_at rest) ≡ false
unfolding text_at is_word is_word_kind
text_is_no_word rest = cases (text_length rest)
  where
    cases : (found : Option ℕ) → is_word (option_map {U = TokenKind × ℕ} (λ k. (Text, 1 + k)) found) ≡ false
    cases None = refl
    cases (Some k) = refl

reference_is_no_word : (rest : List ℕ) → is_word (reference_at rest) ≡ false
unfolding reference_at is_word is_word_kind
reference_is_no_word rest = cases (numeral_at 1 18446744073709551615 rest)
  where
    versions : (object k : ℕ) (version : Option (ℕ × ℕ)) → is_word (Some (reference_to object k version)) ≡ false
    versions object k None = refl
    versions object k (Some version) = refl

    cases : (found : Option (ℕ × ℕ)) → is_word (option_map (λ f. reference_to f.0 (1 + f.1) (version_at (drop f.1 rest))) found) ≡ false
    cases None = refl
    cases (Some f) = versions f.0 (1 + f.1) (version_at (drop f.1 rest))

mark_is_no_word : (found : Option (Mark × ℕ)) → is_word (option_map {U = TokenKind × ℕ} (λ f. (Marked f.0, f.1)) found) ≡ false
unfolding is_word is_word_kind
mark_is_no_word None = refl
mark_is_no_word (Some f) = refl

-- the run of letters, digits and `_` has no other byte
run_of_name_bytes : (xs : List ℕ) → prefix_len (λ x. not (not (is_name_byte x))) (take_while is_name_byte xs) ≡ length (take_while is_name_byte xs)
run_of_name_bytes [] = refl
run_of_name_bytes (x ∷ xs) = rw take_while-cons (cases (is_name_byte x) refl (run_of_name_bytes xs))
  where
    cases : (b : Bool) → is_name_byte x ≡ b → prefix_len (λ x. not (not (is_name_byte x))) (take_while is_name_byte xs) ≡ length (take_while is_name_byte xs)
        → prefix_len (λ x. not (not (is_name_byte x))) (cond b (x ∷ take_while is_name_byte xs) []) ≡ length (cond b (x ∷ take_while is_name_byte xs) [])
    cases true e rest = rw e (omega (arith, rest))
    cases false e rest = refl

first_is_name_byte : (b : ℕ) → begins_word b ≡ true → is_name_byte b ≡ true
first_is_name_byte b e = grind (arith, nat_tests)

-- a list with no place before its end has no other byte
none_before_end : (n m : ℕ) → n ≡ m → cond (ltb n m) (Some n) None ≡ None
none_before_end n m e = grind (arith, nat_tests)

run_is_name : (b : ℕ) (rest : List ℕ) → begins_word b ≡ true → 1 + prefix_len is_name_byte rest ≤ name_limit → IsName (b ∷ take_while is_name_byte rest)
run_is_name b rest first short =
    let size = length-prefix_len is_name_byte rest in
    record {
      some = omega arith;
      short = omega arith;
      each = none_before_end _ _ (rw (first_is_name_byte b first) (omega (arith, run_of_name_bytes rest)));
    }

-- nor does what follows the first row
others_are_no_word : (d q h : Bool) (b : ℕ) (rest : List ℕ) → is_word (cond d (number_at (b ∷ rest)) (cond q (text_at rest) (cond h (reference_at rest) (option_map {U = TokenKind × ℕ} (λ f. (Marked f.0, f.1)) (mark_at (b ∷ rest)))))) ≡ false
others_are_no_word true q h b rest = number_is_no_word (b ∷ rest)
others_are_no_word false true h b rest = text_is_no_word rest
others_are_no_word false false true b rest = reference_is_no_word rest
others_are_no_word false false false b rest = mark_is_no_word (mark_at (b ∷ rest))

length_of : Option (TokenKind × ℕ) → ℕ
length_of None = 0
length_of (Some found) = found.1

word_row : (b : ℕ) (rest : List ℕ) (n : ℕ) → begins_word b ≡ true → word_at rest ≡ Some (Word, n) → IsName (take n (b ∷ rest))
unfolding word_at length_of
word_row b rest n first e = cases (leb (1 + prefix_len is_name_byte rest) name_limit) refl e
  where
    cases : (short : Bool) → leb (1 + prefix_len is_name_byte rest) 64 ≡ short → cond {A = Option (TokenKind × ℕ)} short (Some (Word, 1 + prefix_len is_name_byte rest)) None ≡ Some (Word, n) → IsName (take n (b ∷ rest))
    cases true short e =
        let size : n ≡ suc (prefix_len is_name_byte rest) = omega (arith, ap length_of e) in
        rw size (run_is_name b rest first (grind (arith, nat_tests)))
    cases false short e = absurd (cc)

-- the bytes of a word are a name
pub word_is_name : (bytes : List ℕ) (n : ℕ) → token_at bytes ≡ Some (Word, n) → IsName (take n bytes)
unfolding token_at is_word is_word_kind
word_is_name [] n e = absurd (cc)
word_is_name (b ∷ rest) n e = cases (begins_word b) refl e
  where
    cases : (first : Bool) → begins_word b ≡ first → cond first (word_at rest) (cond (is_ascii_digit b) (number_at (b ∷ rest)) (cond (eqb b 34) (text_at rest) (cond (eqb b 35) (reference_at rest) (option_map {U = TokenKind × ℕ} (λ f. (Marked f.0, f.1)) (mark_at (b ∷ rest)))))) ≡ Some (Word, n) → IsName (take n (b ∷ rest))
    cases true first e = word_row b rest n first e
    cases false first e = absurd (false≢true (sym (others_are_no_word (is_ascii_digit b) (eqb b 34) (eqb b 35) b rest) ∙ ap is_word e))
