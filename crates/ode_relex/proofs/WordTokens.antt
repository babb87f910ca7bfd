-- A word in front of a text is one token.
use Rattle.std.proofs.Common.{◌≡◌, ℕ, suc, ◌+◌, Bool, true, false, not, ◌&&◌, ◌||◌, ◌==◌, cond, nat_le, List, [], ◌∷◌, ◌++◌, length, Some, arith, refl, sym}
use Rattle.std.specs.List.{list_all, prefix_len}
use Rattle.std.proofs.lemmas.Bool.{false≢true}
use Rattle.std.proofs.lemmas.Bool.Decides.{nat_tests}
use Rattle.ode_lex.specs.Tokens.{begins_word, gap_at, is_blank, token_at, word_at}
use Rattle.ode_lex.specs.declared.token.TokenKind.TheVariants as kind
use Rattle.ode_value.specs.Text.{is_name_byte}
use Rattle.ode_value.specs.Words.{is_digit, is_word}
use Rattle.ode_relex.specs.Ends.{stops, IsToken}

-- ---- tests

pub both_true : (b c : Bool) → (b && c) ≡ true → (b ≡ true) × (c ≡ true)
both_true true c e = (refl, e)
both_true false c e = absurd (false≢true e)

pub neither : (b c : Bool) → not (b || c) ≡ true → (b ≡ false) × (c ≡ false)
neither true c e = absurd (false≢true e)
neither false true e = absurd (false≢true e)
neither false false e = (refl, refl)

pub either_false : (b c : Bool) → (b || c) ≡ false → (b ≡ false) × (c ≡ false)
either_false true c e = absurd (false≢true (sym e))
either_false false c e = (refl, e)

pub is_false : (b : Bool) → not b ≡ true → b ≡ false
is_false true e = absurd (false≢true e)
is_false false e = refl

-- ---- the length of a word

prefix_all : (w rest : List ℕ) → list_all is_name_byte w ≡ true → stops rest ≡ true → prefix_len is_name_byte (w ++ rest) ≡ length w
prefix_all [] [] a e = refl
prefix_all [] (b ∷ rest) a e = stop (is_name_byte b) (neither (is_name_byte b) (b == 64) e).0
  where
    stop : (c : Bool) → c ≡ false → cond c (1 + prefix_len is_name_byte rest) 0 ≡ 0
    stop true h = absurd (false≢true (sym h))
    stop false h = refl
prefix_all (b ∷ w) rest a e = more (is_name_byte b) a (λ h. prefix_all w rest h e)
  where
    more : (c : Bool) → (c && list_all is_name_byte w) ≡ true → (list_all is_name_byte w ≡ true → prefix_len is_name_byte (w ++ rest) ≡ length w)
        → cond c (1 + prefix_len is_name_byte (w ++ rest)) 0 ≡ suc (length w)
    more true h f = let n = f h in omega arith
    more false h f = absurd (false≢true h)

word_length : (w rest : List ℕ) → list_all is_name_byte w ≡ true → stops rest ≡ true → nat_le (suc (length w)) 64 ≡ true
    → word_at (w ++ rest) ≡ Some (kind.Word, suc (length w))
unfolding word_at
word_length w rest a e l = let n : 1 + length w ≡ suc (length w) = omega arith in rw (prefix_all w rest a e, n, l) refl

-- a byte that begins a word is a letter or `_`
letter : (b : ℕ) → is_digit b ≡ false → is_name_byte b ≡ true → begins_word b ≡ true
letter b e f = grind (arith, nat_tests)

no_slash : (b : ℕ) → is_name_byte b ≡ true → (47 == b) ≡ false
no_slash b e = grind (arith, nat_tests)

no_blank : (b : ℕ) → is_name_byte b ≡ true → is_blank b ≡ false
no_blank b e = grind (arith, nat_tests)

pub gap_none : (b : ℕ) (bytes : List ℕ) → (47 == b) ≡ false → is_blank b ≡ false → gap_at (b ∷ bytes) ≡ 0
unfolding gap_at
gap_none b bytes e f = rw (e, f) refl

front : (b : ℕ) (rest : List ℕ) (n : ℕ) → begins_word b ≡ true → word_at rest ≡ Some (kind.Word, n) → token_at (b ∷ rest) ≡ Some (kind.Word, n)
unfolding token_at
front b rest n e f = rw e f

pub word_token : (w rest : List ℕ) → is_word w ≡ true → stops rest ≡ true → IsToken kind.Word w rest
word_token [] rest h e = absurd (false≢true h)
word_token (b ∷ w) rest h e =
    let x = both_true _ _ h in
    let y = both_true _ _ x.0 in
    let z = both_true _ _ y.1 in
    record {
      some = omega arith;
      no_gap = gap_none b (w ++ rest) (no_slash b z.0) (no_blank b z.0);
      found = front b (w ++ rest) (suc (length w)) (letter b (is_false (is_digit b) y.0) z.0) (word_length w rest z.1 e x.1);
    }
