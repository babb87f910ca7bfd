-- A word that isn't reserved is a text and a name.
use Rattle.std.proofs.Common.{◌≡◌, ◌≤◌, ◌<◌, ℕ, ◌+◌, List, [], ◌∷◌, Bool, true, false, cond, length, Some, None, refl, ap, ◌∙◌, arith}
use Rattle.std.specs.Prelude.{◌&&◌, not, nat_le}
use Rattle.std.specs.List.{list_all, list_any, position_from}
use Rattle.std.specs.Str.{bytes_eq}
use Rattle.std.proofs.lemmas.Bool.{and_parts, leb-true, not_from_true}
use Rattle.std.proofs.lemmas.Bool.Decides.{nat_tests}
use Rattle.std.proofs.lemmas.Iterator.Adapters.{position_from-zero}
use Rattle.ode_value.specs.Limits.{name_limit}
use Rattle.ode_value.specs.Text.{IsText, IsName, is_bad_byte, is_name_byte}
use Rattle.ode_value.specs.Words.{is_free, is_word, is_digit, reserved}

-- where each element passes, none fails
none_fails : (p q : ℕ → Bool) → ((b : ℕ) → p b ≡ true → q b ≡ false) → (bs : List ℕ) (k : ℕ) → list_all p bs ≡ true → position_from q k bs ≡ None
none_fails p q apart [] k all = refl
none_fails p q apart (b ∷ bs) k all =
    let parts = and_parts (p b) (list_all p bs) all in
    ap (λ t. cond t (Some k) (position_from q (k + 1) bs)) (apart b parts.0) ∙ none_fails p q apart bs (k + 1) parts.1

good_byte : (b : ℕ) → is_name_byte b ≡ true → is_bad_byte b ≡ false
good_byte b name = grind (arith, nat_tests)

-- what a word is
pub record HasWord (word : List ℕ) : Type 0 where
  pub some : 0 < length word
  pub short : length word ≤ name_limit
  pub each : list_all is_name_byte word ≡ true

word_has : (word : List ℕ) → is_word word ≡ true → HasWord word
word_has [] is = absurd (cc)
word_has (b ∷ bs) is =
    let parts = and_parts (not (is_digit b) && list_all is_name_byte (b ∷ bs)) (nat_le (length (b ∷ bs)) 64) is in
    record { some = omega arith; short = leb-true _ _ parts.1; each = (and_parts (not (is_digit b)) (list_all is_name_byte (b ∷ bs)) parts.0).1 }

pub free_word : (word : List ℕ) → is_free word ≡ true → HasWord word
free_word word free = word_has word (and_parts (is_word word) (not (list_any (λ one. bytes_eq one word) reserved)) free).0

pub free_text : (word : List ℕ) → is_free word ≡ true → IsText word
free_text word free =
    let has = free_word word free in
    record { short = omega (arith, has.short); each = position_from-zero is_bad_byte word ∙ none_fails is_name_byte is_bad_byte good_byte word 0 has.each }

pub free_name : (word : List ℕ) → is_free word ≡ true → IsName word
free_name word free =
    let has = free_word word free in
    record {
      some = has.some;
      short = has.short;
      each = position_from-zero (λ b. not (is_name_byte b)) word ∙ none_fails is_name_byte (λ b. not (is_name_byte b)) (λ b is. not_from_true (is_name_byte b) is) word 0 has.each;
    }

pub ruleset names = (free_text, free_name)
