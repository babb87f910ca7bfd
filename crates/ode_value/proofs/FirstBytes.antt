-- Tests of words.
use Rattle.std.proofs.Common.{◌≡◌, ℕ, ◌<◌, List, [], ◌∷◌, length, get_or, not, ◌&&◌, leb, refl, arith}
use Rattle.std.specs.List.{list_all}
use Rattle.ode_value.specs.Limits.{name_limit}
use Rattle.ode_value.specs.Text.{is_name_byte}
use Rattle.ode_value.specs.Words.{is_digit, is_word}

-- a word by its first byte
pub word_is : (bytes : List ℕ) → 0 < length bytes → is_word bytes ≡ (not (is_digit (get_or bytes 0 0)) && list_all is_name_byte bytes && leb (length bytes) name_limit)
word_is [] h = absurd (omega arith)
word_is (b ∷ bs) h = refl
