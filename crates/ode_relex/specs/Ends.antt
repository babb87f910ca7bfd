-- What may stand behind a token, and what begins one.
use Rattle.std.specs.Prelude.{◌≡◌, ◌<◌, ℕ, Bool, true, false, not, ◌||◌, ◌&&◌, ◌==◌, nat_le, List, [], ◌∷◌, ◌++◌, length, Some}
use Rattle.std.specs.List.{list_all}
use Rattle.ode_lex.specs.Tokens.{gap_at, is_blank, token_at}
use Rattle.ode_lex.specs.declared.token.TokenKind.{TokenKind}
use Rattle.ode_value.specs.Limits.{text_limit}
use Rattle.ode_value.specs.Text.{is_bad_byte, is_name_byte}

-- no letter, digit, `_` or `@` (64) is in front
abbrev pub stops : List ℕ → Bool
stops [] = true
stops (b ∷ bytes) = not (is_name_byte b || b == 64)

-- no `/`, `=` or `>` (47, 61, 62) is in front
abbrev pub ends_mark : List ℕ → Bool
ends_mark [] = true
ends_mark (b ∷ bytes) = not (b == 47 || b == 61 || b == 62)

-- a byte is in front that is no blank, `/`, `=` or `>`
abbrev pub opens : List ℕ → Bool
opens [] = false
opens (b ∷ bytes) = not (is_blank b || (b == 47 || b == 61 || b == 62))

-- the token that this text is, with these bytes behind it
pub record IsToken (kind : TokenKind) (text rest : List ℕ) : Type 0 where
  pub some : 0 < length text
  pub no_gap : gap_at (text ++ rest) ≡ 0
  pub found : token_at (text ++ rest) ≡ Some (kind, length text)

-- a text by a test: not too long, and without bad bytes
abbrev pub is_text : List ℕ → Bool
is_text bytes = nat_le (length bytes) text_limit && list_all (λ b. not (is_bad_byte b)) bytes
