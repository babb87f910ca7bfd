-- The tokens of a text.
use Rattle.std.specs.Prelude.{◌≡◌, ◌<◌, ◌≤◌, length, ℕ, zero, suc, ◌+◌, ◌-◌, ◌^◌, ◌==◌, ◌||◌, nat_eq, nat_le, not, Bool, false, if◌then◌else◌, List, [], ◌∷◌, drop, take, codes, pos, Option, None, Some, option_map, option_and_then}
use Rattle.std.specs.Char.{is_ascii_alphabetic, is_ascii_digit}
use Rattle.std.specs.List.{prefix_len, starts_with}
use Rattle.std.specs.Str.{byte}
use Rattle.ode_value.specs.Limits.{name_limit}
use Rattle.ode_value.specs.Text.{is_name_byte, IsName}
use Rattle.ode_lex.specs.Marks.{mark_at}
use Rattle.ode_lex.specs.Numerals.{numeral_at}
use Rattle.ode_lex.specs.Texts.{text_length}
use Rattle.ode_lex.specs.declared.token.Token.{Token}
use Rattle.ode_lex.specs.declared.token.TokenKind.{TokenKind}
use Rattle.ode_lex.specs.declared.token.TokenKind.TheVariants as kinds

-- a letter or `_` (95)
abbrev pub begins_word : ℕ → Bool
begins_word b = is_ascii_alphabetic b || b == 95

-- a letter or `_` is in front
abbrev pub word_follows : List ℕ → Bool
word_follows [] = false
word_follows (b ∷ rest) = begins_word b

-- a word behind its first byte, letters, digits and `_`, where it isn't longer than a name
unfoldable pub word_at : List ℕ → Option (TokenKind × ℕ)
word_at rest = let n = 1 + prefix_len is_name_byte rest in if nat_le n name_limit then Some (kinds.Word, n) else None

-- a number up to 2^63 - 1, directly before no letter and no `_`
unfoldable pub number_at : List ℕ → Option (TokenKind × ℕ)
number_at bytes =
    option_and_then (λ found. if word_follows (drop found.1 bytes) then None else Some (kinds.Number (pos found.0), found.1))
    (numeral_at 0 (2 ^ 63 - 1) bytes)

-- a text, behind its opening quote
unfoldable pub text_at : List ℕ → Option (TokenKind × ℕ)
text_at rest = option_map (λ n. (kinds.Text, 1 + n)) (text_length rest)

-- `@` (64) and a number from 1 to 2^32 - 1: the number, and the length of both
unfoldable pub version_at : List ℕ → Option (ℕ × ℕ)
version_at [] = None
version_at (b ∷ rest) =
    if b == 64 then option_map (λ found. (found.0, 1 + found.1)) (numeral_at 1 (2 ^ 32 - 1) rest) else None

-- the reference to an object, with the version where one follows
abbrev pub reference_to : ℕ → ℕ → Option (ℕ × ℕ) → TokenKind × ℕ
reference_to object n None = (kinds.Reference (record { object = object; version = None }), n)
reference_to object n (Some version) = (kinds.Reference (record { object = object; version = Some version.0 }), n + version.1)

-- a number from 1 to 2^64 - 1 and perhaps a version, behind the `#`
unfoldable pub reference_at : List ℕ → Option (TokenKind × ℕ)
reference_at rest =
    option_map (λ found. reference_to found.0 (1 + found.1) (version_at (drop found.1 rest))) (numeral_at 1 (2 ^ 64 - 1) rest)

-- The table: the token in front, and its length. The first byte tells the row (34 is `"`, 35 is `#`).
unfoldable pub token_at : List ℕ → Option (TokenKind × ℕ)
token_at [] = None
token_at (b ∷ rest) =
    if begins_word b then word_at rest
    else (if is_ascii_digit b then number_at (b ∷ rest)
    else (if b == 34 then text_at rest
    else (if b == 35 then reference_at rest
    else option_map (λ found. (kinds.Mark found.0, found.1)) (mark_at (b ∷ rest)))))

-- space, tab, CR or LF
abbrev pub is_blank : ℕ → Bool
is_blank b = (b == byte " ") || (b == byte "\t") || (b == byte "\r") || (b == byte "\n")

-- how many bytes in front separate tokens: those of a comment up to its LF, or blanks
unfoldable pub gap_at : List ℕ → ℕ
gap_at bytes = if starts_with nat_eq bytes (codes "//") then prefix_len (λ b. not (b == 10)) bytes else prefix_len is_blank bytes

-- what a text is cut into: its tokens, or the first place where no token begins
pub data Lexed : Type 0 where
  Tokens : (tokens : List Token) → Lexed
  NoToken : (at : ℕ) → Lexed

abbrev pub with_token : Token → Lexed → Lexed
with_token token (Tokens tokens) = Tokens (token ∷ tokens)
with_token token (NoToken at) = NoToken at

-- what is in front at a place: a gap, a token or neither; `behind n` is what comes n + 1 bytes later
abbrev pub placed : ℕ → ℕ → Option (TokenKind × ℕ) → (ℕ → Lexed) → Lexed
placed at (suc n) found behind = behind n
placed at zero (Some found) behind = with_token (record { kind = found.0; start = at; end = at + found.1 }) (behind (found.1 - 1))
placed at zero None behind = NoToken at

-- the tokens from a place on, where `past` bytes more belong to what began before
unfoldable pub lexed_from : ℕ → ℕ → List ℕ → Lexed
lexed_from at past [] = Tokens []
lexed_from at (suc past) (b ∷ rest) = lexed_from (at + 1) past rest
lexed_from at zero (b ∷ rest) = placed at (gap_at (b ∷ rest)) (token_at (b ∷ rest)) (λ n. lexed_from (at + 1) n rest)

-- the tokens of a text
unfoldable pub lexed : List ℕ → Lexed
lexed text = lexed_from 0 0 text

-- the token is what the text has at its place, and a word's bytes are a name
pub record IsTokenOf (text : List ℕ) (token : Token) : Type 0 where
  pub some : token.start < token.end
  pub within : token.end ≤ length text
  pub reads : token_at (drop token.start text) ≡ Some (token.kind, token.end - token.start)
  pub word : token.kind ≡ kinds.Word → IsName (take (token.end - token.start) (drop token.start text))

-- a token ends before another begins
abbrev pub IsBefore : Token → Token → Type 0
IsBefore first second = first.end ≤ second.start
