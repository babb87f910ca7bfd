-- Texts in quotes.
use Rattle.std.specs.Prelude.{◌≡◌, drop, false, ℕ, ◌+◌, Bool, nat_le, ◌==◌, ◌||◌, if◌then◌else◌, List, [], ◌∷◌, length, Option, None, Some, option_map}
use Rattle.ode_value.specs.Limits.{text_limit}
use Rattle.ode_value.specs.Text.{is_bad_byte}

-- `"` and `\`
abbrev pub quote : ℕ
quote = 34

abbrev pub backslash : ℕ
backslash = 92

abbrev pub is_escaped : ℕ → Bool
is_escaped b = b == quote || b == backslash

-- the same with a byte of content in front, which n bytes spell
abbrev pub with_front : ℕ → ℕ → Option (List ℕ × ℕ) → Option (List ℕ × ℕ)
with_front b n rest = option_map (λ found. (b ∷ found.0, n + found.1)) rest

-- the content of a text behind its opening quote, its escapes undone, and how many bytes spell it and the closing quote
abbrev pub content : List ℕ → Option (List ℕ × ℕ)
content [] = None
content (b ∷ []) = if b == quote then Some ([], 1) else None
content (b ∷ c ∷ rest) =
    if b == quote then Some ([], 1)
    else (if b == backslash then (if is_escaped c then with_front c 2 (content rest) else None)
    else (if is_bad_byte b then None
    else with_front b 1 (content (c ∷ rest))))

-- the length of the text behind its opening quote, where its content is no longer than a text
abbrev pub length_of_short : Option (List ℕ × ℕ) → Option ℕ
length_of_short None = None
length_of_short (Some found) = if nat_le (length found.0) text_limit then Some found.1 else None

unfoldable pub text_length : List ℕ → Option ℕ
text_length bytes = length_of_short (content bytes)

-- a closing quote is in front
abbrev pub begins_with_quote : List ℕ → Bool
begins_with_quote [] = false
begins_with_quote (b ∷ rest) = b == quote

-- the first n bytes spell a byte of the content
abbrev pub SpellsByte : ℕ → List ℕ → Type 0
SpellsByte n bytes = (b : ℕ) × (content bytes ≡ with_front b n (content (drop n bytes)))
