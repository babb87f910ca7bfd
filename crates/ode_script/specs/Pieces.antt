-- A piece of a script, byte by byte: where each byte stands, which one ends the piece, and whether it has code.
use Rattle.std.specs.Prelude.{ℕ, ◌+◌, ◌-◌, List, [], ◌∷◌, ◌++◌, Bool, true, false, ◌==◌, ◌||◌, ◌&&◌, if◌then◌else◌}
use Rattle.std.specs.Str.{byte}
use Rattle.ode_lex.specs.Tokens.{is_blank}
use Rattle.ode_script.specs.declared.reader.Place.{Place}
use Rattle.ode_script.specs.declared.reader.Place.TheVariants.{Outside, Slash, Comment, Text, Escape}
use Rattle.ode_script.specs.declared.reader.Part.{Part}

-- the line behind the byte b
abbrev pub line_after : (line b : ℕ) → ℕ
line_after line b = if b == byte "\n" then line + 1 else line

-- A place is outside comments and texts, there behind a slash, in a comment, in a text, or there behind a backslash.
abbrev pub is_outside : Place → Bool
is_outside Outside = true
is_outside Slash = true
is_outside Comment = false
is_outside Text = false
is_outside Escape = false

-- the place behind the byte b: two slashes open a comment, a quote opens and ends a text, an LF ends both
abbrev pub outside_after : ℕ → Place
outside_after b = if b == byte "/" then Slash else (if b == byte "\"" then Text else Outside)

abbrev pub place_after : Place → ℕ → Place
place_after Outside b = outside_after b
place_after Slash b = if b == byte "/" then Comment else outside_after b
place_after Comment b = if b == byte "\n" then Outside else Comment
place_after Text b = if (b == byte "\"") || (b == byte "\n") then Outside else (if b == byte "\\" then Escape else Text)
place_after Escape b = if b == byte "\n" then Outside else Text

-- how many braces are open behind the byte b
abbrev pub depth_after : Place → (depth b : ℕ) → ℕ
depth_after place depth b =
    if is_outside place && (b == byte "{") then depth + 1
    else (if is_outside place && (b == byte "}") then depth - 1 else depth)

-- a piece before its first byte, and with one more byte
abbrev pub begun : (line : ℕ) → Part
begun line = record { line = line; text = []; place = Outside; depth = 0 }

abbrev pub with_byte : Part → ℕ → Part
with_byte p b = record {
  line = p.line;
  text = p.text ++ b ∷ [];
  place = place_after p.place b;
  depth = depth_after p.place p.depth b;
}

-- the byte b ends the piece
abbrev pub ends : Part → ℕ → Bool
ends p b = is_outside p.place && (p.depth == 0) && (b == byte ";")

abbrev pub is_empty : List ℕ → Bool
is_empty [] = true
is_empty (b ∷ bs) = false

-- the byte b is a blank before the piece
abbrev pub is_leading : Part → ℕ → Bool
is_leading p b = is_empty p.text && is_blank b

-- of these bytes, the first of which is at this place, some are neither blanks nor in comments
abbrev pub has_code : Place → List ℕ → Bool
has_code Outside [] = false
has_code Outside (b ∷ bs) = if is_blank b then has_code Outside bs else (if b == byte "/" then has_code Slash bs else true)
has_code Slash [] = true
has_code Slash (b ∷ bs) = if b == byte "/" then has_code Comment bs else true
has_code Comment [] = false
has_code Comment (b ∷ bs) = has_code (place_after Comment b) bs
has_code Text bs = true
has_code Escape bs = true
