-- How a script is cut into pieces, with a limit on each and one on the whole.
use Rattle.std.specs.Prelude.{ℕ, zero, suc, List, [], ◌∷◌, ◌++◌, length, Bool, nat_le, if◌then◌else◌}
use Rattle.ode_value.specs.Limits.{statement_limit, script_limit}
use Rattle.ode_script.specs.declared.reader.Part.{Part}
use Rattle.ode_script.specs.declared.reader.Place.TheVariants.{Outside}
use Rattle.ode_script.specs.Pieces.{line_after, begun, with_byte, ends, is_leading, has_code}

-- how a script ends: by itself, or at the first byte past the limit on a statement or on the script
pub data Ending : Type 0 where
  End : Ending
  LongStatement : Ending
  LongScript : Ending

-- the pieces in order, each with the line of its first byte, and the ending
pub data Pieces : Type 0 where
  Then : (line : ℕ) (text : List ℕ) (rest : Pieces) → Pieces
  Ended : (ending : Ending) → Pieces

-- the piece has as many bytes as a statement may have
abbrev pub is_full : Part → Bool
is_full p = nat_le statement_limit (length p.text)

-- what the piece comes to at the end of input
abbrev pub last_piece : Part → Pieces
last_piece p = if has_code Outside p.text then Then p.line p.text (Ended End) else Ended End

-- what it comes to at the first byte past the limit on the script
abbrev pub past_script : Part → Pieces
past_script p = if is_full p then Ended LongStatement else Ended LongScript

-- the pieces from the piece p on, of which so many more bytes are allowed; the next byte is on this line
abbrev pub cut : Part → (allowed line : ℕ) → List ℕ → Pieces
cut p allowed line [] = last_piece p
cut p zero line (b ∷ bs) = past_script p
cut p (suc n) line (b ∷ bs) =
    if is_leading p b then cut (begun (line_after line b)) n (line_after line b) bs
    else (if is_full p then Ended LongStatement
    else (if ends p b then Then p.line (p.text ++ b ∷ []) (cut (begun (line_after line b)) n (line_after line b) bs)
    else cut (with_byte p b) n (line_after line b) bs))

-- the pieces of what is left of a script, of which so many bytes are allowed; its first byte is on this line
abbrev pub pieces_from : (allowed line : ℕ) → List ℕ → Pieces
pieces_from allowed line rest = cut (begun line) allowed line rest

-- the pieces of a script
abbrev pub pieces : List ℕ → Pieces
pieces script = pieces_from script_limit 1 script

-- the ending
abbrev pub ending_of : Pieces → Ending
ending_of (Then line text rest) = ending_of rest
ending_of (Ended ending) = ending
