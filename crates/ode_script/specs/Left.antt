-- What is left of a script.
use Rattle.std.specs.Prelude.{◌≡◌, ℕ, ◌-◌, ◌<◌, ◌≤◌, length, List, [], ◌∷◌, ◌++◌, take, drop, Bool, true, false, Option, Some, None, Result, Ok, Err}
use Rattle.ode_script.specs.declared.reader.Reader.{Reader}
use Rattle.ode_script.specs.declared.reader.ScriptError.{ScriptError}
use Rattle.ode_script.specs.declared.reader.ScriptError.TheVariants as E
use Rattle.ode_script.specs.declared.reader.Piece.{Piece}
use Rattle.ode_script.specs.declared.reader.Piece.TheVariants as P
use Rattle.ode_script.specs.Cutting.{Pieces, Then, Ended, End, LongStatement, LongScript, pieces_from}
use Rattle.ode_lex.specs.Tokens.{is_blank}
use Rattle.ode_script.specs.Pieces.{line_after}

-- the reader may be asked for a piece
abbrev pub is_live : Reader → Bool
is_live reader = reader.live

-- how many bytes may still come
abbrev pub allowed : Reader → ℕ
allowed reader = reader.allowed

-- what the reader has read and not taken
abbrev pub held : Reader → List ℕ
held reader = drop reader.at (take reader.end reader.buffer)

-- these bytes are left: what the reader holds, and what the source has
pub record HasLeft (reader : Reader) (source : Option (List ℕ)) (rest : List ℕ) : Type 0 where
  pub behind : List ℕ
  pub told : source ≡ Some behind
  pub is : rest ≡ held reader ++ behind

-- these pieces are left: those of the bytes that are
pub record HasPieces (reader : Reader) (source : Option (List ℕ)) (ps : Pieces) : Type 0 where
  pub rest : List ℕ
  pub left : HasLeft reader source rest
  pub are : ps ≡ pieces_from reader.allowed reader.line rest

-- the reader holds this byte next, and may take it
pub record IsNext (reader : Reader) (b : ℕ) : Type 0 where
  pub more : List ℕ
  pub is : held reader ≡ b ∷ more
  pub some : 0 < reader.allowed

-- the reader took one byte
pub record Takes (old new : Reader) (b : ℕ) : Type 0 where
  pub some : 0 < old.allowed
  pub allowed : new.allowed ≡ old.allowed - 1
  pub line : new.line ≡ line_after old.line b

-- what an error at a byte says of the bytes that are left
abbrev pub Stops : (rest : List ℕ) → ScriptError → Type 0
Stops rest E.LongStatement = (b : ℕ) × (more : List ℕ) × (rest ≡ b ∷ more)
Stops rest E.LongScript = (b : ℕ) × (more : List ℕ) × (rest ≡ b ∷ more)
Stops rest E.ReadFault = Unit {0}
Stops rest E.Memory = Unit {0}

-- why a byte may not come, behind a piece that is full or isn't, where so many bytes are allowed
abbrev pub Bars : (is_full : Bool) (allowed : ℕ) → ScriptError → Type 0
Bars is_full allowed E.LongStatement = is_full ≡ true
Bars is_full allowed E.LongScript = (is_full ≡ false) × (allowed ≡ 0)
Bars is_full allowed E.ReadFault = Unit {0}
Bars is_full allowed E.Memory = ⊥

-- the first of the bytes that are left, which stays
abbrev pub Shows : (rest : List ℕ) (new : Reader) (source : Option (List ℕ)) → Result (Option ℕ) ScriptError → Type 0
Shows rest new source (Ok None) = (rest ≡ []) × HasLeft new source []
Shows rest new source (Ok (Some b)) = (more : List ℕ) × (rest ≡ b ∷ more) × HasLeft new source (b ∷ more)
Shows rest new source (Err e) = Stops rest e

-- what an error says of the pieces that are left
abbrev pub EndsBy : Pieces → ScriptError → Type 0
EndsBy ps E.LongStatement = ps ≡ Ended LongStatement
EndsBy ps E.LongScript = ps ≡ Ended LongScript
EndsBy ps E.ReadFault = Unit {0}
EndsBy ps E.Memory = Unit {0}

abbrev pub starts_blank : List ℕ → Bool
starts_blank [] = false
starts_blank (b ∷ bs) = is_blank b

-- the blanks before the next piece were taken
abbrev pub SkipsBlanks : (ps : Pieces) (new : Reader) (source : Option (List ℕ)) → Result Unit ScriptError → Type 0
SkipsBlanks ps new source (Ok _) = (left : HasPieces new source ps) × (starts_blank left.rest ≡ false)
SkipsBlanks ps new source (Err e) = EndsBy ps e

-- the last piece, where there is one
abbrev pub last_of : Piece → Pieces
last_of (P.Statement text line) = Then line text (Ended End)
last_of P.End = Ended End

-- the next piece was taken, or the ending was met
abbrev pub TakesPiece : (ps : Pieces) (new : Reader) (source : Option (List ℕ)) → Result Piece ScriptError → Type 0
TakesPiece ps new source (Ok (P.Statement text line)) = (more : Pieces) × (ps ≡ Then line text more) × HasPieces new source more
TakesPiece ps new source (Ok P.End) = (ps ≡ Ended End) × (source ≡ Some [])
TakesPiece ps new source (Err e) = EndsBy ps e

abbrev pub IsStatement : Piece → Type 0
IsStatement (P.Statement text line) = Unit {0}
IsStatement P.End = ⊥

-- a statement has at most so many bytes
abbrev pub IsWithin : ℕ → Piece → Type 0
IsWithin most (P.Statement text line) = length text ≤ most
IsWithin most P.End = Unit {0}
