-- How a script is cut, byte by byte.
use Rattle.std.proofs.Common.{◌≡◌, ℕ, zero, suc, ◌+◌, ◌-◌, ◌<◌, ◌≤◌, List, [], ◌∷◌, ◌++◌, length, Bool, true, false, Option, Ok, refl, sym, ap, ◌∙◌, subst, arith}
use Rattle.std.specs.Prelude.{◌&&◌, nat_le, if◌then◌else◌}
use Rattle.ode_value.specs.Limits.{statement_limit}
use Rattle.ode_script.specs.declared.reader.Place.{Place}
use Rattle.ode_script.specs.declared.reader.Place.TheVariants.{Outside}
use Rattle.ode_script.specs.declared.reader.Part.{Part}
use Rattle.ode_script.specs.declared.reader.Reader.{Reader}
use Rattle.ode_script.specs.declared.reader.Piece.{Piece}
use Rattle.ode_script.specs.declared.reader.Piece.TheVariants as P
use Rattle.ode_script.specs.declared.reader.ScriptError.{ScriptError}
use Rattle.ode_script.specs.declared.reader.ScriptError.TheVariants as E
use Rattle.ode_script.specs.Cutting.{Pieces, Then, Ended, End, LongStatement, LongScript, cut, is_full, pieces_from, last_piece}
use Rattle.ode_lex.specs.Tokens.{is_blank}
use Rattle.ode_script.specs.Pieces.{has_code, begun, with_byte, depth_after, ends, is_empty, is_leading, line_after}
use Rattle.ode_script.specs.Left.{Bars, HasLeft, Stops, EndsBy, TakesPiece, IsWithin, last_of}
use Rattle.ode_script.proofs.Chunks.{none_left}

-- The byte b is taken, behind which a' bytes are allowed and line' is the line.
module _ (a line a' line' b : ℕ) (some : 0 < a) (fewer : a' ≡ a - 1) (next : line' ≡ line_after line b) (more : List ℕ) where
  reached : Part → (allowed line : ℕ) → Pieces
  reached p n l =
      if is_leading p b then pieces_from n l more
      else (if is_full p then Ended LongStatement
      else (if ends p b then Then p.line (p.text ++ b ∷ []) (pieces_from n l more) else cut (with_byte p b) n l more))

  at_suc : (p : Part) (n l : ℕ) → 0 < n → cut p n l (b ∷ more) ≡ reached p (n - 1) (line_after l b)
  unfolding reached
  at_suc p zero l some = absurd (omega arith)
  at_suc p (suc n) l some = let is : suc n - 1 ≡ n = omega arith in ap (λ m. reached p m (line_after l b)) (sym is)

  cut-byte : (p : Part) → cut p a line (b ∷ more)
      ≡ (if is_leading p b then pieces_from a' line' more
      else (if is_full p then Ended LongStatement
      else (if ends p b then Then p.line (p.text ++ b ∷ []) (pieces_from a' line' more)
      else cut (with_byte p b) a' line' more)))
  unfolding reached
  cut-byte p = at_suc p a line some ∙ ap (λ n. reached p n (line_after line b)) (sym fewer) ∙ ap (reached p a') (sym next)

  -- a blank before a piece
  pub pieces-blank : is_blank b ≡ true → pieces_from a line (b ∷ more) ≡ pieces_from a' line' more
  pieces-blank blank = cut-byte (begun line)
      ∙ ap (λ t. if t then pieces_from a' line' more
      else (if is_full (begun line) then Ended LongStatement
      else (if ends (begun line) b then Then line (b ∷ []) (pieces_from a' line' more)
      else cut (with_byte (begun line) b) a' line' more))) blank

  within : (p : Part) → is_leading p b ≡ false → is_full p ≡ false → cut p a line (b ∷ more)
      ≡ (if ends p b then Then p.line (p.text ++ b ∷ []) (pieces_from a' line' more) else cut (with_byte p b) a' line' more)
  within p inside room = cut-byte p
      ∙ ap (λ t. if t then pieces_from a' line' more
      else (if is_full p then Ended LongStatement
      else (if ends p b then Then p.line (p.text ++ b ∷ []) (pieces_from a' line' more)
      else cut (with_byte p b) a' line' more))) inside
      ∙ ap (λ t. if t then Ended LongStatement
      else (if ends p b then Then p.line (p.text ++ b ∷ []) (pieces_from a' line' more)
      else cut (with_byte p b) a' line' more)) room

  -- the end of a piece
  pub cut-last : (p : Part) → is_leading p b ≡ false → is_full p ≡ false → ends p b ≡ true → cut p a line (b ∷ more) ≡ Then p.line (p.text ++ b ∷ []) (pieces_from a' line' more)
  cut-last p inside room last = within p inside room
      ∙ ap (λ t. if t then Then p.line (p.text ++ b ∷ []) (pieces_from a' line' more) else cut (with_byte p b) a' line' more) last

  -- another byte of it
  pub cut-on : (p : Part) → is_leading p b ≡ false → is_full p ≡ false → ends p b ≡ false → cut p a line (b ∷ more) ≡ cut (with_byte p b) a' line' more
  cut-on p inside room on = within p inside room
      ∙ ap (λ t. if t then Then p.line (p.text ++ b ∷ []) (pieces_from a' line' more) else cut (with_byte p b) a' line' more) on

-- a part with a byte isn't empty
pub is_empty-append : (bs : List ℕ) (b : ℕ) → is_empty (bs ++ b ∷ []) ≡ false
is_empty-append [] b = refl
is_empty-append (c ∷ bs) b = refl

pub depth_after-le : (place : Place) (depth b : ℕ) → depth_after place depth b ≤ depth + 1
depth_after-le place depth b = grind arith

-- no blank stands before a piece that is full
full_text : (text : List ℕ) (b : ℕ) → nat_le statement_limit (length text) ≡ true → is_empty text && is_blank b ≡ false
unfolding statement_limit
full_text [] b full = cc (full)
full_text (c ∷ cs) b full = refl

-- a byte behind a piece that is full
cut-full : (p : Part) (a line b : ℕ) (more : List ℕ) → is_full p ≡ true → cut p a line (b ∷ more) ≡ Ended LongStatement
cut-full p zero line b more full = ap (λ t. if t then Ended LongStatement else Ended LongScript) full
cut-full p (suc n) line b more full =
    let rest : Pieces = if ends p b then Then p.line (p.text ++ b ∷ []) (pieces_from n (line_after line b) more) else cut (with_byte p b) n (line_after line b) more in
    ap (λ t. if t then pieces_from n (line_after line b) more else (if is_full p then Ended LongStatement else rest)) (full_text p.text b full)
    ∙ ap (λ t. if t then Ended LongStatement else rest) full

-- a byte behind the last one that is allowed
cut-long : (p : Part) (a line b : ℕ) (more : List ℕ) → is_full p ≡ false → a ≡ 0 → cut p a line (b ∷ more) ≡ Ended LongScript
cut-long p a line b more room none = ap (λ a. cut p a line (b ∷ more)) none ∙ ap (λ t. if t then Ended LongStatement else Ended LongScript) room

-- what an error at a byte says of the pieces
pub ends_by : (ps : Pieces) (p : Part) (a line : ℕ) (rest : List ℕ) (e : ScriptError) → ps ≡ cut p a line rest → Stops rest e → Bars (is_full p) a e → EndsBy ps e
ends_by ps p a line rest E.LongStatement is stops bars = is ∙ ap (cut p a line) stops.2 ∙ cut-full p a line stops.0 stops.1 bars
ends_by ps p a line rest E.LongScript is stops bars = is ∙ ap (cut p a line) stops.2 ∙ cut-long p a line stops.0 stops.1 bars.0 bars.1
ends_by ps p a line rest E.ReadFault is stops bars = tt
ends_by ps p a line rest E.Memory is stops bars = absurd bars

-- before its first byte no piece is full
pub bars_blank : (line a a' : ℕ) (e : ScriptError) → a' ≡ a → Bars false a' e → Bars (is_full (begun line)) a e
unfolding statement_limit
bars_blank line a a' E.LongStatement same bars = cc (bars)
bars_blank line a a' E.LongScript same bars = (refl, sym same ∙ bars.1)
bars_blank line a a' E.ReadFault same bars = tt
bars_blank line a a' E.Memory same bars = bars

pub bars_same : (full is : Bool) (a a' : ℕ) (e : ScriptError) → full ≡ is → a' ≡ a → Bars full a' e → Bars is a e
bars_same full is a a' e same_full same bars = subst (λ n. Bars is n e) same (subst (λ b. Bars b a' e) same_full bars)

-- a piece that isn't full has room for a byte
pub room_left : (p : Part) → is_full p ≡ false → length p.text < statement_limit
room_left p room = grind arith

-- the last piece, behind which nothing is left
pub takes_last : (ps : Pieces) (new : Reader) (source : Option (List ℕ)) (piece : Piece) → ps ≡ last_of piece → HasLeft new source [] → TakesPiece ps new source (Ok piece)
takes_last ps new source (P.Statement text line) is left = (Ended End, is, record { rest = []; left = left; are = refl })
takes_last ps new source P.End is left = (is, none_left new source left)

-- where there is a last piece, its bytes are the part's
last_text : (has : Bool) (l line : ℕ) (bs text : List ℕ) → (if has then Then l bs (Ended End) else Ended End) ≡ Then line text (Ended End) → bs ≡ text
last_text true l line bs text is = cc (is)
last_text false l line bs text is = cc (is)

-- the last piece has no more bytes than the part
pub last_within : (p : Part) (most : ℕ) (piece : Piece) → length p.text ≤ most → last_piece p ≡ last_of piece → IsWithin most piece
last_within p most (P.Statement text line) short is = rw (sym (last_text (has_code Outside p.text) p.line line p.text text is)) short
last_within p most P.End short is = tt
