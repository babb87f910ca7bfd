-- Texts that are cut into tokens, whatever follows.
use Rattle.std.proofs.Common.{◌≡◌, ℕ, ◌<◌, ◌+◌, Bool, true, false, not, ◌&&◌, ◌||◌, ◌==◌, cond, codes, List, [], ◌∷◌, ◌++◌, length, arith, refl, sym, ◌∙◌, ap, subst, append_assoc}
use Rattle.std.specs.List.{prefix_len}
use Rattle.std.specs.Str.Parse.{AllDigits}
use Rattle.std.proofs.lemmas.Bool.{false≢true}
use Rattle.std.proofs.lemmas.Bool.Decides.{nat_tests}
use Rattle.ode_lex.specs.Marks.{spelled_mark}
use Rattle.ode_lex.specs.Tokens.{gap_at, is_blank}
use Rattle.ode_lex.specs.declared.token.Mark.{Mark}
use Rattle.ode_lex.specs.declared.token.Mark.TheVariants as mark
use Rattle.ode_lex.specs.declared.token.TokenKind.{TokenKind}
use Rattle.ode_lex.specs.declared.token.TokenKind.TheVariants as kind
use Rattle.ode_terminals.specs.declared.seen.Place.{Place}
use Rattle.ode_value.specs.Printing.{binary_text, in_brackets, unary_text}
use Rattle.ode_value.specs.Text.{is_name_byte}
use Rattle.ode_value.specs.Words.{is_digit, is_word}
use Rattle.ode_value.specs.declared.operator.BinOp.{BinOp}
use Rattle.ode_value.specs.declared.operator.BinOp.TheVariants as binary
use Rattle.ode_value.specs.declared.operator.UnOp.{UnOp}
use Rattle.ode_value.specs.declared.operator.UnOp.TheVariants as unary
use Rattle.ode_syntax.specs.Kept.{Spelled}
use Rattle.ode_relex.specs.Ends.{ends_mark, opens, stops, IsToken}
use Rattle.ode_relex.proofs.WordTokens.{both_true, neither, word_token}
use Rattle.ode_relex.proofs.MarkTokens.{mark_token}
use Rattle.ode_relex.proofs.NumberTokens.{first_digit}
use Rattle.ode_reread.proofs.Cuts.{spell, Cut}
use Rattle.ode_reread.proofs.Cuts as cuts
use Rattle.ode_reread.proofs.Marked.{marked, sign_mark, operator_mark, bracketed, as_operand}

-- what may stand behind a printed tree: what may stand behind a word and behind a mark
abbrev pub ends : List ℕ → Bool
ends [] = true
ends (b ∷ bytes) = not (is_name_byte b || b == 64) && not (b == 47 || b == 61 || b == 62)

-- no blank is in front
abbrev pub no_blank : List ℕ → Bool
no_blank [] = true
no_blank (b ∷ bytes) = not (is_blank b)

pub ends_stops : (rest : List ℕ) → ends rest ≡ true → stops rest ≡ true
ends_stops [] e = refl
ends_stops (b ∷ rest) e = (both_true (not (is_name_byte b || b == 64)) (not (b == 47 || b == 61 || b == 62)) e).0

pub ends_marks : (rest : List ℕ) → ends rest ≡ true → ends_mark rest ≡ true
ends_marks [] e = refl
ends_marks (b ∷ rest) e = (both_true (not (is_name_byte b || b == 64)) (not (b == 47 || b == 61 || b == 62)) e).1

pub opens_append : (xs ys : List ℕ) → opens xs ≡ true → opens (xs ++ ys) ≡ true
opens_append [] ys e = absurd (false≢true e)
opens_append (x ∷ xs) ys e = e

pub opens_marks : (xs : List ℕ) → opens xs ≡ true → ends_mark xs ≡ true
opens_marks [] e = refl
opens_marks (b ∷ xs) e = ap not (neither (is_blank b) (b == 47 || b == 61 || b == 62) e).1

pub opens_blank : (xs : List ℕ) → opens xs ≡ true → no_blank xs ≡ true
opens_blank [] e = refl
opens_blank (b ∷ xs) e = ap not (neither (is_blank b) (b == 47 || b == 61 || b == 62) e).0

-- ---- a token, and a blank, in front

no_more : (bytes : List ℕ) (x : Bool) → not x ≡ true → 1 + cond x (1 + prefix_len is_blank bytes) 0 ≡ 1
no_more bytes true e = absurd (false≢true e)
no_more bytes false e = refl

one_blank : (bytes : List ℕ) → no_blank bytes ≡ true → gap_at (32 ∷ bytes) ≡ 1
unfolding gap_at
one_blank [] e = refl
one_blank (b ∷ bytes) e = no_more bytes (is_blank b) e

module _ {place : Place} where
  pub a_blank : {bytes : List ℕ} {ts : List Spelled} → no_blank bytes ≡ true → Cut place bytes ts → Cut place (32 ∷ bytes) ts
  a_blank {bytes = bytes} e c = cuts.Blank (one_blank bytes e) c

  pub a_mark : (m : Mark) {bytes : List ℕ} {ts : List Spelled} → ends_mark bytes ≡ true → Cut place bytes ts → Cut place (spelled_mark m ++ bytes) (marked m ∷ ts)
  a_mark m {bytes = bytes} e c = cuts.Token (kind.Mark m) (spelled_mark m) (mark_token m bytes e) c

  pub a_word : (w : List ℕ) {bytes : List ℕ} {ts : List Spelled} → is_word w ≡ true → stops bytes ≡ true → Cut place bytes ts
      → Cut place (w ++ bytes) (spell place kind.Word w ∷ ts)
  a_word w {bytes = bytes} h e c = cuts.Token kind.Word w (word_token w bytes h e) c

  pub recut : {a b : List ℕ} {ts us : List Spelled} → a ≡ b → ts ≡ us → Cut place b us → Cut place a ts
  recut {a = a} {us = us} e f c = subst (λ vs. Cut place a vs) (sym f) (subst (λ x. Cut place x us) (sym e) c)

  pub operator_cut : (op : BinOp) (bytes : List ℕ) (ts : List Spelled) → no_blank bytes ≡ true → Cut place bytes ts
      → Cut place (binary_text op ++ bytes) (marked (operator_mark op) ∷ ts)
  operator_cut binary.Add bytes ts e c = a_blank refl (a_mark mark.Plus refl (a_blank e c))
  operator_cut binary.Sub bytes ts e c = a_blank refl (a_mark mark.Minus refl (a_blank e c))
  operator_cut binary.Mul bytes ts e c = a_blank refl (a_mark mark.Star refl (a_blank e c))
  operator_cut binary.Div bytes ts e c = a_blank refl (a_mark mark.Slash refl (a_blank e c))
  operator_cut binary.Rem bytes ts e c = a_blank refl (a_mark mark.Percent refl (a_blank e c))
  operator_cut binary.Eq bytes ts e c = a_blank refl (a_mark mark.Equal refl (a_blank e c))
  operator_cut binary.Ne bytes ts e c = a_blank refl (a_mark mark.NotEqual refl (a_blank e c))
  operator_cut binary.Lt bytes ts e c = a_blank refl (a_mark mark.Less refl (a_blank e c))
  operator_cut binary.Le bytes ts e c = a_blank refl (a_mark mark.LessEqual refl (a_blank e c))
  operator_cut binary.Gt bytes ts e c = a_blank refl (a_mark mark.Greater refl (a_blank e c))
  operator_cut binary.Ge bytes ts e c = a_blank refl (a_mark mark.GreaterEqual refl (a_blank e c))
  operator_cut binary.And bytes ts e c = a_blank refl (a_mark mark.AndAnd refl (a_blank e c))
  operator_cut binary.Or bytes ts e c = a_blank refl (a_mark mark.OrOr refl (a_blank e c))

operator_ends : (op : BinOp) (bytes : List ℕ) → ends (binary_text op ++ bytes) ≡ true
operator_ends binary.Add bytes = refl
operator_ends binary.Sub bytes = refl
operator_ends binary.Mul bytes = refl
operator_ends binary.Div bytes = refl
operator_ends binary.Rem bytes = refl
operator_ends binary.Eq bytes = refl
operator_ends binary.Ne bytes = refl
operator_ends binary.Lt bytes = refl
operator_ends binary.Le bytes = refl
operator_ends binary.Gt bytes = refl
operator_ends binary.Ge bytes = refl
operator_ends binary.And bytes = refl
operator_ends binary.Or bytes = refl

-- ---- whole texts

pub record Spells (place : Place) (text : List ℕ) (ts : List Spelled) : Type 0 where
  pub begins : opens text ≡ true
  pub cuts : (rest : List ℕ) (us : List Spelled) → ends rest ≡ true → Cut place rest us → Cut place (text ++ rest) (ts ++ us)

-- a text that is one token
pub token_spells : (place : Place) (k : TokenKind) (text : List ℕ) → opens text ≡ true → ((rest : List ℕ) → ends rest ≡ true → IsToken k text rest)
    → Spells place text (spell place k text ∷ [])
token_spells place k text o t = record { begins = o; cuts = λ rest us e c. cuts.Token k text (t rest e) c }

name_opens : (b : ℕ) → is_name_byte b ≡ true → not (is_blank b || (b == 47 || b == 61 || b == 62)) ≡ true
name_opens b e = grind (arith, nat_tests)

pub word_opens : (w : List ℕ) → is_word w ≡ true → opens w ≡ true
word_opens [] h = absurd (false≢true h)
word_opens (b ∷ w) h =
    let x = both_true _ _ h in
    let y = both_true _ _ x.0 in
    let z = both_true _ _ y.1 in
    name_opens b z.0

pub word_spells : (place : Place) (w : List ℕ) → is_word w ≡ true → Spells place w (spell place kind.Word w ∷ [])
word_spells place w h = token_spells place kind.Word w (word_opens w h) (λ rest e. word_token w rest h (ends_stops rest e))

digit_opens : (b : ℕ) → is_digit b ≡ true → not (is_blank b || (b == 47 || b == 61 || b == 62)) ≡ true
digit_opens b e = grind (arith, nat_tests)

pub digits_open : (ds : List ℕ) → 0 < length ds → AllDigits 10 ds → opens ds ≡ true
digits_open [] some all = absurd (omega arith)
digits_open (d ∷ ds) some all = digit_opens d (first_digit d ds all)

-- ---- brackets and operands

pub brackets_spell : (place : Place) (text : List ℕ) (ts : List Spelled) → Spells place text ts → Spells place (in_brackets text) (bracketed ts)
brackets_spell place text ts s = record {
  begins = refl;
  cuts = λ rest us e c.
      let closed = s.cuts (41 ∷ rest) (marked mark.CloseParen ∷ us) refl (a_mark mark.CloseParen (ends_marks rest e) c) in
      let inner = recut (append_assoc text (41 ∷ []) rest) (append_assoc ts (marked mark.CloseParen ∷ []) us) closed in
      a_mark mark.OpenParen (opens_marks ((text ++ 41 ∷ []) ++ rest) (opens_append (text ++ 41 ∷ []) rest (opens_append text (41 ∷ []) s.begins))) inner;
}

pub operand_spells : (place : Place) (is_operator : Bool) (text : List ℕ) (ts : List Spelled) → Spells place text ts
    → Spells place (cond is_operator (in_brackets text) text) (as_operand is_operator ts)
operand_spells place true text ts s = brackets_spell place text ts s
operand_spells place false text ts s = s

pub field_spells : (place : Place) (text name : List ℕ) (ts : List Spelled) → is_word name ≡ true → Spells place text ts
    → Spells place (text ++ codes "." ++ name) (ts ++ marked mark.Dot ∷ spell place kind.Word name ∷ [])
field_spells place text name ts h s = record {
  begins = opens_append (text ++ codes ".") name (opens_append text (codes ".") s.begins);
  cuts = λ rest us e c.
      let named = a_word name h (ends_stops rest e) c in
      let dotted = a_mark mark.Dot (opens_marks (name ++ rest) (opens_append name rest (word_opens name h))) named in
      recut (append_assoc (text ++ codes ".") name rest ∙ append_assoc text (codes ".") (name ++ rest))
      (append_assoc ts (marked mark.Dot ∷ spell place kind.Word name ∷ []) us) (s.cuts (46 ∷ (name ++ rest)) _ refl dotted);
}

pub version_spells : (place : Place) (text : List ℕ) (ts : List Spelled) → Spells place text ts
    → Spells place (codes "version" ++ in_brackets text) (spell place kind.Word (codes "version") ∷ bracketed ts)
version_spells place text ts s = record {
  begins = refl;
  cuts = λ rest us e c.
      let inner = (brackets_spell place text ts s).cuts rest us e c in
      recut (append_assoc (codes "version") (in_brackets text) rest) refl (a_word (codes "version") refl refl inner);
}

pub unary_spells : (place : Place) (op : UnOp) (text : List ℕ) (ts : List Spelled) → Spells place text ts
    → Spells place (unary_text op ++ text) (marked (sign_mark op) ∷ ts)
unary_spells place unary.Minus text ts s = record {
  begins = refl;
  cuts = λ rest us e c. a_mark mark.Minus (opens_marks (text ++ rest) (opens_append text rest s.begins)) (s.cuts rest us e c);
}
unary_spells place unary.Not text ts s = record {
  begins = refl;
  cuts = λ rest us e c. a_mark mark.Not (opens_marks (text ++ rest) (opens_append text rest s.begins)) (s.cuts rest us e c);
}

pub binary_spells : (place : Place) (op : BinOp) (x y : List ℕ) (ts us : List Spelled) → Spells place x ts → Spells place y us
    → Spells place (x ++ binary_text op ++ y) (ts ++ marked (operator_mark op) ∷ us)
binary_spells place op x y ts us s t = record {
  begins = opens_append (x ++ binary_text op) y (opens_append x (binary_text op) s.begins);
  cuts = λ rest vs e c.
      let second = t.cuts rest vs e c in
      let op_cut = operator_cut op (y ++ rest) (us ++ vs) (opens_blank (y ++ rest) (opens_append y rest t.begins)) second in
      recut (append_assoc (x ++ binary_text op) y rest ∙ append_assoc x (binary_text op) (y ++ rest))
      (append_assoc ts (marked (operator_mark op) ∷ us) vs) (s.cuts (binary_text op ++ (y ++ rest)) _ (operator_ends op (y ++ rest)) op_cut);
}
