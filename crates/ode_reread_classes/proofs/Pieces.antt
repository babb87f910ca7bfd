-- Pieces of texts, one behind the other.
use Rattle.std.proofs.Common.{◌≡◌, ℕ, true, Bool, codes, List, [], ◌∷◌, ◌++◌, append_assoc, refl, sym, subst}
use Rattle.std.proofs.lemmas.List.{append-nil}
use Rattle.ode_lex.specs.Marks.{spelled_mark}
use Rattle.ode_lex.specs.declared.token.Mark.{Mark}
use Rattle.ode_lex.specs.declared.token.Mark.TheVariants as mark
use Rattle.ode_lex.specs.declared.token.TokenKind.TheVariants as kind
use Rattle.ode_terminals.specs.declared.seen.Place.{Place}
use Rattle.ode_value.specs.Printing.{expr_text, operand_text, Printed, operand}
use Rattle.ode_value.specs.Words.{is_word}
use Rattle.ode_value.specs.declared.statement.Expr.{Expr}
use Rattle.ode_syntax.specs.Kept.{Spelled}
use Rattle.ode_relex.specs.Ends.{ends_mark, opens, stops}
use Rattle.ode_heights.specs.declared.height.Height.{Height}
use Rattle.ode_reread.proofs.Cuts.{spell, Cut}
use Rattle.ode_reread.proofs.Goods.{Good}
use Rattle.ode_reread.proofs.Marked.{as_operand, marked}
use Rattle.ode_reread.proofs.Spells.{a_blank, a_mark, a_word, ends, ends_marks, no_blank, opens_append, opens_blank, opens_marks, operand_spells, recut, word_opens, Spells}

-- The text is cut into these tokens where what follows it passes the test.
pub record Piece (place : Place) (ok : List ℕ → Bool) (text : List ℕ) (ts : List Spelled) : Type 0 where
  pub cuts : (rest : List ℕ) (us : List Spelled) → ok rest ≡ true → Cut place rest us → Cut place (text ++ rest) (ts ++ us)

pub join : {place : Place} {ok more : List ℕ → Bool} {x y : List ℕ} {ts us : List Spelled} → Piece place ok x ts → Piece place more y us
    → ((rest : List ℕ) → more rest ≡ true → ok (y ++ rest) ≡ true) → Piece place more (x ++ y) (ts ++ us)
join {x = x} {y = y} {ts = ts} {us = us} p q f = record {
  cuts = λ rest vs e c. recut (append_assoc x y rest) (append_assoc ts us vs) (p.cuts (y ++ rest) (us ++ vs) (f rest e) (q.cuts rest vs e c));
}

-- the same tokens, put together otherwise
pub retoken : {place : Place} {ok : List ℕ → Bool} {text : List ℕ} {ts us : List Spelled} → ts ≡ us → Piece place ok text ts → Piece place ok text us
retoken {place = place} {ok = ok} {text = text} e p = subst (λ vs. Piece place ok text vs) e p

pub nothing : (place : Place) → Piece place ends [] []
nothing place = record { cuts = λ rest us e c. c }

pub of_spells : {place : Place} {text : List ℕ} {ts : List Spelled} → Spells place text ts → Piece place ends text ts
of_spells s = record { cuts = s.cuts }

pub word : (place : Place) (w : List ℕ) → is_word w ≡ true → Piece place stops w (spell place kind.Word w ∷ [])
word place w h = record { cuts = λ rest us e c. a_word w h e c }

-- a word and a blank
pub worded : (place : Place) (w : List ℕ) → is_word w ≡ true → Piece place no_blank (w ++ codes " ") (spell place kind.Word w ∷ [])
worded place w h = record { cuts = λ rest us e c. recut (append_assoc w (codes " ") rest) refl (a_word w h refl (a_blank e c)) }

pub blank : (place : Place) → Piece place no_blank (codes " ") []
blank place = record { cuts = λ rest us e c. a_blank e c }

-- a blank more
pub then_blank : {place : Place} {ok : List ℕ → Bool} {x : List ℕ} {ts : List Spelled} → Piece place ok x ts → ((rest : List ℕ) → ok (codes " " ++ rest) ≡ true)
    → Piece place no_blank (x ++ codes " ") ts
then_blank {place = place} {ts = ts} p f = retoken (append-nil ts) (join p (blank place) (λ rest e. f rest))

-- a mark, one before a blank, and one between two blanks
pub one_mark : (place : Place) (m : Mark) → Piece place ends_mark (spelled_mark m) (marked m ∷ [])
one_mark place m = record { cuts = λ rest us e c. a_mark m e c }

pub closing_mark : (place : Place) (m : Mark) → Piece place ends (spelled_mark m) (marked m ∷ [])
closing_mark place m = record { cuts = λ rest us e c. a_mark m (ends_marks rest e) c }

pub mark_blank : (place : Place) (m : Mark) → Piece place no_blank (spelled_mark m ++ codes " ") (marked m ∷ [])
mark_blank place m = record { cuts = λ rest us e c. recut (append_assoc (spelled_mark m) (codes " ") rest) refl (a_mark m refl (a_blank e c)) }

no_blank_mark : (m : Mark) (rest : List ℕ) → no_blank (spelled_mark m ++ rest) ≡ true
no_blank_mark mark.OpenBrace rest = refl
no_blank_mark mark.CloseBrace rest = refl
no_blank_mark mark.OpenParen rest = refl
no_blank_mark mark.CloseParen rest = refl
no_blank_mark mark.Semi rest = refl
no_blank_mark mark.Comma rest = refl
no_blank_mark mark.Dot rest = refl
no_blank_mark mark.Colon rest = refl
no_blank_mark mark.Assign rest = refl
no_blank_mark mark.Equal rest = refl
no_blank_mark mark.NotEqual rest = refl
no_blank_mark mark.Less rest = refl
no_blank_mark mark.LessEqual rest = refl
no_blank_mark mark.Greater rest = refl
no_blank_mark mark.GreaterEqual rest = refl
no_blank_mark mark.Plus rest = refl
no_blank_mark mark.Minus rest = refl
no_blank_mark mark.Star rest = refl
no_blank_mark mark.Slash rest = refl
no_blank_mark mark.Percent rest = refl
no_blank_mark mark.Not rest = refl
no_blank_mark mark.AndAnd rest = refl
no_blank_mark mark.OrOr rest = refl
no_blank_mark mark.Arrow rest = refl

pub between_blanks : (place : Place) (m : Mark) → Piece place no_blank (codes " " ++ spelled_mark m ++ codes " ") (marked m ∷ [])
between_blanks place m = record {
  cuts = λ rest us e c. a_blank (blank_first m rest) ((mark_blank place m).cuts rest us e c);
}
  where
    blank_first : (m : Mark) (rest : List ℕ) → no_blank ((spelled_mark m ++ codes " ") ++ rest) ≡ true
    blank_first m rest = subst (λ x. no_blank x ≡ true) (sym (append_assoc (spelled_mark m) (codes " ") rest)) (no_blank_mark m (codes " " ++ rest))

-- ---- what may follow what

-- any: the test computes at what follows
pub begun : {place : Place} {y : List ℕ} {us : List Spelled} → Spells place y us → (rest : List ℕ) → ends rest ≡ true → no_blank (y ++ rest) ≡ true
begun {y = y} s rest e = opens_blank (y ++ rest) (opens_append y rest s.begins)

pub word_begun : (w : List ℕ) → is_word w ≡ true → (rest : List ℕ) → stops rest ≡ true → no_blank (w ++ rest) ≡ true
word_begun w h rest e = opens_blank (w ++ rest) (opens_append w rest (word_opens w h))

pub word_begun_mark : (w : List ℕ) → is_word w ≡ true → (rest : List ℕ) → stops rest ≡ true → ends_mark (w ++ rest) ≡ true
word_begun_mark w h rest e = opens_marks (w ++ rest) (opens_append w rest (word_opens w h))

-- with more behind it
pub marks_behind : (x more : List ℕ) → opens x ≡ true → (rest : List ℕ) → ends rest ≡ true → ends_mark ((x ++ more) ++ rest) ≡ true
marks_behind x more o rest e = opens_marks ((x ++ more) ++ rest) (opens_append (x ++ more) rest (opens_append x more o))

pub blanks_behind : (x more : List ℕ) → opens x ≡ true → (rest : List ℕ) → ends rest ≡ true → no_blank ((x ++ more) ++ rest) ≡ true
blanks_behind x more o rest e = opens_blank ((x ++ more) ++ rest) (opens_append (x ++ more) rest (opens_append x more o))

-- a piece that is a text of its own
pub to_spells : {place : Place} {text : List ℕ} {ts : List Spelled} → opens text ≡ true → Piece place ends text ts → Spells place text ts
to_spells o p = record { begins = o; cuts = p.cuts }

-- ---- expressions

pub expr_spells : {place : Place} {e : Expr} {h : Height} → (g : Good place e h) → Spells place (expr_text e) g.tokens
expr_spells {place = place} g = subst (λ (p : Printed). Spells place p.text g.tokens) (sym g.shown) g.spells

pub operand_text_spells : {place : Place} {e : Expr} {h : Height} → (g : Good place e h) → Spells place (operand_text e) (as_operand g.is_operator g.tokens)
operand_text_spells {place = place} g =
    subst (λ (p : Printed). Spells place (operand p) (as_operand g.is_operator g.tokens)) (sym g.shown) (operand_spells place g.is_operator g.text g.tokens g.spells)
