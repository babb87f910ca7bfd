-- What a leaf says is good, wherever it stands.
use Rattle.std.proofs.Common.{◌≡◌, ℕ, Bool, true, false, ◌&&◌, ◌||◌, cond, codes, List, [], ◌∷◌, ◌++◌, refl, sym, ◌∙◌, ap, subst}
use Rattle.std.specs.List.{list_any}
use Rattle.std.specs.Str.{bytes_eq}
use Rattle.std.proofs.lemmas.Bool.{false≢true}
use Rattle.ode_lex.specs.declared.token.Mark.{Mark}
use Rattle.ode_lex.specs.declared.token.Mark.TheVariants as mark
use Rattle.ode_lex.specs.declared.token.TokenKind.{TokenKind}
use Rattle.ode_lex.specs.declared.token.TokenKind.TheVariants as kind
use Rattle.ode_grammar.specs.declared.terminal.Terminal.{Terminal}
use Rattle.ode_grammar.specs.declared.terminal.Terminal.TheVariants as terminal
use Rattle.ode_heights.specs.Heights.{leaf}
use Rattle.ode_terminals.specs.declared.seen.Place.{Place}
use Rattle.ode_terminals.specs.declared.seen.Place.TheVariants as place_of
use Rattle.ode_terminals.specs.Seen.{mark_terminal, seen, this_terminal}
use Rattle.ode_terminals.specs.Words.{free_words, looked_up, rows, word_terminal}
use Rattle.ode_value.specs.declared.statement.Expr.{Expr}
use Rattle.ode_value.specs.declared.statement.Expr.TheVariants as expr
use Rattle.ode_value.specs.declared.value.Value.TheVariants as value
use Rattle.ode_syntax.specs.Kept.{content_of, is_text, leaf_of, text_of, word_leaf}
use Rattle.ode_reread.proofs.Goods.{false_good, int_good, null_good, reference_good, text_good, this_good, true_good, turned, Good}
use Rattle.ode_reread.proofs.Marked.{is_leaf}
use Rattle.ode_reread.proofs.Sounds.{seen_as, Sound}

good_either : (place : Place) (c : Bool) (e f : Expr) → Good place e leaf → Good place f leaf → Good place (cond c e f) leaf
good_either place true e f g h = g
good_either place false e f g h = h

-- ---- words

-- where `this` is a leaf
own_word : (place : Place) → this_terminal place ≡ terminal.Leaf → (bytes : List ℕ) → Good place (word_leaf bytes) leaf
own_word place own bytes =
    good_either place (bytes_eq bytes (codes "true")) _ _ (true_good place)
    (good_either place (bytes_eq bytes (codes "false")) _ _ (false_good place)
    (good_either place (bytes_eq bytes (codes "null")) _ _ (null_good place) (this_good place own)))

both_hold : (b c : Bool) → b ≡ true → c ≡ true → (b && c) ≡ true
both_hold b c e f = ap (λ x. x && c) e ∙ f

or_right : (b c : Bool) → c ≡ true → (b || c) ≡ true
or_right true c e = refl
or_right false c e = e

no_left : (b c : Bool) → b ≡ false → (b || c) ≡ c
no_left b c e = ap (λ x. x || c) e

-- a word that is a leaf has a row of one
leaf_word : (rs : List (List ℕ × Terminal)) (w : List ℕ) → is_leaf (looked_up rs w) ≡ true → list_any (λ (r : List ℕ × Terminal). is_leaf r.1 && bytes_eq r.0 w) rs ≡ true
leaf_word [] w e = absurd (false≢true e)
leaf_word (r ∷ rs) w e = cases (bytes_eq r.0 w) refl e (λ f. leaf_word rs w f)
  where
    cases : (c : Bool) → bytes_eq r.0 w ≡ c → is_leaf (cond c r.1 (looked_up rs w)) ≡ true
        → (is_leaf (looked_up rs w) ≡ true → list_any (λ (r : List ℕ × Terminal). is_leaf r.1 && bytes_eq r.0 w) rs ≡ true)
        → ((is_leaf r.1 && bytes_eq r.0 w) || list_any (λ (r : List ℕ × Terminal). is_leaf r.1 && bytes_eq r.0 w) rs) ≡ true
    cases true f e g = ap (λ x. x || list_any (λ (r : List ℕ × Terminal). is_leaf r.1 && bytes_eq r.0 w) rs) (both_hold (is_leaf r.1) (bytes_eq r.0 w) e f)
    cases false f e g = or_right (is_leaf r.1 && bytes_eq r.0 w) _ (g e)

among_leaves : (w : List ℕ) → is_leaf (word_terminal w) ≡ true
    → (bytes_eq (codes "false") w || (bytes_eq (codes "null") w || (bytes_eq (codes "this") w || (bytes_eq (codes "true") w || false)))) ≡ true
unfolding word_terminal
among_leaves w e = leaf_word (rows ++ free_words) w e

-- where `this` is none
foreign_word : (place : Place) (bytes : List ℕ) (c d f : Bool) → bytes_eq bytes (codes "true") ≡ c → bytes_eq bytes (codes "false") ≡ d → bytes_eq bytes (codes "null") ≡ f
    → bytes_eq bytes (codes "this") ≡ false
    → (bytes_eq (codes "false") bytes || (bytes_eq (codes "null") bytes || (bytes_eq (codes "this") bytes || (bytes_eq (codes "true") bytes || false)))) ≡ true
    → Good place (cond c (expr.Lit (value.Bool true)) (cond d (expr.Lit (value.Bool false)) (cond f (word_leaf (codes "null")) expr.This))) leaf
foreign_word place bytes true d f x y z t h = true_good place
foreign_word place bytes false true f x y z t h = false_good place
foreign_word place bytes false false true x y z t h = null_good place
foreign_word place bytes false false false x y z t h =
    let yes = bytes_eq (codes "true") bytes in
    let this = bytes_eq (codes "this") bytes in
    let null = bytes_eq (codes "null") bytes in
    let none = no_left (bytes_eq (codes "false") bytes) (null || (this || (yes || false))) (turned bytes (codes "false") y)
    ∙ (no_left null (this || (yes || false)) (turned bytes (codes "null") z)
    ∙ (no_left this (yes || false) (turned bytes (codes "this") t) ∙ no_left yes false (turned bytes (codes "true") x))) in
    absurd (false≢true (sym none ∙ h))

foreign_place : (place : Place) → this_terminal place ≡ terminal.Stray → (k : Terminal) (bytes : List ℕ) → is_leaf k ≡ true → k ≡ seen place bytes kind.Word
    → Good place (word_leaf bytes) leaf
foreign_place place stray k bytes e s = cases (bytes_eq bytes (codes "this")) refl (ap is_leaf (sym s) ∙ e)
  where
    cases : (c : Bool) → bytes_eq bytes (codes "this") ≡ c → is_leaf (cond c (this_terminal place) (word_terminal bytes)) ≡ true → Good place (word_leaf bytes) leaf
    cases true f h = absurd (false≢true (sym (ap is_leaf stray) ∙ h))
    cases false f h = foreign_word place bytes (bytes_eq bytes (codes "true")) (bytes_eq bytes (codes "false")) (bytes_eq bytes (codes "null")) refl refl refl f (among_leaves bytes h)

word_good : (place : Place) (k : Terminal) (bytes : List ℕ) → is_leaf k ≡ true → k ≡ seen place bytes kind.Word → Good place (word_leaf bytes) leaf
word_good place_of.Script k bytes e s = foreign_place place_of.Script refl k bytes e s
word_good place_of.Query k bytes e s = foreign_place place_of.Query refl k bytes e s
word_good place_of.Change k bytes e s = foreign_place place_of.Change refl k bytes e s
word_good place_of.Comparison k bytes e s = foreign_place place_of.Comparison refl k bytes e s
word_good place_of.Class k bytes e s = own_word place_of.Class refl bytes
word_good place_of.Anywhere k bytes e s = own_word place_of.Anywhere refl bytes

-- ---- all leaves

pub is_a_text : (bytes : List ℕ) → is_text (text_of bytes) ≡ true
is_a_text bytes = cases (is_text bytes) refl
  where
    cases : (c : Bool) → is_text bytes ≡ c → is_text (cond c bytes []) ≡ true
    cases true e = e
    cases false e = refl

mark_no_leaf : (m : Mark) → is_leaf (mark_terminal m) ≡ false
mark_no_leaf mark.OpenBrace = refl
mark_no_leaf mark.CloseBrace = refl
mark_no_leaf mark.OpenParen = refl
mark_no_leaf mark.CloseParen = refl
mark_no_leaf mark.Semi = refl
mark_no_leaf mark.Comma = refl
mark_no_leaf mark.Dot = refl
mark_no_leaf mark.Colon = refl
mark_no_leaf mark.Assign = refl
mark_no_leaf mark.Equal = refl
mark_no_leaf mark.NotEqual = refl
mark_no_leaf mark.Less = refl
mark_no_leaf mark.LessEqual = refl
mark_no_leaf mark.Greater = refl
mark_no_leaf mark.GreaterEqual = refl
mark_no_leaf mark.Plus = refl
mark_no_leaf mark.Minus = refl
mark_no_leaf mark.Star = refl
mark_no_leaf mark.Slash = refl
mark_no_leaf mark.Percent = refl
mark_no_leaf mark.Not = refl
mark_no_leaf mark.AndAnd = refl
mark_no_leaf mark.OrOr = refl
mark_no_leaf mark.Arrow = refl

pub leaf_read : (place : Place) (k : Terminal) (kd : TokenKind) (bytes : List ℕ) → is_leaf k ≡ true → Sound place (record { terminal = k; kind = kd; bytes = bytes })
    → Good place (leaf_of kd bytes) leaf
leaf_read place k kind.Word bytes e s = word_good place k bytes e (seen_as is_leaf refl s e)
leaf_read place k (kind.Number n) bytes e s = let m = s.says in subst (λ z. Good place (expr.Lit (value.Int z)) leaf) (sym m.1) (int_good place m.0 m.2)
leaf_read place k kind.Text bytes e s = text_good place (text_of (content_of bytes)) (is_a_text (content_of bytes))
leaf_read place k (kind.Reference r) bytes e s = let m = s.says in reference_good place r m.0 m.1 (ap is_leaf (sym (seen_as is_leaf refl s e)) ∙ e)
leaf_read place k (kind.Mark m) bytes e s = absurd (false≢true (sym (mark_no_leaf m) ∙ (ap is_leaf (sym (seen_as is_leaf refl s e)) ∙ e)))
