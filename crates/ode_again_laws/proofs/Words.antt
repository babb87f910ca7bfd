-- Words, and what the grammar sees of them.
use Rattle.std.proofs.Common.{◌≡◌, ℕ, ℤ, pos, negsuc, ◌^◌, Bool, true, false, not, ◌||◌, ◌==◌, cond, nat_le, codes, List, [], ◌∷◌, ◌++◌, Option, Some, None, refl, sym, ◌∙◌, ap, subst}
use Rattle.std.specs.List.{list_all}
use Rattle.std.specs.Str.{bytes_eq}
use Rattle.std.proofs.lemmas.Bool.{and_parts, false≢true}
use Rattle.std.proofs.lemmas.Slice.Eq.{bytes_eq-Decides}
use Rattle.ode_lex.specs.declared.token.Mark.{Mark}
use Rattle.ode_lex.specs.declared.token.Mark.TheVariants as mark
use Rattle.ode_lex.specs.declared.token.TokenKind.{TokenKind}
use Rattle.ode_lex.specs.declared.token.TokenKind.TheVariants as kind
use Rattle.ode_grammar.specs.declared.terminal.Terminal.{Terminal}
use Rattle.ode_grammar.specs.declared.terminal.Terminal.TheVariants as terminal
use Rattle.ode_terminals.specs.declared.seen.Place.{Place}
use Rattle.ode_terminals.specs.declared.seen.Place.TheVariants as place_of
use Rattle.ode_terminals.specs.Seen.{between_quotes, instant_terminal, mark_terminal, number_terminal, reference_terminal, seen, this_terminal}
use Rattle.ode_terminals.specs.Words.{free_words, looked_up, rows, word_terminal}
use Rattle.ode_timer.specs.Dates.{instant_of}
use Rattle.ode_value.specs.Limits.{choose_limit}
use Rattle.ode_reread.proofs.Sounds.{either}

-- ---- the table of words

-- where each row whose terminal passes has a word that passes, so has what is looked up
looked_test : (p : Terminal → Bool) (q : List ℕ → Bool) (rs : List (List ℕ × Terminal)) (w : List ℕ) → list_all (λ (r : List ℕ × Terminal). not (p r.1) || q r.0) rs ≡ true
    → p terminal.Name ≡ false → p (looked_up rs w) ≡ true → q w ≡ true
looked_test p q [] w all none e = absurd (false≢true (sym none ∙ e))
looked_test p q (r ∷ rs) w all none e =
    let x = and_parts (not (p r.1) || q r.0) (list_all (λ (r : List ℕ × Terminal). not (p r.1) || q r.0) rs) all in
    by_test (bytes_eq r.0 w) refl x.0 e (looked_test p q rs w x.1 none)
  where
    here : (a b : Bool) → (not a || b) ≡ true → a ≡ true → b ≡ true
    here true b h e = h
    here false b h e = absurd (false≢true e)

    by_test : (b : Bool) → bytes_eq r.0 w ≡ b → (not (p r.1) || q r.0) ≡ true → p (cond b r.1 (looked_up rs w)) ≡ true → (p (looked_up rs w) ≡ true → q w ≡ true) → q w ≡ true
    by_test true f one g past = subst (λ u. q u ≡ true) ((bytes_eq-Decides r.0 w).0 f) (here (p r.1) (q r.0) one g)
    by_test false f one g past = past g

-- ---- what a token is seen as

-- a test that only words and marks pass
pub record IsSpecial (p : Terminal → Bool) : Type 0 where
  pub leaf : p terminal.Leaf ≡ false
  pub stray : p terminal.Stray ≡ false
  pub number : p terminal.Number ≡ false
  pub count : p terminal.Count ≡ false
  pub seconds : p terminal.Seconds ≡ false
  pub text : p terminal.Text ≡ false
  pub instant : p terminal.Instant ≡ false

pub data Shown (p : Terminal → Bool) (bytes : List ℕ) : TokenKind → Type 0 where
  AWord : p (word_terminal bytes) ≡ true → Shown p bytes kind.Word
  AMark : (m : Mark) → p (mark_terminal m) ≡ true → Shown p bytes (kind.Mark m)

module _ (p : Terminal → Bool) (is : IsSpecial p) where
  this_none : (place : Place) → p (this_terminal place) ≡ false
  this_none place_of.Script = is.stray
  this_none place_of.Change = is.stray
  this_none place_of.Query = is.stray
  this_none place_of.Comparison = is.stray
  this_none place_of.Class = is.leaf
  this_none place_of.Anywhere = is.leaf

  reference_none : (place : Place) → p (reference_terminal place) ≡ false
  reference_none place_of.Script = is.leaf
  reference_none place_of.Class = is.stray
  reference_none place_of.Change = is.stray
  reference_none place_of.Query = is.leaf
  reference_none place_of.Comparison = is.stray
  reference_none place_of.Anywhere = is.leaf

  number_none : (n : ℤ) → p (number_terminal n) ≡ false
  number_none (pos n) =
      either p (n == 0 || nat_le (2 ^ 32) n) terminal.Number (cond (nat_le n choose_limit) terminal.Count terminal.Seconds) is.number
      (either p (nat_le n choose_limit) terminal.Count terminal.Seconds is.count is.seconds)
  number_none (negsuc n) = is.number

  text_none : (o : Option ℤ) → p (instant_terminal o) ≡ false
  text_none None = is.text
  text_none (Some n) = is.instant

  pub shown : (place : Place) (bytes : List ℕ) (k : TokenKind) → p (seen place bytes k) ≡ true → Shown p bytes k
  shown place bytes kind.Word e = AWord (by_test (bytes_eq bytes (codes "this")) e) where
    by_test : (b : Bool) → p (cond b (this_terminal place) (word_terminal bytes)) ≡ true → p (word_terminal bytes) ≡ true
    by_test true f = absurd (false≢true (sym (this_none place) ∙ f))
    by_test false f = f
  shown place bytes (kind.Number n) e = absurd (false≢true (sym (number_none n) ∙ e))
  shown place bytes kind.Text e = absurd (false≢true (sym (text_none (instant_of (between_quotes bytes))) ∙ e))
  shown place bytes (kind.Reference r) e = absurd (false≢true (sym (reference_none place) ∙ e))
  shown place bytes (kind.Mark m) e = AMark m e

-- ---- `class`

abbrev pub is_class : Terminal → Bool
is_class terminal.Class = true
is_class other = false

class_special : IsSpecial is_class
class_special = record { leaf = refl; stray = refl; number = refl; count = refl; seconds = refl; text = refl; instant = refl }

no_class_mark : (m : Mark) → is_class (mark_terminal m) ≡ false
no_class_mark mark.Semi = refl
no_class_mark other = refl

class_shown : (bytes : List ℕ) {k : TokenKind} → Shown is_class bytes k → bytes_eq bytes (codes "class") ≡ true
unfolding word_terminal
class_shown bytes (AWord e) = looked_test is_class (λ w. bytes_eq w (codes "class")) (rows ++ free_words) bytes refl refl e
class_shown bytes (AMark n e) = absurd (false≢true (sym (no_class_mark n) ∙ e))

pub class_bytes : (place : Place) (bytes : List ℕ) (k : TokenKind) → seen place bytes k ≡ terminal.Class → bytes_eq bytes (codes "class") ≡ true
class_bytes place bytes k e = class_shown bytes (shown is_class class_special place bytes k (ap is_class e))
