-- Event expressions as texts that are cut into their tokens.
use Rattle.std.proofs.Common.{◌≡◌, ◌<◌, ◌^◌, ℕ, true, codes, pos, List, [], ◌∷◌, ◌++◌, arith, refl, ◌∙◌, ap, append_assoc}
use Rattle.std.proofs.lemmas.Fmt.{decimal_is_IsNumeral}
use Rattle.ode_lex.specs.declared.token.Mark.TheVariants as mark
use Rattle.ode_lex.specs.declared.token.TokenKind.TheVariants as kind
use Rattle.ode_terminals.specs.declared.seen.Place.{Place}
use Rattle.ode_value.specs.Decimal.{digits_of}
use Rattle.ode_value.specs.Printing.{in_brackets}
use Rattle.ode_value.specs.Words.{is_word}
use Rattle.ode_value.proofs.Decimals.{number_begins}
use Rattle.ode_syntax.specs.Kept.{Spelled}
use Rattle.ode_relex.proofs.NumberTokens.{number_token}
use Rattle.ode_reread.proofs.Cuts.{spell}
use Rattle.ode_reread.proofs.Marked.{bracketed, marked}
use Rattle.ode_reread.proofs.Spells.{a_blank, a_mark, a_word, brackets_spell, digits_open, ends_stops, opens_append, opens_blank, opens_marks, recut, token_spells, word_opens, Spells}

-- a word, a blank and a text
pub words_spell : (place : Place) (w text : List ℕ) (ts : List Spelled) → is_word w ≡ true → Spells place text ts
    → Spells place (w ++ 32 ∷ text) (spell place kind.Word w ∷ ts)
words_spell place w text ts h s = record {
  begins = opens_append w (32 ∷ text) (word_opens w h);
  cuts = λ rest us e c.
      recut (append_assoc w (32 ∷ text) rest) refl
      (a_word w h refl (a_blank (opens_blank (text ++ rest) (opens_append text rest s.begins)) (s.cuts rest us e c)));
}

-- a word directly before a text in brackets
pub call_spells : (place : Place) (w text : List ℕ) (ts : List Spelled) → is_word w ≡ true → Spells place text ts
    → Spells place (w ++ in_brackets text) (spell place kind.Word w ∷ bracketed ts)
call_spells place w text ts h s = record {
  begins = opens_append w (in_brackets text) (word_opens w h);
  cuts = λ rest us e c. recut (append_assoc w (in_brackets text) rest) refl (a_word w h refl ((brackets_spell place text ts s).cuts rest us e c));
}

-- two texts with a comma and a blank between them
pub comma_spells : (place : Place) (x y : List ℕ) (ts us : List Spelled) → Spells place x ts → Spells place y us
    → Spells place (x ++ codes ", " ++ y) (ts ++ marked mark.Comma ∷ us)
comma_spells place x y ts us s t = record {
  begins = opens_append (x ++ codes ", ") y (opens_append x (codes ", ") s.begins);
  cuts = λ rest vs e c.
      let second = a_blank (opens_blank (y ++ rest) (opens_append y rest t.begins)) (t.cuts rest vs e c) in
      recut (append_assoc (x ++ codes ", ") y rest ∙ append_assoc x (codes ", ") (y ++ rest))
      (append_assoc ts (marked mark.Comma ∷ us) vs) (s.cuts (44 ∷ 32 ∷ (y ++ rest)) _ refl (a_mark mark.Comma refl second));
}

-- two texts with a word between them
pub between_spells : (place : Place) (w x y : List ℕ) (ts us : List Spelled) → is_word w ≡ true → Spells place x ts → Spells place y us
    → Spells place (x ++ (32 ∷ (w ++ 32 ∷ [])) ++ y) (ts ++ spell place kind.Word w ∷ us)
between_spells place w x y ts us h s t = record {
  begins = opens_append (x ++ (32 ∷ (w ++ 32 ∷ []))) y (opens_append x (32 ∷ (w ++ 32 ∷ [])) s.begins);
  cuts = λ rest vs e c.
      let second = a_blank (opens_blank (y ++ rest) (opens_append y rest t.begins)) (t.cuts rest vs e c) in
      let word = a_word w h refl second in
      let blank = a_blank (opens_blank (w ++ 32 ∷ (y ++ rest)) (opens_append w (32 ∷ (y ++ rest)) (word_opens w h))) word in
      recut (append_assoc (x ++ (32 ∷ (w ++ 32 ∷ []))) y rest ∙ (append_assoc x (32 ∷ (w ++ 32 ∷ [])) (y ++ rest) ∙ ap (λ zs. x ++ (32 ∷ zs)) (append_assoc w (32 ∷ []) (y ++ rest))))
      (append_assoc ts (spell place kind.Word w ∷ us) vs) (s.cuts (32 ∷ (w ++ 32 ∷ (y ++ rest))) _ refl blank);
}

-- a text and a mask
pub mask_spells : (place : Place) (x y : List ℕ) (ts us : List Spelled) → Spells place x ts → Spells place y us
    → Spells place (x ++ (codes " && " ++ y)) (ts ++ marked mark.AndAnd ∷ us)
mask_spells place x y ts us s t = record {
  begins = opens_append x (codes " && " ++ y) s.begins;
  cuts = λ rest vs e c.
      let second = a_blank (opens_blank (y ++ rest) (opens_append y rest t.begins)) (t.cuts rest vs e c) in
      recut (append_assoc x (codes " && " ++ y) rest) (append_assoc ts (marked mark.AndAnd ∷ us) vs)
      (s.cuts (codes " && " ++ (y ++ rest)) _ refl (a_blank refl (a_mark mark.AndAnd refl second)));
}

-- a `!` before a text
pub not_spells : (place : Place) (x : List ℕ) (ts : List Spelled) → Spells place x ts → Spells place (codes "!" ++ x) (marked mark.Not ∷ ts)
not_spells place x ts s = record {
  begins = refl;
  cuts = λ rest us e c. a_mark mark.Not (opens_marks (x ++ rest) (opens_append x rest s.begins)) (s.cuts rest us e c);
}

-- a number
pub number_spells : (place : Place) (n : ℕ) → n < 2 ^ 63 → Spells place (digits_of n) (spell place (kind.Number (pos n)) (digits_of n) ∷ [])
number_spells place n small =
    let fits : n < 2 ^ 64 = omega arith in
    token_spells place (kind.Number (pos n)) (digits_of n) (digits_open (digits_of n) (number_begins n fits).some (decimal_is_IsNumeral n fits).0.1)
    (λ rest e. number_token n rest small (ends_stops rest e))

-- a number, a blank and a text in brackets
pub counted_spells : (place : Place) (n : ℕ) (text : List ℕ) (ts : List Spelled) → n < 2 ^ 63 → Spells place text ts
    → Spells place (digits_of n ++ codes " " ++ in_brackets text) (spell place (kind.Number (pos n)) (digits_of n) ∷ bracketed ts)
counted_spells place n text ts small s =
    let number = number_spells place n small in
    record {
      begins = opens_append (digits_of n ++ codes " ") (in_brackets text) (opens_append (digits_of n) (codes " ") number.begins);
      cuts = λ rest us e c.
          let inner = a_blank refl ((brackets_spell place text ts s).cuts rest us e c) in
          recut (append_assoc (digits_of n ++ codes " ") (in_brackets text) rest ∙ append_assoc (digits_of n) (codes " ") (in_brackets text ++ rest)) refl
          (number.cuts (32 ∷ (in_brackets text ++ rest)) _ refl inner);
    }
