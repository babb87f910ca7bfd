-- Expressions whose printed text is read as they are, no higher than they were read.
use Rattle.std.proofs.Common.{◌≡◌, ◌≤◌, ◌<◌, ◌^◌, ℕ, max, Bool, true, false, not, ◌||◌, cond, codes, map, ◌==◌, nat_le, ℤ, pos, List, [], ◌∷◌, ◌++◌, length, Option, Some, None, arith, refl, sym, ◌∙◌, ap, subst}
use Rattle.std.specs.List.{list_all, list_any}
use Rattle.std.specs.Str.{bytes_eq}
use Rattle.std.proofs.lemmas.Slice.Eq.{bytes_eq-Decides}
use Rattle.std.proofs.lemmas.Bool.{false≢true}
use Rattle.std.proofs.lemmas.Fmt.{decimal_is_IsNumeral}
use Rattle.ode_lex.specs.declared.token.Mark.TheVariants as mark
use Rattle.ode_lex.specs.declared.token.TokenKind.{TokenKind}
use Rattle.ode_lex.specs.declared.token.TokenKind.TheVariants as kind
use Rattle.ode_grammar.specs.declared.terminal.Terminal.{Terminal}
use Rattle.ode_grammar.specs.declared.terminal.Terminal.TheVariants as terminal
use Rattle.ode_grammar.specs.Terminals.{named as as_name}
use Rattle.ode_heights.specs.declared.height.Height.{Height}
use Rattle.ode_heights.specs.Heights.{above, leaf}
use Rattle.ode_terminals.specs.declared.seen.Place.{Place}
use Rattle.ode_terminals.specs.Seen.{between_quotes, instant_terminal, number_terminal, reference_terminal, seen, this_terminal}
use Rattle.ode_terminals.specs.Words.{free_words, looked_up, rows, word_terminal}
use Rattle.ode_timer.specs.Dates.{instant_of}
use Rattle.ode_value.specs.Limits.{choose_limit}
use Rattle.ode_value.specs.Decimal.{digits_of}
use Rattle.ode_value.specs.Text.{is_bad_byte}
use Rattle.ode_value.specs.Printing.{printed, printed_of, Printed}
use Rattle.ode_value.specs.References.{spelled_ref, IsRef}
use Rattle.ode_value.specs.Texts.{value_text}
use Rattle.ode_value.specs.Words.{is_free, is_word, reserved}
use Rattle.ode_value.specs.declared.operator.BinOp.{BinOp}
use Rattle.ode_value.specs.declared.operator.UnOp.{UnOp}
use Rattle.ode_value.specs.declared.statement.Expr.{Expr, fold-roll-Expr}
use Rattle.ode_value.specs.declared.statement.Expr.TheVariants as expr
use Rattle.ode_value.specs.declared.statement.Expr.TheOpen as shape
use Rattle.ode_value.specs.declared.value.Ref.{Ref}
use Rattle.ode_value.specs.declared.value.Value.{Value}
use Rattle.ode_value.specs.declared.value.Value.TheVariants as value
use Rattle.ode_value.proofs.Decimals.{number_begins}
use Rattle.ode_value.proofs.PrintLaws.{printed-Lit, printed-Name, printed-Binary}
use Rattle.ode_syntax.specs.Kept.{content_of, found, is_text, leaf_of, text_of, Spelled}
use Rattle.ode_relex.specs.Ends.{opens}
use Rattle.ode_relex.proofs.WordTokens.{both_true, either_false, is_false}
use Rattle.ode_relex.proofs.ReferenceTokens.{reference_token, spelled}
use Rattle.ode_relex.proofs.TextTokens.{text_content, text_token}
use Rattle.ode_relex.proofs.NumberTokens.{number_token}
use Rattle.ode_reread.proofs.Cuts.{spell}
use Rattle.ode_reread.proofs.Marked.{is_leaf, as_operand, bracketed, marked, operator_mark, sign_mark, IsNamed}
use Rattle.ode_reread.proofs.Prints.{binary_prints, field_prints, leaf_prints, named_prints, unary_prints, version_prints, Prints}
use Rattle.ode_reread.proofs.Spells.{binary_spells, digits_open, ends_stops, field_spells, operand_spells, token_spells, unary_spells, version_spells, word_spells, Spells}

-- ---- printed trees by their form

printed-This : printed expr.This ≡ record { text = codes "this"; is_operator = false }
unfolding printed
printed-This = ap printed (sym expr.rolls-This) ∙ fold-roll-Expr Printed printed_of shape.This

printed-Field : (e : Expr) (name : List ℕ) (p : Printed) → printed e ≡ p → printed (expr.Field e name) ≡ printed_of (shape.Field p name)
unfolding printed
printed-Field e name p is =
    ap printed (sym (expr.rolls-Field e name)) ∙ (fold-roll-Expr Printed printed_of (shape.Field e name) ∙ ap (λ q. printed_of (shape.Field q name)) is)

printed-Version : (e : Expr) (p : Printed) → printed e ≡ p → printed (expr.Version e) ≡ printed_of (shape.Version p)
unfolding printed
printed-Version e p is =
    ap printed (sym (expr.rolls-Version e)) ∙ (fold-roll-Expr Printed printed_of (shape.Version e) ∙ ap (λ q. printed_of (shape.Version q)) is)

printed-Unary : (op : UnOp) (e : Expr) (p : Printed) → printed e ≡ p → printed (expr.Unary op e) ≡ printed_of (shape.Unary op p)
unfolding printed
printed-Unary op e p is =
    ap printed (sym (expr.rolls-Unary op e)) ∙ (fold-roll-Expr Printed printed_of (shape.Unary op e) ∙ ap (λ q. printed_of (shape.Unary op q)) is)

-- ---- what is good

abbrev pub shown_as : List ℕ → Bool → Printed
shown_as text is_operator = record { text = text; is_operator = is_operator }

pub record Good (place : Place) (e : Expr) (h : Height) : Type 0 where
  pub text : List ℕ
  pub is_operator : Bool
  pub shown : printed e ≡ shown_as text is_operator
  pub low : Height
  pub tokens : List Spelled
  pub spells : Spells place text tokens
  pub prints : Prints e is_operator low tokens
  pub no_higher : low.own ≤ h.own

-- what is read higher is good as well
pub good_up : (place : Place) (e : Expr) (h k : Height) → h.own ≤ k.own → Good place e h → Good place e k
good_up place e h k l g = let m = g.no_higher in record {
  text = g.text;
  is_operator = g.is_operator;
  shown = g.shown;
  low = g.low;
  tokens = g.tokens;
  spells = g.spells;
  prints = g.prints;
  no_higher = omega arith;
}

-- ---- leaves

leaf_good : (place : Place) (e : Expr) (k : TokenKind) (text : List ℕ) → printed e ≡ shown_as text false → is_leaf (seen place text k) ≡ true → leaf_of k text ≡ e
    → Spells place text (spell place k text ∷ []) → Good place e leaf
leaf_good place e k text shown is_leaf says spells = record {
  text = text;
  is_operator = false;
  shown = shown;
  low = leaf;
  tokens = spell place k text ∷ [];
  spells = spells;
  prints = leaf_prints e (spell place k text) (record { seen = is_leaf; says = says });
  no_higher = omega arith;
}

pub this_good : (place : Place) → this_terminal place ≡ terminal.Leaf → Good place expr.This leaf
this_good place own = leaf_good place expr.This kind.Word (codes "this") printed-This (ap is_leaf own) refl (word_spells place (codes "this") refl)

pub true_good : (place : Place) → Good place (expr.Lit (value.Bool true)) leaf
unfolding word_terminal
true_good place = leaf_good place (expr.Lit (value.Bool true)) kind.Word (codes "true") (printed-Lit (value.Bool true)) refl refl (word_spells place (codes "true") refl)

pub false_good : (place : Place) → Good place (expr.Lit (value.Bool false)) leaf
unfolding word_terminal
false_good place = leaf_good place (expr.Lit (value.Bool false)) kind.Word (codes "false") (printed-Lit (value.Bool false)) refl refl (word_spells place (codes "false") refl)

abbrev pub null : Value
null = value.Reference (record { object = 0; version = None })

pub null_good : (place : Place) → Good place (expr.Lit null) leaf
unfolding word_terminal
null_good place = leaf_good place (expr.Lit null) kind.Word (codes "null") (printed-Lit null) refl refl (word_spells place (codes "null") refl)

leaf_either : (c : Bool) (x y : Terminal) → is_leaf x ≡ true → is_leaf y ≡ true → is_leaf (cond c x y) ≡ true
leaf_either true x y e f = e
leaf_either false x y e f = f

number_is_leaf : (n : ℕ) → is_leaf (number_terminal (pos n)) ≡ true
number_is_leaf n =
    leaf_either (n == 0 || nat_le (2 ^ 32) n) terminal.Number (cond (nat_le n choose_limit) terminal.Count terminal.Seconds) refl
    (leaf_either (nat_le n choose_limit) terminal.Count terminal.Seconds refl refl)

pub int_good : (place : Place) (n : ℕ) → n < 2 ^ 63 → Good place (expr.Lit (value.Int (pos n))) leaf
int_good place n small =
    let fits : n < 2 ^ 64 = omega arith in
    leaf_good place (expr.Lit (value.Int (pos n))) (kind.Number (pos n)) (digits_of n) (printed-Lit (value.Int (pos n))) (number_is_leaf n) refl
    (token_spells place (kind.Number (pos n)) (digits_of n) (digits_open (digits_of n) (number_begins n fits).some (decimal_is_IsNumeral n fits).0.1)
    (λ rest e. number_token n rest small (ends_stops rest e)))

text_is_leaf : (o : Option ℤ) → is_leaf (instant_terminal o) ≡ true
text_is_leaf None = refl
text_is_leaf (Some n) = refl

pub text_says : (t : List ℕ) → is_text t ≡ true → text_of (content_of (value_text (value.Text t))) ≡ t
unfolding content_of
text_says t h =
    let x = both_true (nat_le (length t) 2048) (list_all (λ b. not (is_bad_byte b)) t) h in
    ap (λ o. text_of (found o)) (text_content t [] x.1) ∙ ap (λ c. cond c t []) h

pub text_good : (place : Place) (t : List ℕ) → is_text t ≡ true → Good place (expr.Lit (value.Text t)) leaf
text_good place t h =
    leaf_good place (expr.Lit (value.Text t)) kind.Text (value_text (value.Text t)) (printed-Lit (value.Text t))
    (text_is_leaf (instant_of (between_quotes (value_text (value.Text t))))) (ap (λ s. expr.Lit (value.Text s)) (text_says t h))
    (token_spells place kind.Text (value_text (value.Text t)) refl (λ rest e. text_token t rest h))

pub reference_good : (place : Place) (r : Ref) → 0 < r.object → IsRef r → is_leaf (reference_terminal place) ≡ true → Good place (expr.Lit (value.Reference r)) leaf
reference_good place r some h e =
    leaf_good place (expr.Lit (value.Reference r)) (kind.Reference r) (spelled_ref r) (printed-Lit (value.Reference r)) e refl
    (token_spells place (kind.Reference r) (spelled_ref r) (ap opens (spelled r some)) (λ rest f. reference_token r rest h some (ends_stops rest f)))

-- ---- names

pub free_word : (name : List ℕ) → is_free name ≡ true → is_word name ≡ true
free_word name h = (both_true _ _ h).0

-- a free word is in no row of the table of reserved ones
not_looked_up : (rs more : List (List ℕ × Terminal)) (w : List ℕ) → list_any (λ x. bytes_eq x w) (map (λ (r : List ℕ × Terminal). r.0) rs) ≡ false
    → looked_up (rs ++ more) w ≡ looked_up more w
not_looked_up [] more w e = refl
not_looked_up (r ∷ rs) more w e =
    let x = either_false (bytes_eq r.0 w) (list_any (λ x. bytes_eq x w) (map (λ (r : List ℕ × Terminal). r.0) rs)) e in
    ap (λ c. cond c r.1 (looked_up (rs ++ more) w)) x.0 ∙ not_looked_up rs more w x.1

words_reserved : (w : List ℕ) → list_any (λ x. bytes_eq x w) reserved ≡ list_any (λ x. bytes_eq x w) (map (λ (r : List ℕ × Terminal). r.0) rows)
unfolding reserved
words_reserved w = refl

-- behind those rows are only words that are names
named_either : (c : Bool) (x y : Terminal) → as_name x ≡ terminal.Name → as_name y ≡ terminal.Name → as_name (cond c x y) ≡ terminal.Name
named_either true x y e f = e
named_either false x y e f = f

free_words_named : (w : List ℕ) → as_name (looked_up free_words w) ≡ terminal.Name
free_words_named w =
    named_either (bytes_eq (codes "by") w) _ _ refl
    (named_either (bytes_eq (codes "change") w) _ _ refl (named_either (bytes_eq (codes "faabs") w) _ _ refl (named_either (bytes_eq (codes "for") w) _ _ refl
    (named_either (bytes_eq (codes "in") w) _ _ refl (named_either (bytes_eq (codes "pipe") w) _ _ refl (named_either (bytes_eq (codes "relplus") w) _ _ refl
    (named_either (bytes_eq (codes "same") w) _ _ refl (named_either (bytes_eq (codes "suchthat") w) _ _ refl refl))))))))

free_is_name : (w : List ℕ) → list_any (λ x. bytes_eq x w) reserved ≡ false → as_name (word_terminal w) ≡ terminal.Name
unfolding word_terminal
free_is_name w e = ap as_name (not_looked_up rows free_words w (sym (words_reserved w) ∙ e)) ∙ free_words_named w

pub turned : (a b : List ℕ) → bytes_eq a b ≡ false → bytes_eq b a ≡ false
turned a b e = cases (bytes_eq b a) refl
  where
    cases : (c : Bool) → bytes_eq b a ≡ c → c ≡ false
    cases true f = absurd (false≢true (sym e ∙ (bytes_eq-Decides a b).1 (sym ((bytes_eq-Decides b a).0 f))))
    cases false f = refl

-- a word among the reserved ones isn't free
not_among : (a w : List ℕ) (ws : List (List ℕ)) → list_any (λ x. bytes_eq x a) ws ≡ true → list_any (λ x. bytes_eq x w) ws ≡ false → bytes_eq a w ≡ false
not_among a w [] h e = absurd (false≢true h)
not_among a w (v ∷ ws) h e =
    let x = either_false (bytes_eq v w) (list_any (λ x. bytes_eq x w) ws) e in
    cases (bytes_eq v a) refl h x (λ k. not_among a w ws k x.1)
  where
    cases : (c : Bool) → bytes_eq v a ≡ c → (c || list_any (λ x. bytes_eq x a) ws) ≡ true
        → (bytes_eq v w ≡ false) × (list_any (λ x. bytes_eq x w) ws ≡ false) → (list_any (λ x. bytes_eq x a) ws ≡ true → bytes_eq a w ≡ false) → bytes_eq a w ≡ false
    cases true f h x g = subst (λ u. bytes_eq u w ≡ false) ((bytes_eq-Decides v a).0 f) x.0
    cases false f h x g = g h

-- `this` is reserved
this_among : (w : List ℕ) → list_any (λ x. bytes_eq x w) reserved ≡ false → bytes_eq (codes "this") w ≡ false
unfolding reserved
this_among w e = not_among (codes "this") w reserved refl e

pub named : (place : Place) (name : List ℕ) → is_free name ≡ true → IsNamed (spell place kind.Word name) name
named place name h =
    let x = both_true (is_word name) (not (list_any (λ x. bytes_eq x name) reserved)) h in
    let free = is_false (list_any (λ x. bytes_eq x name) reserved) x.1 in
    record {
      seen = ap (λ c. as_name (cond c (this_terminal place) (word_terminal name))) (turned (codes "this") name (this_among name free)) ∙ free_is_name name free;
      says = ap (λ c. cond c name (codes "x")) h;
    }

pub name_good : (place : Place) (name : List ℕ) → is_free name ≡ true → Good place (expr.Name name) leaf
name_good place name h = record {
  text = name;
  is_operator = false;
  shown = printed-Name name;
  low = leaf;
  tokens = spell place kind.Word name ∷ [];
  spells = word_spells place name (free_word name h);
  prints = named_prints name (spell place kind.Word name) (named place name h);
  no_higher = omega arith;
}

-- ---- operators

pub field_good : (place : Place) (e : Expr) (h : Height) (name : List ℕ) → is_free name ≡ true → Good place e h → Good place (expr.Field e name) (above h.own)
field_good place e h name f g = let m = g.no_higher in record {
  text = cond g.is_operator (codes "(" ++ g.text ++ codes ")") g.text ++ codes "." ++ name;
  is_operator = false;
  shown = printed-Field e name (shown_as g.text g.is_operator) g.shown;
  low = above g.low.own;
  tokens = as_operand g.is_operator g.tokens ++ marked mark.Dot ∷ spell place kind.Word name ∷ [];
  spells = field_spells place _ name _ (free_word name f) (operand_spells place g.is_operator g.text g.tokens g.spells);
  prints = field_prints e g.is_operator g.low g.tokens name (spell place kind.Word name) g.prints (named place name f);
  no_higher = omega arith;
}

pub version_good : (place : Place) (e : Expr) (h : Height) → Good place e h → Good place (expr.Version e) (above h.own)
unfolding word_terminal
version_good place e h g = let m = g.no_higher in record {
  text = codes "version" ++ (codes "(" ++ g.text ++ codes ")");
  is_operator = false;
  shown = printed-Version e (shown_as g.text g.is_operator) g.shown;
  low = above g.low.own;
  tokens = spell place kind.Word (codes "version") ∷ bracketed g.tokens;
  spells = version_spells place g.text g.tokens g.spells;
  prints = version_prints e g.is_operator g.low g.tokens (spell place kind.Word (codes "version")) refl g.prints;
  no_higher = omega arith;
}

pub unary_good : (place : Place) (op : UnOp) (e : Expr) (h : Height) → Good place e h → Good place (expr.Unary op e) (above h.own)
unary_good place op e h g = let m = g.no_higher in record {
  text = _;
  is_operator = true;
  shown = printed-Unary op e (shown_as g.text g.is_operator) g.shown;
  low = above g.low.own;
  tokens = marked (sign_mark op) ∷ as_operand g.is_operator g.tokens;
  spells = unary_spells place op _ _ (operand_spells place g.is_operator g.text g.tokens g.spells);
  prints = unary_prints op e g.is_operator g.low g.tokens g.prints;
  no_higher = omega arith;
}

pub binary_good : (place : Place) (op : BinOp) (e f : Expr) (h k : Height) → Good place e h → Good place f k → Good place (expr.Binary op e f) (above (max h.own k.own))
binary_good place op e f h k g r = let m = g.no_higher in let n = r.no_higher in record {
  text = _;
  is_operator = true;
  shown = printed-Binary op e f (shown_as g.text g.is_operator) (shown_as r.text r.is_operator) g.shown r.shown;
  low = above (max g.low.own r.low.own);
  tokens = as_operand g.is_operator g.tokens ++ marked (operator_mark op) ∷ as_operand r.is_operator r.tokens;
  spells = binary_spells place op _ _ _ _ (operand_spells place g.is_operator g.text g.tokens g.spells) (operand_spells place r.is_operator r.text r.tokens r.spells);
  prints = binary_prints op e f g.is_operator r.is_operator g.low r.low g.tokens r.tokens g.prints r.prints;
  no_higher = omega arith;
}
