-- A printed instant is read as the kind of point that it is.
use Rattle.std.proofs.Common.{◌≡◌, ◌<◌, ℕ, ◌+◌, ◌-◌, ◌/◌, ◌%◌, ℤ, pos, Bool, true, false, not, ◌&&◌, ◌||◌, ◌==◌, cond, codes, nat_le, List, [], ◌∷◌, ◌++◌, length, take, Option, Some, None, option_map, arith, refl, sym, ◌∙◌, ap, subst, length-append}
use Rattle.std.specs.List.{flat_map, list_all}
use Rattle.std.specs.Str.{bytes_eq}
use Rattle.std.proofs.lemmas.Bool.Decides.{nat_tests}
use Rattle.std.proofs.lemmas.Slice.Eq.{bytes_eq-Decides}
use Rattle.ode_lex.specs.declared.token.TokenKind.TheVariants as kind
use Rattle.ode_grammar.specs.declared.item.Item.TheVariants as item
use Rattle.ode_grammar.specs.declared.item.Part.TheVariants as part
use Rattle.ode_grammar.specs.declared.terminal.Terminal.TheVariants as terminal
use Rattle.ode_grammar.specs.Terminals.{named}
use Rattle.ode_terminals.specs.declared.seen.Place.{Place}
use Rattle.ode_terminals.specs.Seen.{between_quotes, instant_terminal}
use Rattle.ode_timer.specs.Dates.{date_in, days_before, instant_of, is_real, second_of as second_of_date, spelled as spelled_date}
use Rattle.ode_value.specs.Instants.{digit, instant_text, two_digits}
use Rattle.ode_value.specs.Text.{is_bad_byte}
use Rattle.ode_value.specs.Texts.{escaped, value_text}
use Rattle.ode_value.specs.declared.event.Kind.TheVariants as point
use Rattle.ode_value.specs.declared.statement.Expr.TheVariants as expr
use Rattle.ode_value.specs.declared.value.Value.TheVariants as value
use Rattle.ode_syntax.specs.Built.{or_zero}
use Rattle.ode_syntax.specs.Kept.{content_of, kept_as, text_of}
use Rattle.ode_relex.specs.Ends.{is_text, IsToken}
use Rattle.ode_relex.proofs.TextTokens.{text_token}
use Rattle.ode_relex.proofs.WordTokens.{both_true, is_false}
use Rattle.ode_instants.proofs.InstantTexts.{text_again}
use Rattle.ode_reread.proofs.Both.{keep, Both}
use Rattle.ode_reread.proofs.CutTexts.{take_front}
use Rattle.ode_reread.proofs.Cuts.{spell}
use Rattle.ode_reread.proofs.EventGoods.{is_at, is_time, GoodInstants, GoodKind}
use Rattle.ode_reread.proofs.EventPrints.{at_tail, kind_prints, time_begins, with_leaf_on, IsInstant}
use Rattle.ode_reread.proofs.EventSpells.{words_spell}
use Rattle.ode_reread.proofs.Goods.{text_says}
use Rattle.ode_reread.proofs.Spells.{token_spells, Spells}

-- a byte of a text that isn't escaped
abbrev plain : ℕ → Bool
plain b = not (is_bad_byte b) && not (b == 34 || b == 92)

and_true : (b c : Bool) → b ≡ true → c ≡ true → (b && c) ≡ true
and_true b c e f = ap (λ x. x && c) e ∙ f

all_append : (p : ℕ → Bool) (xs ys : List ℕ) → list_all p xs ≡ true → list_all p ys ≡ true → list_all p (xs ++ ys) ≡ true
all_append p [] ys e f = f
all_append p (x ∷ xs) ys e f =
    let h = both_true (p x) (list_all p xs) e in
    and_true (p x) (list_all p (xs ++ ys)) h.0 (all_append p xs ys h.1 f)

all_weaker : (p q : ℕ → Bool) → ((b : ℕ) → p b ≡ true → q b ≡ true) → (xs : List ℕ) → list_all p xs ≡ true → list_all q xs ≡ true
all_weaker p q f [] e = refl
all_weaker p q f (x ∷ xs) e =
    let h = both_true (p x) (list_all p xs) e in
    and_true (q x) (list_all q xs) (f x h.0) (all_weaker p q f xs h.1)

plain_digit : (k : ℕ) → k < 10 → plain (48 + k) ≡ true
plain_digit k l = grind (arith, nat_tests)

digit_plain : (n : ℕ) → plain (digit n) ≡ true
digit_plain n = plain_digit (n % 10) (omega arith)

two_plain : (n : ℕ) → list_all plain (two_digits n) ≡ true
two_plain n = and_true (plain (digit (n / 10))) (plain (digit n) && true) (digit_plain (n / 10)) (and_true (plain (digit n)) true (digit_plain n) refl)

record Plain (xs : List ℕ) : Type 0 where
  pub each : list_all plain xs ≡ true

joined : {xs ys : List ℕ} → Plain xs → Plain ys → Plain (xs ++ ys)
joined {xs = xs} {ys = ys} f g = record { each = all_append plain xs ys f.each g.each }

two : (n : ℕ) → Plain (two_digits n)
two n = record { each = two_plain n }

mark : (xs : List ℕ) → list_all plain xs ≡ true → Plain xs
mark xs e = record { each = e }

date_plain : (t : List ℕ) → Plain (spelled_date (date_in t))
date_plain t =
    let d = date_in t in
    let year : Plain (two_digits (d.year / 100) ++ two_digits d.year) = joined (two (d.year / 100)) (two d.year) in
    let day = joined (joined (joined (joined year (mark (codes "-") refl)) (two d.month)) (mark (codes "-") refl)) (two d.day) in
    let hour = joined (joined day (mark (codes "T") refl)) (two d.hour) in
    let minute = joined (joined hour (mark (codes ":") refl)) (two d.minute) in
    joined (joined (joined minute (mark (codes ":") refl)) (two d.second)) (mark (codes "Z") refl)

spelled_plain : (t : List ℕ) → list_all plain (spelled_date (date_in t)) ≡ true
spelled_plain t = (date_plain t).each

-- ---- the text of an instant

some_test : {D : Type 0} (c : Bool) (d : D) (f : D → ℤ) (s : ℤ) → option_map f (cond c (Some d) None) ≡ Some s → c ≡ true
some_test true d f s e = refl
some_test false d f s e = absurd (cc)

-- it spells a date
spells_date : (t : List ℕ) (s : ℤ) → instant_of t ≡ Some s → t ≡ spelled_date (date_in t)
unfolding instant_of
spells_date t s e =
    let x = some_test (bytes_eq t (spelled_date (date_in t)) && is_real (date_in t)) (date_in t) second_of_date s e in
    let y = both_true (bytes_eq t (spelled_date (date_in t))) (is_real (date_in t)) x in
    (bytes_eq-Decides t (spelled_date (date_in t))).0 y.0

short : (t : List ℕ) → nat_le (length (spelled_date (date_in t))) 2048 ≡ true
short t = refl

no_bad : (b : ℕ) → plain b ≡ true → not (is_bad_byte b) ≡ true
no_bad b e = (both_true (not (is_bad_byte b)) (not (b == 34 || b == 92)) e).0

date_is_text : (t : List ℕ) → is_text (spelled_date (date_in t)) ≡ true
date_is_text t =
    let d = spelled_date (date_in t) in
    and_true (nat_le (length d) 2048) (list_all (λ b. not (is_bad_byte b)) d) (short t) (all_weaker plain (λ b. not (is_bad_byte b)) no_bad d (spelled_plain t))

not_escaped : (t : List ℕ) → list_all plain t ≡ true → flat_map escaped t ≡ t
not_escaped [] e = refl
not_escaped (b ∷ t) e =
    let x = both_true (plain b) (list_all plain t) e in
    let y = both_true (not (is_bad_byte b)) (not (b == 34 || b == 92)) x.0 in
    let same : escaped b ≡ b ∷ [] = ap (λ c. cond c (92 ∷ b ∷ []) (b ∷ [])) (is_false (b == 34 || b == 92) y.1) in
    ap (λ xs. xs ++ flat_map escaped t) same ∙ ap (λ xs. b ∷ xs) (not_escaped t x.1)

abbrev quoted : List ℕ → List ℕ
quoted t = 34 ∷ (t ++ 34 ∷ [])

record IsPlain (t : List ℕ) : Type 0 where
  pub text : is_text t ≡ true
  pub shown : value_text (value.Text t) ≡ quoted t

instant_plain : (t : List ℕ) (s : ℤ) → instant_of t ≡ Some s → IsPlain t
instant_plain t s e =
    let d = spells_date t s e in
    record {
      text = subst (λ x. is_text x ≡ true) (sym d) (date_is_text t);
      shown = ap (λ x. 34 ∷ (x ++ 34 ∷ [])) (not_escaped t (subst (λ x. list_all plain x ≡ true) (sym d) (spelled_plain t)));
    }

between : (t : List ℕ) → between_quotes (quoted t) ≡ t
between t =
    let n : length (quoted t) - 2 ≡ length t = omega (arith, length-append t (34 ∷ [])) in
    ap (λ k. take k (t ++ 34 ∷ [])) n ∙ take_front t (34 ∷ [])

quoted_spells : (place : Place) (t : List ℕ) → IsPlain t → Spells place (quoted t) (spell place kind.Text (quoted t) ∷ [])
quoted_spells place t p =
    token_spells place kind.Text (quoted t) refl (λ rest e. subst (λ x. IsToken kind.Text x rest) p.shown (text_token t rest p.text))

kept_instant : (place : Place) (t : List ℕ) (s : ℤ) → IsPlain t → instant_terminal (instant_of (between_quotes (quoted t))) ≡ terminal.Instant → (b : Both)
    → keep (spell place kind.Text (quoted t)) b ≡ with_leaf_on (expr.Lit (value.Text t)) b
unfolding kept_as
kept_instant place t s p e b =
    ap (λ k. record { trees = kept_as (named k) kind.Text (quoted t) b.trees; heights = b.heights }) e
    ∙ ap (λ x. with_leaf_on (expr.Lit (value.Text x)) b) (ap (λ x. text_of (content_of x)) (sym p.shown) ∙ text_says t p.text)

an_instant : (place : Place) (t : List ℕ) (s : ℤ) → instant_of t ≡ Some s → IsInstant (spell place kind.Text (quoted t)) s
an_instant place t s e =
    let seen : instant_terminal (instant_of (between_quotes (quoted t))) ≡ terminal.Instant = ap instant_terminal (ap instant_of (between t) ∙ e) in
    record {
      leaf = expr.Lit (value.Text t);
      seen = seen;
      adds = kept_instant place t s (instant_plain t s e) seen;
      says = ap or_zero e;
    }

instant_good : (place : Place) (s : ℤ) → instant_of (instant_text s) ≡ Some s → GoodKind place (point.TimeAt s)
instant_good place s e =
    let t = instant_text s in
    let p = instant_plain t s e in
    record {
      tokens = spell place kind.Word (codes "time") ∷ spell place kind.Word (codes "at") ∷ spell place kind.Text (quoted t) ∷ [];
      spells = words_spell place (codes "time") (codes "at " ++ quoted t) _ refl (words_spell place (codes "at") (quoted t) _ refl (quoted_spells place t p));
      prints = kind_prints terminal.Time (item.Part part.TimeWhat) time_begins (point.TimeAt s) _ _ (is_time place) (at_tail s _ _ (is_at place) (an_instant place t s e));
      recurs = tt;
    }

-- ---- what leaves say

epoch : instant_of (codes "1970-01-01T00:00:00Z") ≡ Some (pos 0)
unfolding instant_of days_before
epoch = refl

read_or_zero : (place : Place) → (text : List ℕ) → GoodKind place (point.TimeAt (or_zero (instant_of text)))
read_or_zero place text = cases (instant_of text) refl
  where
    cases : (o : Option ℤ) → instant_of text ≡ o → GoodKind place (point.TimeAt (or_zero o))
    cases None e = instant_good place (pos 0) (text_again (codes "1970-01-01T00:00:00Z") (pos 0) epoch)
    cases (Some s) e = instant_good place s (text_again text s e)

pub instants_good : (place : Place) → GoodInstants place
instants_good place (expr.Lit (value.Text text)) = read_or_zero place text
instants_good place other = instant_good place (pos 0) (text_again (codes "1970-01-01T00:00:00Z") (pos 0) epoch)
