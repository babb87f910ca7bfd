-- Derivations taken apart and put together.
use Rattle.std.proofs.Common.{◌≡◌, Bool, true, false, List, [], ◌∷◌, ◌++◌, append_assoc, Option, Some, refl, sym, ◌∙◌, ap, subst}
use Rattle.std.proofs.lemmas.Option.{same_Some}
use Rattle.std.proofs.lemmas.Bool.{false≢true}
use Rattle.ode_lex.specs.declared.token.Mark.{Mark}
use Rattle.ode_lex.specs.declared.token.Mark.TheVariants as mark
use Rattle.ode_grammar.specs.declared.item.Action.{Action}
use Rattle.ode_grammar.specs.declared.item.Action.TheVariants as action
use Rattle.ode_grammar.specs.declared.item.Item.{Item}
use Rattle.ode_grammar.specs.declared.item.Item.TheVariants as item
use Rattle.ode_grammar.specs.declared.item.Part.{Part}
use Rattle.ode_grammar.specs.Grammar.{after, skipped}
use Rattle.ode_grammar.specs.Stacks.{top, rest}
use Rattle.ode_grammar.specs.Texts.{Derives, Done, Next, Make, Rule, Skip}
use Rattle.ode_grammar.proofs.Follows.{IfRow}
use Rattle.ode_grammar.proofs.TerminalLaws.{stands_for-itself}
use Rattle.ode_terminals.specs.Seen.{mark_terminal}
use Rattle.ode_syntax.specs.Kept.{kept_as, Spelled}
use Rattle.ode_reread.proofs.Both.{Both, both, keep, make}
use Rattle.ode_reread.proofs.Marked.{marked}
use Rattle.ode_reread.proofs.Prints.{nothing, Ds}

-- the same with other items
pub with_items : {items more : List Item} {b : Both} {ts : List Spelled} {out : Both} → items ≡ more → Ds items b ts out → Ds more b ts out
with_items {b = b} {ts = ts} {out = out} e d = subst (λ is. Derives both is b ts out) e d

-- and with other tokens
pub with_tokens : {items : List Item} {b : Both} {ts us : List Spelled} {out : Both} → ts ≡ us → Ds items b ts out → Ds items b us out
with_tokens {items = items} {b = b} {out = out} e d = subst (λ vs. Derives both items b vs out) e d

-- and from other trees
pub from : {items : List Item} {b c : Both} {ts : List Spelled} {out : Both} → b ≡ c → Ds items c ts out → Ds items b ts out
from {items = items} {ts = ts} {out = out} e d = subst (λ x. Derives both items x ts out) (sym e) d

pub together : {xs : List Item} {b mid : Both} {us : List Spelled} → Ds xs b us mid → {ys : List Item} {ts : List Spelled} {out : Both}
    → Ds ys mid ts out → Ds (xs ++ ys) b (us ++ ts) out
together Done d = d
together (Next k e x) d = Next k e (together x d)
together (Make a x) d = Make a (together x d)
together (Rule {items = xs} p row e x) {ys = ys} d = Rule p row e (with_items (append_assoc row xs ys) (together x d))
together (Skip p a e x) d = Skip p a e (together x d)

pub record Splits (xs ys : List Item) (b : Both) (ts : List Spelled) (out : Both) : Type 0 where
  pub mid : Both
  pub us : List Spelled
  pub vs : List Spelled
  pub first : Ds xs b us mid
  pub behind : Ds ys mid vs out
  pub same : us ++ vs ≡ ts

pub splits : {items : List Item} {b : Both} {ts : List Spelled} {out : Both} → Ds items b ts out → (xs ys : List Item) → items ≡ xs ++ ys → Splits xs ys b ts out
splits {b = b} {ts = ts} d [] ys q = record { mid = b; us = []; vs = ts; first = Done; behind = with_items q d; same = refl }
splits Done (x ∷ xs) ys q = absurd (cc)
splits {b = b} (Next {items = is} {t = t} k e d) (x ∷ xs) ys q =
    let r = splits d xs ys (ap rest q) in
    record {
      mid = r.mid;
      us = t ∷ r.us;
      vs = r.vs;
      first = with_items (ap (λ i. i ∷ xs) (ap (top x) q)) (Next k e r.first);
      behind = r.behind;
      same = ap (λ zs. t ∷ zs) r.same;
    }
splits (Make {items = is} a d) (x ∷ xs) ys q =
    let r = splits d xs ys (ap rest q) in
    record {
      mid = r.mid;
      us = r.us;
      vs = r.vs;
      first = with_items (ap (λ i. i ∷ xs) (ap (top x) q)) (Make a r.first);
      behind = r.behind;
      same = r.same;
    }
splits (Rule {items = is} {t = t} p row e d) (x ∷ xs) ys q =
    let r = splits d (row ++ xs) ys (ap (λ zs. row ++ zs) (ap rest q) ∙ sym (append_assoc row xs ys)) in
    record {
      mid = r.mid;
      us = t ∷ r.us;
      vs = r.vs;
      first = with_items (ap (λ i. i ∷ xs) (ap (top x) q)) (Rule p row e r.first);
      behind = r.behind;
      same = ap (λ zs. t ∷ zs) r.same;
    }
splits (Skip {items = is} p a e d) (x ∷ xs) ys q =
    let r = splits d xs ys (ap rest q) in
    record {
      mid = r.mid;
      us = r.us;
      vs = r.vs;
      first = with_items (ap (λ i. i ∷ xs) (ap (top x) q)) (Skip p a e r.first);
      behind = r.behind;
      same = r.same;
    }

-- ---- the first part

-- a part's row, or nothing of it
pub data View (p : Part) (items : List Item) (b : Both) (out : Both) : List Spelled → Type 0 where
  Ruled : {ts : List Spelled} (t : Spelled) (row : List Item) → after p t.terminal ≡ Some row → Ds (row ++ items) (keep t b) ts out → View p items b out (t ∷ ts)
  Left : {ts : List Spelled} (a : Action) → skipped p ≡ Some a → Ds items (make a b) ts out → View p items b out ts

pub view : {p : Part} {items : List Item} {b : Both} {ts : List Spelled} {out : Both} → Ds (item.Part p ∷ items) b ts out → View p items b out ts
view (Rule {t = t} q row e d) = Ruled t row e d
view (Skip q a e d) = Left a e d

-- where nothing is made of a part that is left out
pub left_nothing : (p : Part) {items : List Item} {b : Both} {ts : List Spelled} {out : Both} → skipped p ≡ Some action.Nothing → (a : Action) → skipped p ≡ Some a
    → Ds items (make a b) ts out → Ds items b ts out
left_nothing p {b = b} e a f d = from (sym (nothing b) ∙ ap (λ x. make x b) (same_Some action.Nothing a (sym e ∙ f))) d

-- a part that is left out
pub skip_nothing : (p : Part) → skipped p ≡ Some action.Nothing → {items : List Item} {b : Both} {ts : List Spelled} {out : Both} → Ds items b ts out → Ds (item.Part p ∷ items) b ts out
skip_nothing p e {b = b} d = Skip p action.Nothing e (from (nothing b) d)

-- ---- marks

-- marks of which nothing is kept
abbrev pub is_silent : Mark → Bool
is_silent mark.OpenBrace = true
is_silent mark.CloseBrace = true
is_silent mark.OpenParen = true
is_silent mark.CloseParen = true
is_silent mark.Semi = true
is_silent mark.Comma = true
is_silent mark.Dot = true
is_silent mark.Colon = true
is_silent mark.Assign = true
is_silent mark.Arrow = true
is_silent other = false

silent : (m : Mark) → is_silent m ≡ true → (b : Both) → keep (marked m) b ≡ b
unfolding kept_as
silent mark.OpenBrace e b = refl
silent mark.CloseBrace e b = refl
silent mark.OpenParen e b = refl
silent mark.CloseParen e b = refl
silent mark.Semi e b = refl
silent mark.Comma e b = refl
silent mark.Dot e b = refl
silent mark.Colon e b = refl
silent mark.Assign e b = refl
silent mark.Arrow e b = refl
silent other e b = absurd (false≢true e)

pub next_mark : (m : Mark) → is_silent m ≡ true → {items : List Item} {b : Both} {ts : List Spelled} {out : Both} → Ds items b ts out
    → Ds (item.Token (mark_terminal m) ∷ items) b (marked m ∷ ts) out
next_mark m e {b = b} d = Next (mark_terminal m) (stands_for-itself (mark_terminal m)) (from (silent m e b) d)

pub mark_rule : (p : Part) (m : Mark) (row : List Item) → is_silent m ≡ true → after p (mark_terminal m) ≡ Some row → {items : List Item} {b : Both} {ts : List Spelled} {out : Both}
    → Ds (row ++ items) b ts out → Ds (item.Part p ∷ items) b (marked m ∷ ts) out
mark_rule p m row e r {b = b} d = Rule p row r (from (silent m e b) d)

-- a row of a part, by the terminal that begins it
pub known_row : (P : List Item → Type 0) {row : List Item} {o : Option (List Item)} → IfRow P o → o ≡ Some row → P row
known_row P f e = subst (IfRow P) e f
