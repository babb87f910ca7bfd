-- The reader goes on with a token just where a text of the grammar does.
use Rattle.std.proofs.Common.{◌≡◌, Bool, true, false, cond, List, [], ◌∷◌, ◌++◌, Option, Some, None, map, refl, sym, ◌∙◌, ap, subst}
use Rattle.std.specs.Option.{option_and_then}
use Rattle.std.proofs.lemmas.Bool.{false≢true}
use Rattle.std.proofs.lemmas.Option.{same_Some}
use Rattle.ode_grammar.specs.declared.terminal.Terminal.{Terminal}
use Rattle.ode_grammar.specs.declared.item.Part.{Part}
use Rattle.ode_grammar.specs.declared.item.Action.{Action}
use Rattle.ode_grammar.specs.declared.item.Item.{Item}
use Rattle.ode_grammar.specs.declared.item.Item.TheVariants as item
use Rattle.ode_grammar.specs.Terminals.{stands_for}
use Rattle.ode_grammar.specs.Grammar.{after, skipped}
use Rattle.ode_grammar.specs.Texts.{Meaning, Derives, Done, Next, Make, Rule, Skip}
use Rattle.ode_grammar.specs.Reading.{by_row, next, made_of_skipped, made_after, reached, run, may_stop, made_at_end}
use Rattle.ode_grammar.proofs.Follows.{Well, nothing_then, no_row, row_kept, starts-derived}

chosen : (b : Bool) (x y : List Item) → cond b (Some x) None ≡ Some y → (b ≡ true) × (x ≡ y)
chosen true x y h = (refl, cc)
chosen false x y h = cc

part_derives : {T M : Type 0} (g : Meaning T M) (items : List Item) (m : M) (t : T) (more : List Item) (ts : List T) (out : M) (p : Part)
    → (r : Option (List Item)) (s : Option Action) → after p (g.seen t) ≡ r → skipped p ≡ s
    → ((a : Action) → next items (g.seen t) ≡ Some more → Derives g more (made_after g items (g.make a m) t) ts out → Derives g items (g.make a m) (t ∷ ts) out)
    → by_row (λ row. Some (row ++ items)) (next items (g.seen t)) None r s ≡ Some more
    → Derives g more (by_row (λ row. g.keep t m) (made_after g items (made_of_skipped g s m) t) m r s) ts out
    → Derives g (item.Part p ∷ items) m (t ∷ ts) out
part_derives g items m t more ts out p (Some row) s e f behind h d =
    let x : row ++ items ≡ more = cc in Rule p row e (subst (λ is. Derives g is (g.keep t m) ts out) (sym x) d)
part_derives g items m t more ts out p None (Some a) e f behind h d = Skip p a f (behind a h d)
part_derives g items m t more ts out p None None e f behind h d = cc

-- what the reader reads is derived
pub next_derives : {T M : Type 0} (g : Meaning T M) (items : List Item) (m : M) (t : T) (more : List Item) (ts : List T) (out : M)
    → next items (g.seen t) ≡ Some more → Derives g more (made_after g items m t) ts out → Derives g items m (t ∷ ts) out
next_derives g [] m t more ts out h d = cc
next_derives g (item.Token k ∷ items) m t more ts out h d =
    let e = chosen (stands_for (g.seen t) k) items more h in
    Next k e.0 (subst (λ is. Derives g is (g.keep t m) ts out) (sym e.1) d)
next_derives g (item.Build a ∷ items) m t more ts out h d = Make a (next_derives g items (g.make a m) t more ts out h d)
next_derives g (item.Part p ∷ items) m t more ts out h d =
    part_derives g items m t more ts out p (after p (g.seen t)) (skipped p) refl refl (λ a n x. next_derives g items (g.make a m) t more ts out n x) h d

-- what is derived the reader reads
pub record Goes {T M : Type 0} (g : Meaning T M) (items : List Item) (m : M) (t : T) (ts : List T) (out : M) : Type 0 where
  pub more : List Item
  pub goes : next items (g.seen t) ≡ Some more
  pub rest : Derives g more (made_after g items m t) ts out
  pub well : Well nothing_then more

row_goes : {T M : Type 0} (g : Meaning T M) (items : List Item) (m : M) (t : T) (ts : List T) (out : M) (p : Part) (row : List Item)
    → after p (g.seen t) ≡ Some row → Derives g (row ++ items) (g.keep t m) ts out → Well nothing_then (item.Part p ∷ items)
    → Goes g (item.Part p ∷ items) m t ts out
row_goes g items m t ts out p row e d w = record {
  more = row ++ items;
  goes = ap (λ r. by_row (λ row. Some (row ++ items)) (next items (g.seen t)) None r (skipped p)) e;
  rest = subst (λ r. Derives g (row ++ items) (by_row (λ row. g.keep t m) (made_after g items (made_of_skipped g (skipped p) m) t) m r (skipped p)) ts out) (sym e) d;
  well = row_kept nothing_then p (g.seen t) row items e w;
}

skip_goes : {T M : Type 0} (g : Meaning T M) (items : List Item) (m : M) (t : T) (ts : List T) (out : M) (p : Part) (a : Action)
    → skipped p ≡ Some a → after p (g.seen t) ≡ None → Goes g items (g.make a m) t ts out → Goes g (item.Part p ∷ items) m t ts out
skip_goes g items m t ts out p a e f x = record {
  more = x.more;
  goes = ap (λ r. by_row (λ row. Some (row ++ items)) (next items (g.seen t)) None r (skipped p)) f
      ∙ (ap (λ s. by_row (λ row. Some (row ++ items)) (next items (g.seen t)) None None s) e ∙ x.goes);
  rest = subst (λ r. Derives g x.more (by_row (λ row. g.keep t m) (made_after g items (made_of_skipped g (skipped p) m) t) m r (skipped p)) ts out) (sym f)
      (subst (λ s. Derives g x.more (by_row (λ row. g.keep t m) (made_after g items (made_of_skipped g s m) t) m None s) ts out) (sym e) x.rest);
  well = x.well;
}

next_goes : {T M : Type 0} (g : Meaning T M) (items : List Item) (m : M) (t : T) (ts : List T) (out : M) (k : Terminal)
    → stands_for (g.seen t) k ≡ true → Derives g items (g.keep t m) ts out → Well nothing_then items → Goes g (item.Token k ∷ items) m t ts out
next_goes g items m t ts out k e d w = record {
  more = items;
  goes = ap (λ b. cond b (Some items) None) e;
  rest = d;
  well = w;
}

make_goes : {T M : Type 0} (g : Meaning T M) (items : List Item) (m : M) (t : T) (ts : List T) (out : M) (a : Action)
    → Goes g items (g.make a m) t ts out → Goes g (item.Build a ∷ items) m t ts out
make_goes g items m t ts out a x = record { more = x.more; goes = x.goes; rest = x.rest; well = x.well }

pub derived_goes : {T M : Type 0} {g : Meaning T M} {items : List Item} {m : M} {t : T} {ts : List T} {out : M}
    → Derives g items m (t ∷ ts) out → Well nothing_then items → Goes g items m t ts out
derived_goes {g = g} {m = m} {t = t} {ts = ts} {out = out} (Next {items = items} k e d) w = next_goes g items m t ts out k e d w
derived_goes {g = g} {m = m} {t = t} {ts = ts} {out = out} (Make {items = items} a d) w = make_goes g items m t ts out a (derived_goes d w)
derived_goes {g = g} {m = m} {t = t} {ts = ts} {out = out} (Rule {items = items} p row e d) w = row_goes g items m t ts out p row e d w
derived_goes {g = g} {m = m} {t = t} {ts = ts} {out = out} (Skip {items = items} p a e d) w =
    skip_goes g items m t ts out p a e (no_row p (g.seen t) a e (w.0 (g.seen t) (starts-derived d))) (derived_goes d w.1)

-- ---- many tokens

pub and_then_some : {A B : Type 0} (x : Option A) (f : A → Option B) (y : B) → option_and_then f x ≡ Some y → (z : A) × (x ≡ Some z) × (f z ≡ Some y)
and_then_some None f y h = cc
and_then_some (Some z) f y h = (z, refl, h)

-- what is read, with what is made
pub run_derives : {T M : Type 0} (g : Meaning T M) (items : List Item) (m : M) (ts : List T) (more : List Item) (made : M) (q : List T) (out : M)
    → run g items m ts ≡ Some (more, made) → Derives g more made q out → Derives g items m (ts ++ q) out
run_derives {M = M} g items m [] more made q out h d =
    let e : items ≡ more = ap (λ (x : List Item × M). x.0) (same_Some (items, m) (more, made) h) in
    let f : m ≡ made = ap (λ (x : List Item × M). x.1) (same_Some (items, m) (more, made) h) in
    subst (λ is. Derives g is m q out) (sym e) (subst (λ k. Derives g more k q out) (sym f) d)
run_derives g items m (t ∷ ts) more made q out h d =
    let s = and_then_some (next items (g.seen t)) (λ more. run g more (made_after g items m t) ts) (more, made) h in
    next_derives g items m t s.0 (ts ++ q) out s.1 (run_derives g s.0 (made_after g items m t) ts more made q out s.2 d)

-- the items that are read are what is made with
pub run_reached : {T M : Type 0} (g : Meaning T M) (items : List Item) (m : M) (ts : List T) (more : List Item) (made : M)
    → run g items m ts ≡ Some (more, made) → reached items (map g.seen ts) ≡ Some more
run_reached {M = M} g items m [] more made h = ap Some (ap (λ (x : List Item × M). x.0) (same_Some (items, m) (more, made) h))
run_reached g items m (t ∷ ts) more made h =
    let s = and_then_some (next items (g.seen t)) (λ more. run g more (made_after g items m t) ts) (more, made) h in
    ap (option_and_then (λ more. reached more (map g.seen ts))) s.1 ∙ run_reached g s.0 (made_after g items m t) ts more made s.2

-- what is reached is read, whatever is made
pub record Runs {T M : Type 0} (g : Meaning T M) (items : List Item) (m : M) (ts : List T) (more : List Item) : Type 0 where
  pub made : M
  pub runs : run g items m ts ≡ Some (more, made)

pub reached_runs : {T M : Type 0} (g : Meaning T M) (items : List Item) (m : M) (ts : List T) (more : List Item)
    → reached items (map g.seen ts) ≡ Some more → Runs g items m ts more
reached_runs g items m [] more h = record { made = m; runs = ap (λ is. Some (is, m)) (same_Some items more h) }
reached_runs g items m (t ∷ ts) more h =
    let s = and_then_some (next items (g.seen t)) (λ more. reached more (map g.seen ts)) more h in
    let r = reached_runs g s.0 (made_after g items m t) ts more s.2 in
    record { made = r.made; runs = ap (option_and_then (λ more. run g more (made_after g items m t) ts)) s.1 ∙ r.runs }

pub record Reaches {T M : Type 0} (g : Meaning T M) (items : List Item) (m : M) (ts q : List T) (out : M) : Type 0 where
  pub more : List Item
  pub made : M
  pub runs : run g items m ts ≡ Some (more, made)
  pub rest : Derives g more made q out

pub derived_reaches : {T M : Type 0} (g : Meaning T M) (items : List Item) (m : M) (ts q : List T) (out : M)
    → Derives g items m (ts ++ q) out → Well nothing_then items → Reaches g items m ts q out
derived_reaches g items m [] q out d w = record { more = items; made = m; runs = refl; rest = d }
derived_reaches g items m (t ∷ ts) q out d w =
    let x = derived_goes d w in
    let r = derived_reaches g x.more (made_after g items m t) ts q out x.rest x.well in
    record {
      more = r.more;
      made = r.made;
      runs = ap (λ x. option_and_then (λ more. run g more (made_after g items m t) ts) x) x.goes ∙ r.runs;
      rest = r.rest;
    }

-- ---- the end

skip_true : (b : Bool) (s : Option Action) → by_row {A = Bool} (λ row. false) b false None s ≡ true → (a : Action) × (s ≡ Some a) × (b ≡ true)
skip_true b None h = absurd (false≢true h)
skip_true b (Some a) h = (a, refl, h)

pub stop_derives : {T M : Type 0} (g : Meaning T M) (items : List Item) (m : M) → may_stop items ≡ true → Derives g items m [] (made_at_end g items m)
stop_derives g [] m h = Done
stop_derives g (item.Token k ∷ items) m h = absurd (false≢true h)
stop_derives g (item.Build a ∷ items) m h = Make a (stop_derives g items (g.make a m) h)
stop_derives {T = T} g (item.Part p ∷ items) m h =
    let s = skip_true (may_stop items) (skipped p) h in
    let P : Option Action → Type 0 = λ x. Derives {T = T} g items (g.make s.0 m) [] (made_at_end g items (made_of_skipped g x m)) in
    Skip p s.0 s.1 (subst P (sym s.1) (stop_derives g items (g.make s.0 m) s.2))

pub derived_stops : {T M : Type 0} {g : Meaning T M} {items : List Item} {m : M} {out : M} → Derives g items m [] out → may_stop items ≡ true
derived_stops Done = refl
derived_stops (Make a d) = derived_stops d
derived_stops (Skip {items = items} p a e d) = ap (λ s. by_row {A = Bool} (λ row. false) (may_stop items) false None s) e ∙ derived_stops d

-- ---- a text has one meaning

pub made_end : {T M : Type 0} {g : Meaning T M} {items : List Item} {m : M} {out : M} → Derives g items m [] out → out ≡ made_at_end g items m
made_end Done = refl
made_end (Make a d) = made_end d
made_end {g = g} {m = m} (Skip {items = items} p a e d) = made_end d ∙ ap (λ s. made_at_end g items (made_of_skipped g s m)) (sym e)

pub append_nil : {A : Type 0} (ts : List A) → ts ++ [] ≡ ts
append_nil [] = refl
append_nil (t ∷ ts) = ap (λ us. t ∷ us) (append_nil ts)

pub one_meaning : {T M : Type 0} (g : Meaning T M) (items : List Item) (m : M) (ts : List T) (out end : M)
    → Well nothing_then items → Derives g items m ts out → Derives g items m ts end → out ≡ end
one_meaning {M = M} g items m ts out end w x y =
    let r = derived_reaches g items m ts [] out (subst (λ us. Derives g items m us out) (sym (append_nil ts)) x) w in
    let s = derived_reaches g items m ts [] end (subst (λ us. Derives g items m us end) (sym (append_nil ts)) y) w in
    let e = same_Some (r.more, r.made) (s.more, s.made) (sym r.runs ∙ s.runs) in
    made_end r.rest ∙ (ap (λ (z : List Item × M). made_at_end g z.0 z.1) e ∙ sym (made_end s.rest))
