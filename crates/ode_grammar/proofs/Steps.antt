-- Steps of a reader that makes something of what it reads.
use Rattle.std.proofs.Common.{◌≡◌, ◌≤◌, ◌<◌, ℕ, ◌+◌, List, [], ◌∷◌, ◌++◌, length, take, take_all, get_or, Option, Some, None, refl, sym, ◌∙◌, ap, subst}
use Rattle.std.specs.Option.{option_and_then}
use Rattle.std.proofs.lemmas.List.{take_more}
use Rattle.std.proofs.lemmas.Option.{same_Some}
use Rattle.ode_grammar.specs.declared.item.Part.{Part}
use Rattle.ode_grammar.specs.declared.item.Action.{Action}
use Rattle.ode_grammar.specs.declared.item.Item.{Item}
use Rattle.ode_grammar.specs.declared.item.Item.TheVariants as item
use Rattle.ode_grammar.specs.Grammar.{after, skipped}
use Rattle.ode_grammar.specs.Texts.{Meaning}
use Rattle.ode_grammar.specs.Reading.{by_row, next, made_of_skipped, made_after, run}
use Rattle.ode_grammar.proofs.Runs.{and_then_some}

-- one token more
pub run_one : {T M : Type 0} (g : Meaning T M) (items : List Item) (m : M) (ts : List T) (t : T) (mid more : List Item) (made : M)
    → run g items m ts ≡ Some (mid, made) → next mid (g.seen t) ≡ Some more → run g items m (ts ++ t ∷ []) ≡ Some (more, made_after g mid made t)
run_one {M = M} g items m [] t mid more made h n =
    let e : items ≡ mid = ap (λ (x : List Item × M). x.0) (same_Some (items, m) (mid, made) h) in
    let f : m ≡ made = ap (λ (x : List Item × M). x.1) (same_Some (items, m) (mid, made) h) in
    subst (λ is. option_and_then {U = List Item × M} (λ more. Some (more, made_after g is m t)) (next is (g.seen t)) ≡ Some (more, made_after g mid made t)) (sym e)
    (subst (λ k. option_and_then {U = List Item × M} (λ more. Some (more, made_after g mid k t)) (next mid (g.seen t)) ≡ Some (more, made_after g mid made t)) (sym f)
    (ap (option_and_then {U = List Item × M} (λ more. Some (more, made_after g mid made t))) n))
run_one g items m (u ∷ ts) t mid more made h n =
    let s = and_then_some (next items (g.seen u)) (λ more. run g more (made_after g items m u) ts) (mid, made) h in
    ap (option_and_then (λ more. run g more (made_after g items m u) (ts ++ t ∷ []))) s.1 ∙ run_one g s.0 (made_after g items m u) ts t mid more made s.2 n

pub run_step : {T M : Type 0} (g : Meaning T M) (start : List Item) (nothing : M) (tokens : List T) (i : ℕ) (d : T) (items : List Item) (m : M) (more : List Item) (made : M)
    → i < length tokens → run g start nothing (take i tokens) ≡ Some (items, m) → next items (g.seen (get_or tokens i d)) ≡ Some more
    → made ≡ made_after g items m (get_or tokens i d) → run g start nothing (take (i + 1) tokens) ≡ Some (more, made)
run_step g start nothing tokens i d items m more made l h n e =
    ap (run g start nothing) (take_more tokens i d l) ∙ (run_one g start nothing (take i tokens) (get_or tokens i d) items more m h n ∙ ap (λ k. Some (more, k)) (sym e))

pub run_all : {T M : Type 0} (g : Meaning T M) (start : List Item) (nothing : M) (tokens : List T) (i : ℕ) (items : List Item) (m : M)
    → length tokens ≤ i → run g start nothing (take i tokens) ≡ Some (items, m) → run g start nothing tokens ≡ Some (items, m)
run_all g start nothing tokens i items m l h = ap (run g start nothing) (sym (take_all i tokens l)) ∙ h

-- a part that is left out
pub record Skipped {T M : Type 0} (g : Meaning T M) (items old : List Item) (m k : M) (t : T) : Type 0 where
  pub next_same : next items (g.seen t) ≡ next old (g.seen t)
  pub made_same : made_after g items k t ≡ made_after g old m t

pub part_skipped : {T M : Type 0} (g : Meaning T M) (items : List Item) (p : Part) (a : Action) (m : M) (t : T)
    → after p (g.seen t) ≡ None → skipped p ≡ Some a → Skipped g items (item.Part p ∷ items) m (g.make a m) t
part_skipped g items p a m t e f = record {
  next_same = sym (ap (λ r. by_row (λ row. Some (row ++ items)) (next items (g.seen t)) None r (skipped p)) e
      ∙ ap (λ s. by_row (λ row. Some (row ++ items)) (next items (g.seen t)) None None s) f);
  made_same = sym (ap (λ r. by_row (λ row. g.keep t m) (made_after g items (made_of_skipped g (skipped p) m) t) m r (skipped p)) e
      ∙ ap (λ s. by_row (λ row. g.keep t m) (made_after g items (made_of_skipped g s m) t) m None s) f);
}
