-- Where the reader stops no text goes on.
use Rattle.std.proofs.Common.{◌≡◌, ◌≤◌, ◌<◌, ℕ, ◌+◌, Bool, true, false, List, [], ◌∷◌, ◌++◌, length, map, take, get_or, Option, Some, None, arith, refl, sym, ◌∙◌, ap, subst}
use Rattle.std.specs.Option.{option_and_then}
use Rattle.std.proofs.lemmas.Bool.{false≢true}
use Rattle.std.proofs.lemmas.List.{take_more}
use Rattle.std.proofs.lemmas.Option.{none-some, same_Some}
use Rattle.ode_grammar.specs.declared.terminal.Terminal.{Terminal}
use Rattle.ode_grammar.specs.declared.terminal.Terminal.TheVariants.{Leaf}
use Rattle.ode_grammar.specs.declared.item.Item.{Item}
use Rattle.ode_grammar.specs.declared.reader.Start.{Start}
use Rattle.ode_grammar.specs.Grammar.{items_of}
use Rattle.ode_grammar.specs.Texts.{plain, IsText, Begins, IsExtent}
use Rattle.ode_grammar.specs.Reading.{next, reached, may_stop}
use Rattle.ode_grammar.proofs.Follows.{start_well}
use Rattle.ode_grammar.proofs.Runs.{run_derives, run_reached, reached_runs, derived_reaches, stop_derives, derived_stops, append_nil}
use Rattle.ode_grammar.proofs.Least.{shortest, least_derives}

-- what stands behind a list's end, where code reads one
abbrev pub no_token : Terminal
no_token = Leaf

unit_one : (u : Unit {0}) → u ≡ tt
unit_one u = refl

pub map_same : (ts : List Terminal) → map (λ k. k) ts ≡ ts
map_same [] = refl
map_same (t ∷ ts) = ap (λ us. t ∷ us) (map_same ts)

-- what is reached begins a text, and the other way round
pub reached_begins : (s : Start) (ts : List Terminal) (items : List Item) → reached (items_of s) ts ≡ Some items → Begins s ts
reached_begins s ts items h =
    let r = reached_runs plain (items_of s) tt ts items (ap (reached (items_of s)) (map_same ts) ∙ h) in
    record { more = shortest items; is_text = run_derives plain (items_of s) tt ts items tt (shortest items) tt r.runs (least_derives items) }

pub begins_reached : (s : Start) (ts : List Terminal) → Begins s ts → (items : List Item) × (reached (items_of s) ts ≡ Some items)
begins_reached s ts b =
    let r = derived_reaches plain (items_of s) tt ts b.more tt b.is_text (start_well s) in
    (r.more, ap (reached (items_of s)) (sym (map_same ts)) ∙ run_reached plain (items_of s) tt ts r.more r.made r.runs)

-- one more token
through : (x : Option (List Item)) (f g h : List Item → Option (List Item)) → ((z : List Item) → f z ≡ option_and_then g (h z)) → option_and_then f x ≡ option_and_then g (option_and_then h x)
through None f g h e = refl
through (Some z) f g h e = e z

last_some : (x : Option (List Item)) → option_and_then (λ (more : List Item). Some more) x ≡ x
last_some None = refl
last_some (Some z) = refl

pub reached_more : (items : List Item) (ts : List Terminal) (t : Terminal) → reached items (ts ++ t ∷ []) ≡ option_and_then (λ more. next more t) (reached items ts)
reached_more items [] t = last_some (next items t)
reached_more items (u ∷ ts) t =
    through (next items u) (λ more. reached more (ts ++ t ∷ [])) (λ more. next more t) (λ more. reached more ts) (λ more. reached_more more ts t)

-- a step of the loop, which is the same where it stops
pub reached_next : (start : List Item) (tokens : List Terminal) (i : ℕ) (d : Terminal) (items : List Item) → i < length tokens
    → reached start (take i tokens) ≡ Some items → reached start (take (i + 1) tokens) ≡ next items (get_or tokens i d)
reached_next start tokens i d items l h =
    ap (reached start) (take_more tokens i d l) ∙ (reached_more start (take i tokens) (get_or tokens i d) ∙ ap (option_and_then (λ more. next more (get_or tokens i d))) h)

pub reached_step : (start : List Item) (tokens : List Terminal) (i : ℕ) (d : Terminal) (items more : List Item) → i < length tokens
    → reached start (take i tokens) ≡ Some items → next items (get_or tokens i d) ≡ Some more → reached start (take (i + 1) tokens) ≡ Some more
reached_step start tokens i d items more l h n = reached_next start tokens i d items l h ∙ n

-- where a token can't come no text goes on with it
no_more : (s : Start) (ts : List Terminal) → reached (items_of s) ts ≡ None → Begins s ts → ⊥
no_more s ts h b = let r = begins_reached s ts b in none-some r.0 (sym h ∙ r.1)

-- what is reached is a text just where nothing more has to come
text_here : (s : Start) (ts : List Terminal) (items : List Item) → reached (items_of s) ts ≡ Some items → may_stop items ≡ true → IsText s ts
text_here s ts items h e =
    let r = reached_runs plain (items_of s) tt ts items (ap (reached (items_of s)) (map_same ts) ∙ h) in
    subst (λ us. IsText s us) (append_nil ts) (run_derives plain (items_of s) tt ts items tt [] tt r.runs (stop_derives plain items tt e))

no_text_here : (s : Start) (ts : List Terminal) (items : List Item) → reached (items_of s) ts ≡ Some items → may_stop items ≡ false → IsText s ts → ⊥
no_text_here s ts items h e x =
    let r = derived_reaches plain (items_of s) tt ts [] tt (subst (λ us. IsText s us) (sym (append_nil ts)) x) (start_well s) in
    let g = ap (reached (items_of s)) (sym (map_same ts)) ∙ run_reached plain (items_of s) tt ts r.more r.made r.runs in
    false≢true (sym e ∙ (ap may_stop (same_Some items r.more (sym h ∙ g)) ∙ derived_stops r.rest))

pub stopped_here : (s : Start) (tokens : List Terminal) (i : ℕ) (d : Terminal) (items : List Item) (b : Bool) → i < length tokens
    → reached (items_of s) (take i tokens) ≡ Some items → next items (get_or tokens i d) ≡ None → may_stop items ≡ b
    → IsExtent s tokens (record { end = i; is_text = b })
stopped_here s tokens i d items b l h n e = record {
  within = omega arith;
  before = reached_begins s (take i tokens) items h;
  behind = λ _ more. no_more s (take (i + 1) tokens) (reached_next (items_of s) tokens i d items l h ∙ n) more;
  text = λ t. text_here s (take i tokens) items h (e ∙ t);
  no_text = λ f. no_text_here s (take i tokens) items h (e ∙ f);
}

pub stopped_end : (s : Start) (tokens : List Terminal) (i : ℕ) (items : List Item) (b : Bool) → length tokens ≤ i → i ≤ length tokens
    → reached (items_of s) (take i tokens) ≡ Some items → b ≡ may_stop items → IsExtent s tokens (record { end = length tokens; is_text = b })
stopped_end s tokens i items b l k h e =
    let f : i ≡ length tokens = omega arith in
    let g = subst (λ j. reached (items_of s) (take j tokens) ≡ Some items) f h in
    record {
      within = omega arith;
      before = reached_begins s (take (length tokens) tokens) items g;
      behind = λ n _. absurd (omega arith);
      text = λ t. text_here s (take (length tokens) tokens) items g (sym e ∙ t);
      no_text = λ t. no_text_here s (take (length tokens) tokens) items g (sym e ∙ t);
    }
