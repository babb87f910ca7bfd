-- What a reader makes of a whole text.
use Rattle.std.proofs.Common.{◌≡◌, ◌<◌, ◌≤◌, ℕ, ◌+◌, List, [], ◌∷◌, ◌++◌, length, take, drop, map, get_or, Some, None, sym, ◌∙◌, ap, subst}
use Rattle.std.specs.Option.{option_and_then}
use Rattle.std.proofs.lemmas.List.{get_or-map, length-map, take_more, take-append-drop}
use Rattle.std.proofs.lemmas.Option.{none-some, same_Some}
use Rattle.ode_lex.specs.declared.token.Token.{Token}
use Rattle.ode_grammar.specs.declared.terminal.Terminal.{Terminal}
use Rattle.ode_grammar.specs.declared.reader.Start.{Start}
use Rattle.ode_grammar.specs.declared.item.Part.{Part}
use Rattle.ode_grammar.specs.declared.item.Action.{Action}
use Rattle.ode_grammar.specs.declared.item.Item.{Item}
use Rattle.ode_grammar.specs.declared.item.Item.TheVariants as item
use Rattle.ode_grammar.specs.Grammar.{after, skipped, items_of}
use Rattle.ode_grammar.specs.Texts.{Derives}
use Rattle.ode_grammar.specs.Reading.{next, made_after, made_at_end, run}
use Rattle.ode_grammar.proofs.Follows.{start_well}
use Rattle.ode_grammar.proofs.Runs.{append_nil, and_then_some, derived_reaches, made_end}
use Rattle.ode_grammar.proofs.Steps.{part_skipped, run_step, run_all, Skipped}
use Rattle.ode_syntax.specs.declared.trees.Trees.{Trees}
use Rattle.ode_syntax.specs.Built.{built}
use Rattle.ode_terminals.specs.declared.seen.Place.{Place}
use Rattle.ode_terminals.specs.Seen.{slice_of, terminal_of}
use Rattle.ode_syntax.specs.Kept.{Spelled, spelled}
use Rattle.ode_syntax.specs.Trees.{trees, no_trees, Makes}

-- ---- a step within a token

pub skip_step : (items old : List Item) (i : Item) (p : Part) (a : Action) (m k : Trees) (t : Spelled)
    → old ≡ i ∷ items → i ≡ item.Part p → after p t.terminal ≡ None → skipped p ≡ Some a → k ≡ built a m → Skipped trees items old m k t
skip_step items old i p a m k t e g f s h =
    subst (λ is. Skipped trees items is m k t) (sym (e ∙ ap (λ j. j ∷ items) g))
    (subst (λ j. Skipped trees items (item.Part p ∷ items) m j t) (sym h) (part_skipped trees items p a m t f s))

-- ---- tokens

-- what is made of all of them
pub whole : (s : Start) (ts : List Spelled) (items : List Item) (m out : Trees)
    → run trees (items_of s) no_trees ts ≡ Some (items, m) → Makes s ts out → out ≡ made_at_end trees items m
whole s ts items m out h d =
    let r = derived_reaches trees (items_of s) no_trees ts [] out (subst (λ us. Derives trees (items_of s) no_trees us out) (sym (append_nil ts)) d) (start_well s) in
    let e = same_Some (r.more, r.made) (items, m) (sym r.runs ∙ h) in
    made_end r.rest ∙ ap (λ (z : List Item × Trees). made_at_end trees z.0 z.1) e

-- where a token can't come
run_none : (items : List Item) (m : Trees) (ts : List Spelled) (t : Spelled) (mid : List Item) (made : Trees)
    → run trees items m ts ≡ Some (mid, made) → next mid t.terminal ≡ None → run trees items m (ts ++ t ∷ []) ≡ None
run_none items m [] t mid made h n =
    let e : items ≡ mid = ap (λ (x : List Item × Trees). x.0) (same_Some (items, m) (mid, made) h) in
    ap (option_and_then {U = List Item × Trees} (λ more. Some (more, made_after trees items m t))) (ap (λ is. next is t.terminal) e ∙ n)
run_none items m (u ∷ ts) t mid made h n =
    let s = and_then_some (next items u.terminal) (λ more. run trees more (made_after trees items m u) ts) (mid, made) h in
    ap (option_and_then (λ more. run trees more (made_after trees items m u) (ts ++ t ∷ []))) s.1 ∙ run_none s.0 (made_after trees items m u) ts t mid made s.2 n

-- the tokens are no text
pub stuck : (s : Start) (tokens : List Spelled) (i : ℕ) (d : Spelled) (items : List Item) (m out : Trees)
    → i < length tokens → run trees (items_of s) no_trees (take i tokens) ≡ Some (items, m) → next items (get_or tokens i d).terminal ≡ None
    → Makes s tokens out → ⊥
stuck s tokens i d items m out l h n w =
    let split = subst (λ ts. Derives trees (items_of s) no_trees ts out) (sym (take-append-drop (i + 1) tokens)) w in
    let r = derived_reaches trees (items_of s) no_trees (take (i + 1) tokens) (drop (i + 1) tokens) out split (start_well s) in
    let x = subst (λ ts. run trees (items_of s) no_trees ts ≡ Some (r.more, r.made)) (take_more tokens i d l) r.runs in
    none-some (r.more, r.made) (sym (run_none (items_of s) no_trees (take i tokens) (get_or tokens i d) items m h n) ∙ x)

-- ---- tokens of a text

abbrev said : (terminal : Terminal) (token : Token) (bytes : List ℕ) → Spelled
said terminal token bytes = record { terminal = terminal; kind = token.kind; bytes = bytes }

spelled_here : (place : Place) (text : List ℕ) (tokens : List Token) (i : ℕ) (d : Token) (terminal : Terminal) (bytes : List ℕ) → i < length tokens
    → terminal ≡ terminal_of place text (get_or tokens i d) → bytes ≡ slice_of text (get_or tokens i d)
    → said terminal (get_or tokens i d) bytes ≡ get_or (map (spelled place text) tokens) i (spelled place text d)
spelled_here place text tokens i d terminal bytes l e f =
    ap (λ k. said k (get_or tokens i d) bytes) e ∙ (ap (said (terminal_of place text (get_or tokens i d)) (get_or tokens i d)) f
    ∙ sym (get_or-map (spelled place text) tokens i d (spelled place text d) l))

pub read_token : (s : Start) (place : Place) (text : List ℕ) (tokens : List Token) (i : ℕ) (d : Token) (terminal : Terminal) (bytes : List ℕ)
    → (items more : List Item) (m made : Trees) → i < length tokens
    → terminal ≡ terminal_of place text (get_or tokens i d) → bytes ≡ slice_of text (get_or tokens i d)
    → run trees (items_of s) no_trees (take i (map (spelled place text) tokens)) ≡ Some (items, m)
    → next items terminal ≡ Some more → made ≡ made_after trees items m (record { terminal = terminal; kind = (get_or tokens i d).kind; bytes = bytes })
    → run trees (items_of s) no_trees (take (i + 1) (map (spelled place text) tokens)) ≡ Some (more, made)
read_token s place text tokens i d terminal bytes items more m made l e f h n k =
    let g = spelled_here place text tokens i d terminal bytes l e f in
    run_step trees (items_of s) no_trees (map (spelled place text) tokens) i (spelled place text d) items m more made
    (subst (λ n. i < n) (sym (length-map tokens (spelled place text))) l) h
    (subst (λ (x : Spelled). next items x.terminal ≡ Some more) g n) (k ∙ ap (made_after trees items m) g)

pub refused_token : (s : Start) (place : Place) (text : List ℕ) (tokens : List Token) (i : ℕ) (d : Token) (terminal : Terminal) (bytes : List ℕ)
    → (items : List Item) (m out : Trees) → i < length tokens
    → terminal ≡ terminal_of place text (get_or tokens i d) → bytes ≡ slice_of text (get_or tokens i d)
    → run trees (items_of s) no_trees (take i (map (spelled place text) tokens)) ≡ Some (items, m)
    → next items terminal ≡ None → Makes s (map (spelled place text) tokens) out → ⊥
refused_token s place text tokens i d terminal bytes items m out l e f h n w =
    let g = spelled_here place text tokens i d terminal bytes l e f in
    stuck s (map (spelled place text) tokens) i (spelled place text d) items m out (subst (λ n. i < n) (sym (length-map tokens (spelled place text))) l) h
    (subst (λ (x : Spelled). next items x.terminal ≡ None) g n) w

pub all_read : (s : Start) (place : Place) (text : List ℕ) (tokens : List Token) (i : ℕ) (items : List Item) (m made out : Trees) → length tokens ≤ i
    → run trees (items_of s) no_trees (take i (map (spelled place text) tokens)) ≡ Some (items, m) → made ≡ made_at_end trees items m
    → Makes s (map (spelled place text) tokens) out → made ≡ out
all_read s place text tokens i items m made out l h e w =
    let l = subst (λ n. n ≤ i) (sym (length-map tokens (spelled place text))) l in
    e ∙ sym (whole s (map (spelled place text) tokens) items m out (run_all trees (items_of s) no_trees (map (spelled place text) tokens) i items m l h) w)
