-- Where the reader finds a token too deep no text within the height goes on with it.
use Rattle.std.proofs.Common.{◌≡◌, ◌≤◌, ◌<◌, ℕ, ◌+◌, max, Bool, true, false, List, [], ◌∷◌, length, take, drop, get_or, Option, Some, None, arith, refl, sym, ◌∙◌, ap, subst, le_trans, lit≤}
use Rattle.std.proofs.lemmas.List.{take-append-drop}
use Rattle.std.proofs.lemmas.Option.{none-some, same_Some}
use Rattle.ode_grammar.specs.declared.terminal.Terminal.{Terminal}
use Rattle.ode_grammar.specs.declared.terminal.Terminal.TheVariants.{Leaf}
use Rattle.ode_grammar.specs.declared.item.Part.{Part}
use Rattle.ode_grammar.specs.declared.item.Action.{Action}
use Rattle.ode_grammar.specs.declared.item.Item.{Item}
use Rattle.ode_grammar.specs.declared.item.Item.TheVariants as item
use Rattle.ode_grammar.specs.declared.reader.Start.{Start}
use Rattle.ode_grammar.specs.declared.reader.Start.TheVariants as start
use Rattle.ode_grammar.specs.Grammar.{after, skipped, items_of}
use Rattle.ode_grammar.specs.Texts.{plain, Derives, IsText, Begins}
use Rattle.ode_grammar.specs.Reading.{by_row, next, made_of_skipped, made_after, reached, run, may_stop, made_at_end}
use Rattle.ode_grammar.proofs.Follows.{start_well}
use Rattle.ode_grammar.proofs.Places.{map_same, reached_next, begins_reached}
use Rattle.ode_grammar.proofs.Runs.{run_derives, run_reached, derived_reaches, stop_derives, derived_stops, append_nil}
use Rattle.ode_grammar.proofs.Steps.{part_skipped}
use Rattle.ode_heights.specs.declared.height.TheConstants.{HEIGHT_LIMIT}
use Rattle.ode_heights.specs.declared.height.Heights.{Heights}
use Rattle.ode_heights.specs.Heights.{heights, highest, none, raised, risen}
use Rattle.ode_heights.specs.Lowest.{lowest}
use Rattle.ode_heights.specs.Depths.{IsTextWithin, BeginsWithin, IsTooDeepAt}
use Rattle.ode_heights.proofs.HeightLaws.{low_highest}
use Rattle.ode_heights.proofs.Completions.{shortest, least_derives}
use Rattle.ode_heights.proofs.Lowest.{derived_low, lowest_highest, skip_low}

-- what stands behind a list's end, where code reads one
abbrev pub no_token : Terminal
no_token = Leaf

-- the reader behind these tokens
abbrev pub ReadsTo : Start → List Terminal → List Item → Heights → Type 0
ReadsTo s ts items m = run heights (items_of s) none ts ≡ Some (items, m)

pub reads_reached : (s : Start) (ts : List Terminal) (items : List Item) (m : Heights) → ReadsTo s ts items m → reached (items_of s) ts ≡ Some items
reads_reached s ts items m h = ap (reached (items_of s)) (sym (map_same ts)) ∙ run_reached heights (items_of s) none ts items m h

-- at the beginning
start_within : (s : Start) → highest (lowest (items_of s) none) ≤ HEIGHT_LIMIT
unfolding items_of raised
start_within start.Expr = lit≤ tt
start_within start.Event = lit≤ tt
start_within start.Class = lit≤ tt
start_within start.Change = lit≤ tt
start_within start.Query = lit≤ tt
start_within start.Comparison = lit≤ tt
start_within start.Statement = lit≤ tt

pub record Starts (s : Start) (items : List Item) (m : Heights) : Type 0 where
  pub reads : ReadsTo s [] items m
  pub within : highest (lowest items m) ≤ HEIGHT_LIMIT

pub starts_reading : (s : Start) (items : List Item) (m : Heights) → items ≡ items_of s → m ≡ none → Starts s items m
starts_reading s items m e f =
    let r : Starts s (items_of s) none = record { reads = refl; within = start_within s } in
    subst (λ is. Starts s is m) (sym e) (subst (λ k. Starts s (items_of s) k) (sym f) r)

pub within_begins : (s : Start) (ts : List Terminal) (items : List Item) (m : Heights) → ReadsTo s ts items m → highest (lowest items m) ≤ HEIGHT_LIMIT → BeginsWithin HEIGHT_LIMIT s ts
within_begins s ts items m h l = record {
  more = shortest items;
  is_text = record {
    made = lowest items m;
    is_text = run_derives heights (items_of s) none ts items m (shortest items) (lowest items m) h (least_derives items m);
    within = l;
  };
}

pub deep_ends : (s : Start) (ts : List Terminal) (items : List Item) (m : Heights) → ReadsTo s ts items m → HEIGHT_LIMIT < highest (lowest items m) → BeginsWithin HEIGHT_LIMIT s ts → ⊥
deep_ends s ts items m h l b =
    let t = b.is_text in
    let r = derived_reaches heights (items_of s) none ts b.more t.made t.is_text (start_well s) in
    let e = same_Some (items, m) (r.more, r.made) (sym h ∙ r.runs) in
    let f = subst (λ (x : List Item × Heights). highest (lowest x.0 x.1) ≤ max 1 (highest t.made)) (sym e) (low_highest _ _ (derived_low r.rest)) in
    let w = t.within in
    omega arith

pub too_deep_here : (s : Start) (tokens : List Terminal) (i : ℕ) (items more : List Item) (m made : Heights) → i < length tokens
    → ReadsTo s (take i tokens) items m → highest (lowest items m) ≤ HEIGHT_LIMIT
    → ReadsTo s (take (i + 1) tokens) more made → HEIGHT_LIMIT < highest (lowest more made) → IsTooDeepAt HEIGHT_LIMIT s tokens i
too_deep_here s tokens i items more m made l h w g d = record {
  inside = l;
  before = within_begins s (take i tokens) items m h w;
  deep = deep_ends s (take (i + 1) tokens) more made g d;
}

-- ---- what a token leaves is no higher than what was to come

after_highest : (items : List Item) (m : Heights) (t : Terminal) → highest (made_after heights items m t) ≤ highest (lowest items m)
after_highest [] m t = lowest_highest [] m
after_highest (item.Token k ∷ items) m t = lowest_highest items m
after_highest (item.Build a ∷ items) m t = after_highest items (risen a m) t
after_highest (item.Part p ∷ items) m t = go (after p t) (skipped p) refl (λ a. after_highest items (risen a m) t)
  where
    go : (r : Option (List Item)) (s : Option Action) → skipped p ≡ s
        → ((a : Action) → highest (made_after heights items (risen a m) t) ≤ highest (lowest items (risen a m)))
        → highest (by_row (λ row. m) (made_after heights items (made_of_skipped heights s m) t) m r s) ≤ highest (lowest (item.Part p ∷ items) m)
    go (Some row) s e f = lowest_highest (item.Part p ∷ items) m
    go None (Some a) e f = subst (λ (h : Heights). highest (made_after heights items (risen a m) t) ≤ highest (lowest items h)) (sym (skip_low p a m e)) (f a)
    go None None e f = lowest_highest (item.Part p ∷ items) m

pub step_within : (items : List Item) (m made : Heights) (t : Terminal) → made ≡ made_after heights items m t → highest (lowest items m) ≤ HEIGHT_LIMIT → highest made ≤ HEIGHT_LIMIT
step_within items m made t e l = subst (λ (k : Heights). highest k ≤ HEIGHT_LIMIT) (sym e) (le_trans (after_highest items m t) l)

-- ---- a step of the loop within a token

pub record Left (items old : List Item) (m k : Heights) (t : Terminal) : Type 0 where
  pub next_same : next items t ≡ next old t
  pub made_same : made_after heights items k t ≡ made_after heights old m t
  pub low_same : lowest items k ≡ lowest old m

part_left : (items : List Item) (p : Part) (a : Action) (m : Heights) (t : Terminal) → after p t ≡ None → skipped p ≡ Some a → Left items (item.Part p ∷ items) m (risen a m) t
part_left items p a m t e f =
    let s = part_skipped heights items p a m t e f in
    record { next_same = s.next_same; made_same = s.made_same; low_same = sym (ap (lowest items) (skip_low p a m f)) }

pub left_step : (items old : List Item) (i : Item) (p : Part) (a : Action) (m k : Heights) (t : Terminal)
    → old ≡ i ∷ items → i ≡ item.Part p → after p t ≡ None → skipped p ≡ Some a → k ≡ risen a m → Left items old m k t
left_step items old i p a m k t e g f s h =
    subst (λ is. Left items is m k t) (sym (e ∙ ap (λ j. j ∷ items) g)) (subst (λ j. Left items (item.Part p ∷ items) m j t) (sym h) (part_left items p a m t f s))

-- ---- the end

end_heights : (items : List Item) (m : Heights) → may_stop items ≡ true → made_at_end heights items m ≡ lowest items m
end_heights [] m h = refl
end_heights (item.Token k ∷ items) m h = cc
end_heights (item.Build a ∷ items) m h = end_heights items (risen a m) h
end_heights (item.Part p ∷ items) m h = go (skipped p) refl h (λ a g. end_heights items (risen a m) g)
  where
    go : (s : Option Action) → skipped p ≡ s → by_row {A = Bool} (λ row. false) (may_stop items) false None s ≡ true
        → ((a : Action) → may_stop items ≡ true → made_at_end heights items (risen a m) ≡ lowest items (risen a m))
        → made_at_end heights items (made_of_skipped heights s m) ≡ lowest (item.Part p ∷ items) m
    go None e h f = cc
    go (Some a) e h f = f a h ∙ ap (lowest items) (sym (skip_low p a m e))

text_stops : (s : Start) (tokens : List Terminal) (items : List Item) → IsText s tokens → reached (items_of s) tokens ≡ Some items → may_stop items ≡ true
text_stops s tokens items t h =
    let r = derived_reaches plain (items_of s) tt tokens [] tt (subst (λ ts. IsText s ts) (sym (append_nil tokens)) t) (start_well s) in
    let g = ap (reached (items_of s)) (sym (map_same tokens)) ∙ run_reached plain (items_of s) tt tokens r.more r.made r.runs in
    ap may_stop (same_Some items r.more (sym h ∙ g)) ∙ derived_stops r.rest

pub text_within : (s : Start) (tokens : List Terminal) (items : List Item) (m : Heights) → ReadsTo s tokens items m → highest (lowest items m) ≤ HEIGHT_LIMIT
    → IsText s tokens → IsTextWithin HEIGHT_LIMIT s tokens
text_within s tokens items m h l t =
    let e = text_stops s tokens items t (reads_reached s tokens items m h) in
    record {
      made = made_at_end heights items m;
      is_text = subst (λ ts. Derives heights (items_of s) none ts (made_at_end heights items m)) (append_nil tokens)
          (run_derives heights (items_of s) none tokens items m [] (made_at_end heights items m) h (stop_derives heights items m e));
      within = subst (λ (g : Heights). highest g ≤ HEIGHT_LIMIT) (sym (end_heights items m e)) l;
    }

-- a text's token is never refused
pub refused_no_text : (s : Start) (tokens : List Terminal) (i : ℕ) (d : Terminal) (items : List Item) (m : Heights) → i < length tokens
    → ReadsTo s (take i tokens) items m → next items (get_or tokens i d) ≡ None → IsText s tokens → ⊥
refused_no_text s tokens i d items m l h n t =
    let e = reached_next (items_of s) tokens i d items l (reads_reached s (take i tokens) items m h) ∙ n in
    let b : Begins s (take (i + 1) tokens) = record { more = drop (i + 1) tokens; is_text = subst (λ ts. IsText s ts) (sym (take-append-drop (i + 1) tokens)) t } in
    let w = begins_reached s (take (i + 1) tokens) b in
    none-some w.0 (sym e ∙ w.1)
