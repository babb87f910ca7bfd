-- The trees of the longest text in front, and of all tokens.
use Rattle.std.proofs.Common.{◌≡◌, ◌⊎◌, inl, inr, ◌-◌, ◌≤◌, ◌<◌, ℕ, ◌+◌, suc, Bool, true, false, not, ◌&&◌, nat_le, List, [], ◌∷◌, length, map, take, drop, take_all, refl, sym, ◌∙◌, ap, subst, arith}
use Rattle.std.proofs.lemmas.Bool.{cases_lt, false≢true}
use Rattle.std.proofs.lemmas.Bool.Decides.{nat_tests}
use Rattle.std.proofs.lemmas.List.{length-drop, take-map, take-append-drop}
use Rattle.ode_lex.specs.declared.token.Token.{Token}
use Rattle.ode_grammar.specs.declared.terminal.Terminal.{Terminal}
use Rattle.ode_grammar.specs.declared.item.Item.{Item}
use Rattle.ode_grammar.specs.declared.reader.Extent.{Extent}
use Rattle.ode_grammar.specs.declared.reader.Start.{Start}
use Rattle.ode_grammar.specs.Grammar.{items_of}
use Rattle.ode_grammar.specs.Texts.{plain, Meaning, Derives, IsText, Begins, IsExtent}
use Rattle.ode_grammar.specs.Reading.{reached, made_at_end}
use Rattle.ode_grammar.proofs.Follows.{Well, nothing_then, start_well}
use Rattle.ode_grammar.proofs.Places.{map_same}
use Rattle.ode_grammar.proofs.Runs.{append_nil, derived_reaches, derived_stops, reached_runs, run_derives, run_reached, stop_derives}
use Rattle.ode_heights.specs.declared.height.TheConstants.{HEIGHT_LIMIT}
use Rattle.ode_heights.specs.Depths.{IsTextWithin, IsTooDeepAt}
use Rattle.ode_terminals.specs.declared.seen.Place.{Place}
use Rattle.ode_syntax.specs.declared.trees.Trees.{Trees}
use Rattle.ode_syntax.specs.Kept.{spelled, Spelled}
use Rattle.ode_syntax.specs.Trees.{trees, no_trees, Makes}
use Rattle.ode_eventsyn.specs.Parsing.{seen, AreTree, IsLongest, IsHighAt, IsWrongWhole}

-- ---- a text has trees

pub text_made : {T M : Type 0} (g : Meaning T M) (items : List Item) (m : M) (ts : List T)
    → Well nothing_then items → Derives plain items tt (map g.seen ts) tt → (out : M) × Derives g items m ts out
text_made g items m ts w d =
    let r = derived_reaches plain items tt (map g.seen ts) [] tt (subst (λ us. Derives plain items tt us tt) (sym (append_nil (map g.seen ts))) d) w in
    let e = ap (reached items) (sym (map_same (map g.seen ts))) ∙ run_reached plain items tt (map g.seen ts) r.more r.made r.runs in
    let x = reached_runs g items m ts r.more e in
    let end = made_at_end g r.more x.made in (
      end,
      subst (λ us. Derives g items m us end) (append_nil ts)
          (run_derives g items m ts r.more x.made [] end x.runs (stop_derives g r.more x.made (derived_stops r.rest))),
    )

seen_spelled : (place : Place) (text : List ℕ) (tokens : List Token) → map (λ (s : Spelled). s.terminal) (map (spelled place text) tokens) ≡ seen place text tokens
seen_spelled place text [] = refl
seen_spelled place text (t ∷ ts) = ap (λ ks. (spelled place text t).terminal ∷ ks) (seen_spelled place text ts)

pub text_makes : (s : Start) (place : Place) (text : List ℕ) (tokens : List Token) → IsText s (seen place text tokens)
    → (made : Trees) × Makes s (map (spelled place text) tokens) made
text_makes s place text tokens d =
    text_made trees (items_of s) no_trees (map (spelled place text) tokens) (start_well s)
    (subst (λ ks. Derives plain (items_of s) tt ks tt) (sym (seen_spelled place text tokens)) d)

pub are_tree : (s : Start) (place : Place) (text : List ℕ) (tokens : List Token) (made : Trees)
    → IsText s (seen place text tokens) → (IsText s (seen place text tokens) → IsTextWithin HEIGHT_LIMIT s (seen place text tokens))
    → ((out : Trees) → Makes s (map (spelled place text) tokens) out → made ≡ out) → AreTree s place text tokens made
are_tree s place text tokens made is_text within read =
    let m = text_makes s place text tokens is_text in
    record { makes = subst (λ x. Makes s (map (spelled place text) tokens) x) (sym (read m.0 m.1)) m.1; within = within is_text }

-- ---- the longest text in front

pub is_true : (b : Bool) → not b ≡ false → b ≡ true
is_true true e = refl
is_true false e = cc

same_extent : (found : Extent) (b : Bool) → found.is_text ≡ b → found ≡ record { end = found.end; is_text = b }
same_extent found b e = ap (λ c. record { end = found.end; is_text = c }) e

pub length_seen : (place : Place) (text : List ℕ) (tokens : List Token) → length (seen place text tokens) ≡ length tokens
length_seen place text [] = refl
length_seen place text (t ∷ ts) = ap suc (length_seen place text ts)

pub is_longest : (s : Start) (place : Place) (text : List ℕ) (tokens : List Token) (found : Extent) (made : Trees)
    → IsExtent s (seen place text tokens) found → found.is_text ≡ true
    → (IsText s (take found.end (seen place text tokens)) → IsTextWithin HEIGHT_LIMIT s (take found.end (seen place text tokens)))
    → ((out : Trees) → Makes s (map (spelled place text) (take found.end tokens)) out → made ≡ out)
    → IsLongest s place text tokens found.end made
is_longest s place text tokens found made x e within read =
    let f = take-map _ found.end tokens in
    record {
      inside = subst (λ n. found.end ≤ n) (length_seen place text tokens) x.within;
      is_tree = are_tree s place text (take found.end tokens) made (subst (IsText s) f (x.text e))
          (subst (λ ks. IsText s ks → IsTextWithin HEIGHT_LIMIT s ks) f within) read;
      behind = λ l. x.behind (subst (λ n. found.end < n) (sym (length_seen place text tokens)) l);
    }

pub is_high : (s : Start) (ts : List Terminal) (found : Extent) (at : ℕ) → IsExtent s ts found → found.is_text ≡ true
    → IsTooDeepAt HEIGHT_LIMIT s (take found.end ts) at → IsHighAt s ts at
is_high s ts found at x e h = record { end = found.end; longest = subst (IsExtent s ts) (same_extent found true e) x; high = h }

-- ---- all tokens

not_whole : (b : Bool) (n m : ℕ) → (b && nat_le n m) ≡ false → (b ≡ false) ⊎ (m < n)
not_whole false n m e = inl refl
not_whole true n m e = inr (grind (arith, nat_tests))

is_whole : (b : Bool) (n m : ℕ) → (b && nat_le n m) ≡ true → (b ≡ true) × (n ≤ m)
is_whole false n m e = absurd (false≢true e)
is_whole true n m e = (refl, grind (arith, nat_tests))

begins_of : (s : Start) (ts : List Terminal) (n : ℕ) → IsText s ts → Begins s (take n ts)
begins_of s ts n w = record { more = drop n ts; is_text = subst (IsText s) (sym (take-append-drop n ts)) w }

pub is_wrong_whole : (s : Start) (ts : List Terminal) (count : ℕ) (found : Extent) → IsExtent s ts found → length ts ≡ count
    → (found.is_text && nat_le count found.end) ≡ false → IsWrongWhole s ts found.end
is_wrong_whole s ts count found x c e = record {
  inside = x.within;
  before = x.before;
  behind = x.behind;
  no_text = λ w. no (not_whole found.is_text count found.end e) w (cases_lt found.end (length ts));
}
  where
    no : (found.is_text ≡ false) ⊎ (found.end < count) → IsText s ts → (found.end < length ts) ⊎ (length ts ≤ found.end) → ⊥
    no h w (inl l) = x.behind l (begins_of s ts (found.end + 1) w)
    no (inl e) w (inr l) = x.no_text e (subst (IsText s) (sym (take_all found.end ts l)) w)
    no (inr h) w (inr l) = absurd (omega (arith, h, l, c))

pub whole_text : (s : Start) (ts : List Terminal) (count : ℕ) (found : Extent) → IsExtent s ts found → length ts ≡ count
    → (found.is_text && nat_le count found.end) ≡ true → IsText s ts
whole_text s ts count found x c e =
    let h = is_whole found.is_text count found.end e in
    subst (IsText s) (take_all found.end ts (subst (λ n. n ≤ found.end) (sym c) h.1)) (x.text h.0)

-- ---- from a place on

pub longest_at : (s : Start) (place : Place) (text : List ℕ) (tokens rest : List Token) (from count end : ℕ) (made : Trees)
    → rest ≡ drop from tokens → IsLongest s place text rest count made → (count ≤ length tokens - from → end ≡ from + count)
    → IsLongest s place text (drop from tokens) (end - from) made
longest_at s place text tokens rest from count end made e x f =
    let short : count ≤ length tokens - from = subst (λ n. count ≤ n) (ap length e ∙ length-drop from tokens) x.inside in
    let same : count ≡ end - from = omega (arith, f short) in
    subst (λ n. IsLongest s place text (drop from tokens) n made) same (subst (λ ts. IsLongest s place text ts count made) e x)
