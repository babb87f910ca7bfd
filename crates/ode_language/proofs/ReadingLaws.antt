-- What the parser of whole texts answers is what reading comes to.
use Rattle.std.proofs.Common.{◌≡◌, ◌≤◌, ◌<◌, ℕ, zero, suc, ◌+◌, List, [], ◌∷◌, length, take, map, Bool, true, false, cond, Option, Some, None, Ok, Err, arith, refl, sym, ◌∙◌, ap, subst}
use Rattle.std.specs.Option.{option_and_then, option_map_or}
use Rattle.std.proofs.lemmas.List.{append-nil}
use Rattle.std.proofs.lemmas.Option.{none-some}
use Rattle.std.proofs.lemmas.Simd.{map-map}
use Rattle.ode_value.specs.Answers.{Answer}
use Rattle.ode_value.specs.declared.reason.Refusal.TheVariants as refusal
use Rattle.ode_lex.specs.declared.token.Token.{Token}
use Rattle.ode_grammar.specs.declared.item.Item.{Item}
use Rattle.ode_grammar.specs.declared.reader.Start.{Start}
use Rattle.ode_grammar.specs.declared.terminal.Terminal.{Terminal}
use Rattle.ode_grammar.specs.Grammar.{items_of}
use Rattle.ode_grammar.specs.Reading.{made_at_end, may_stop, next, reached}
use Rattle.ode_grammar.specs.Texts.{Begins, Derives, IsText, plain}
use Rattle.ode_grammar.proofs.Follows.{start_well}
use Rattle.ode_grammar.proofs.Places.{begins_reached, map_same, reached_begins}
use Rattle.ode_grammar.proofs.Runs.{derived_reaches, derived_stops, made_end, reached_runs, run_derives, run_reached, stop_derives}
use Rattle.ode_heights.specs.Heights.{none}
use Rattle.ode_terminals.specs.declared.seen.Place.{Place}
use Rattle.ode_syntax.specs.declared.trees.Trees.{Trees}
use Rattle.ode_syntax.specs.Kept.{Spelled, spelled}
use Rattle.ode_syntax.specs.Trees.{no_trees, trees}
use Rattle.ode_eventsyn.specs.Parsing.{AreTree, IsHighWhole, IsWhyWhole, IsWrongWhole, byte_of, seen}
use Rattle.ode_eventsyn.specs.declared.error.SyntaxError.{SyntaxError}
use Rattle.ode_eventsyn.specs.declared.error.SyntaxError.TheVariants as error
use Rattle.ode_language.specs.Reading.{deep_at, is_text, read, trees_of, wrong_at}
use Rattle.ode_language.proofs.DeepLaws.{deep_found, none_deep}

-- a text is read to an end where nothing more has to come
record IsRead (s : Start) (ts : List Terminal) : Type 0 where
  more : List Item
  reaches : reached (items_of s) ts ≡ Some more
  stops : may_stop more ≡ true

text_read : (s : Start) (ts : List Terminal) → IsText s ts → IsRead s ts
text_read s ts t =
    let r = derived_reaches plain (items_of s) tt ts [] tt (subst (λ us. Derives plain (items_of s) tt us tt) (sym (append-nil ts)) t) (start_well s) in
    record {
      more = r.more;
      reaches = ap (reached (items_of s)) (sym (map_same ts)) ∙ run_reached plain (items_of s) tt ts r.more r.made r.runs;
      stops = derived_stops r.rest;
    }

read_is_text : (s : Start) (ts : List Terminal) → IsRead s ts → is_text s ts ≡ true
read_is_text s ts r = ap (λ o. option_map_or may_stop o false) r.reaches ∙ r.stops

-- ---- a text

record IsMade (s : Start) (place : Place) (text : List ℕ) (tokens : List Token) (made : Trees) : Type 0 where
  is_read : IsRead s (seen place text tokens)
  trees_are : trees_of s (map (spelled place text) tokens) ≡ made

tree_read : (s : Start) (place : Place) (text : List ℕ) (tokens : List Token) (made : Trees)
    → Derives trees (items_of s) no_trees (map (spelled place text) tokens) made → IsMade s place text tokens made
tree_read s place text tokens made d =
    let ts : List Spelled = map (spelled place text) tokens in
    let r = derived_reaches trees (items_of s) no_trees ts [] made (subst (λ us. Derives trees (items_of s) no_trees us made) (sym (append-nil ts)) d) (start_well s) in
    let same : seen place text tokens ≡ map trees.seen ts = sym (map-map trees.seen (spelled place text) tokens) in
    record {
      is_read = record {
        more = r.more;
        reaches = ap (reached (items_of s)) same ∙ run_reached trees (items_of s) no_trees ts r.more r.made r.runs;
        stops = derived_stops r.rest;
      };
      trees_are = ap (λ (o : Option (List Item × Trees)). option_map_or (λ (x : List Item × Trees). made_at_end trees x.0 x.1) o no_trees) r.runs ∙ sym (made_end r.rest);
    }

text_or : {R : Type 0} (b : Bool) (x y : R) → b ≡ true → cond b x y ≡ x
text_or b x y e = ap (λ c. cond c x y) e

no_text_or : {R : Type 0} (b : Bool) (x y : R) → b ≡ false → cond b x y ≡ y
no_text_or b x y e = ap (λ c. cond c x y) e

deep_or : (o p : Option ℕ) (f : ℕ → Answer Trees) (x : Answer Trees) → o ≡ p → option_map_or f o x ≡ option_map_or f p x
deep_or o p f x e = ap (λ q. option_map_or f q x) e

pub tree_is_read : (s : Start) (place : Place) (text : List ℕ) (tokens : List Token) (made : Trees) → AreTree s place text tokens made
    → read s place text tokens ≡ Ok made
tree_is_read s place text tokens made tree =
    let m = tree_read s place text tokens made tree.makes in
    let r = m.is_read in
    text_or (is_text s (seen place text tokens)) _ _ (read_is_text s (seen place text tokens) r)
    ∙ (deep_or (deep_at (items_of s) none (seen place text tokens)) None _ _ (none_deep s (seen place text tokens) r.more r.reaches tree.within) ∙ ap Ok m.trees_are)

pub deep_is_read : (s : Start) (place : Place) (text : List ℕ) (tokens : List Token) (i at : ℕ) → IsHighWhole s (seen place text tokens) i
    → at ≡ byte_of text tokens i → read s place text tokens ≡ Err (refusal.TooDeep at)
deep_is_read s place text tokens i at high e =
    let r = text_read s (seen place text tokens) high.is_text in
    text_or (is_text s (seen place text tokens)) _ _ (read_is_text s (seen place text tokens) r)
    ∙ (deep_or (deep_at (items_of s) none (seen place text tokens)) (Some i) _ _ (deep_found s (seen place text tokens) r.more i r.reaches high.high)
    ∙ ap (λ k. Err (refusal.TooDeep k)) (sym e))

-- ---- no text

stops_text : (s : Start) (ts : List Terminal) (items : List Item) → reached (items_of s) ts ≡ Some items → may_stop items ≡ true → IsText s ts
stops_text s ts items h e =
    let r = reached_runs plain (items_of s) tt ts items (ap (reached (items_of s)) (map_same ts) ∙ h) in
    subst (λ us. IsText s us) (append-nil ts) (run_derives plain (items_of s) tt ts items tt [] tt r.runs (stop_derives plain items tt e))

no_text : (s : Start) (ts : List Terminal) → (IsText s ts → ⊥) → is_text s ts ≡ false
no_text s ts never = by_reached (reached (items_of s) ts) refl
  where
    by_stop : (items : List Item) → reached (items_of s) ts ≡ Some items → (b : Bool) → may_stop items ≡ b → b ≡ false
    by_stop items h true e = absurd (never (stops_text s ts items h e))
    by_stop items h false e = refl

    by_reached : (o : Option (List Item)) → reached (items_of s) ts ≡ o → option_map_or may_stop o false ≡ false
    by_reached None h = refl
    by_reached (Some items) h = by_stop items h (may_stop items) refl

-- the first token that can't come
wrong_is : (items more : List Item) (ts : List Terminal) (i : ℕ) → i ≤ length ts → reached items (take i ts) ≡ Some more
    → (i < length ts → reached items (take (suc i) ts) ≡ None) → wrong_at items ts ≡ i
wrong_is items more [] zero l h n = refl
wrong_is items more [] (suc i) l h n = omega (arith, l)
wrong_is items more (t ∷ ts) zero l h n = by_next (next items t) (n (omega arith))
  where
    by_next : (o : Option (List Item)) → option_and_then (λ (is : List Item). reached is []) o ≡ None → option_map_or (λ is. suc (wrong_at is ts)) o 0 ≡ 0
    by_next None e = refl
    by_next (Some is) e = absurd (none-some is (sym e))
wrong_is items more (t ∷ ts) (suc i) l h n = by_next (next items t) h n (λ is e m. wrong_is is more ts i (omega (arith, l)) e m)
  where
    by_next : (o : Option (List Item)) → option_and_then (λ (is : List Item). reached is (take i ts)) o ≡ Some more
        → (suc i < length (t ∷ ts) → option_and_then (λ (is : List Item). reached is (take (suc i) ts)) o ≡ None)
        → ((is : List Item) → reached is (take i ts) ≡ Some more → (i < length ts → reached is (take (suc i) ts) ≡ None) → wrong_at is ts ≡ i)
        → option_map_or (λ is. suc (wrong_at is ts)) o 0 ≡ suc i
    by_next None e m rest = absurd (none-some more e)
    by_next (Some is) e m rest = ap suc (rest is e (λ k. m (omega (arith, k))))

none_behind : (s : Start) (ts : List Terminal) → (Begins s ts → ⊥) → reached (items_of s) ts ≡ None
none_behind s ts never = by_reached (reached (items_of s) ts) refl
  where
    by_reached : (o : Option (List Item)) → reached (items_of s) ts ≡ o → o ≡ None
    by_reached None e = refl
    by_reached (Some items) e = absurd (never (reached_begins s ts items e))

pub wrong_is_read : (s : Start) (place : Place) (text : List ℕ) (tokens : List Token) (i at : ℕ) → IsWrongWhole s (seen place text tokens) i
    → at ≡ byte_of text tokens i → read s place text tokens ≡ Err (refusal.Syntax at)
wrong_is_read s place text tokens i at wrong e =
    let ts : List Terminal = seen place text tokens in
    let b = begins_reached s (take i ts) wrong.before in
    let one_more : i + 1 ≡ suc i = omega arith in
    let place_is : wrong_at (items_of s) ts ≡ i =
    wrong_is (items_of s) b.0 ts i wrong.inside b.1 (λ l. ap (λ k. reached (items_of s) (take k ts)) (sym one_more) ∙ none_behind s (take (i + 1) ts) (wrong.behind l)) in
    no_text_or (is_text s ts) _ _ (no_text s ts wrong.no_text) ∙ ap (λ k. Err (refusal.Syntax k)) (ap (byte_of text tokens) place_is ∙ sym e)

-- ---- as the code answers

-- what a cause of a refusal says of a reading
abbrev pub Says : Answer Trees → SyntaxError → Type 0
Says meant error.Memory = Unit {0}
Says meant (error.NoToken at) = ⊥
Says meant (error.At at) = meant ≡ Err (refusal.Syntax at)
Says meant (error.TooDeep at) = meant ≡ Err (refusal.TooDeep at)

pub why_says : (s : Start) (place : Place) (text : List ℕ) (tokens : List Token) (e : SyntaxError) → IsWhyWhole s place text tokens e → Says (read s place text tokens) e
why_says s place text tokens error.Memory why = tt
why_says s place text tokens (error.NoToken at) why = why
why_says s place text tokens (error.At at) why = wrong_is_read s place text tokens why.0 at why.1 why.2
why_says s place text tokens (error.TooDeep at) why = deep_is_read s place text tokens why.0 at why.1 why.2
