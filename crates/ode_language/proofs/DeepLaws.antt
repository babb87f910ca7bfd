-- The first token with which no text within the height goes on is the one that `deep_at` finds.
use Rattle.std.proofs.Common.{◌≡◌, ◌≤◌, ◌<◌, ℕ, suc, ◌+◌, List, [], ◌∷◌, ◌++◌, length, take, drop, Bool, true, false, cond, nat_lt, Option, Some, None, arith, refl, sym, ◌∙◌, ap, subst}
use Rattle.std.specs.Option.{option_and_then, option_map}
use Rattle.std.proofs.lemmas.Bool.Decides.{nat_tests}
use Rattle.std.proofs.lemmas.List.{append-nil, append_assoc, length-append, length-take, take-append-drop, take-append-le}
use Rattle.std.proofs.lemmas.Option.{none-some}
use Rattle.std.proofs.Math.Seq.{take-append_seam, take-append-add, take-length}
use Rattle.ode_grammar.specs.declared.item.Item.{Item}
use Rattle.ode_grammar.specs.declared.reader.Start.{Start}
use Rattle.ode_grammar.specs.declared.terminal.Terminal.{Terminal}
use Rattle.ode_grammar.specs.Grammar.{items_of}
use Rattle.ode_grammar.specs.Reading.{made_after, next, reached}
use Rattle.ode_grammar.proofs.Steps.{run_one}
use Rattle.ode_heights.specs.declared.height.Heights.{Heights}
use Rattle.ode_heights.specs.declared.height.TheConstants.{HEIGHT_LIMIT}
use Rattle.ode_heights.specs.Depths.{BeginsWithin, IsTextWithin, IsTooDeepAt}
use Rattle.ode_heights.specs.Heights.{heights, highest, none}
use Rattle.ode_heights.specs.Lowest.{lowest}
use Rattle.ode_heights.proofs.Depths.{ReadsTo, deep_ends, starts_reading, within_begins}
use Rattle.ode_language.specs.Reading.{deep_at, is_deep}

above : (n m : ℕ) → nat_lt n m ≡ true → n < m
above n m e = grind (arith, nat_tests)

not_above : (n m : ℕ) → nat_lt n m ≡ false → m ≤ n
not_above n m e = grind (arith, nat_tests)

-- the reader behind some tokens, where a text within the height goes on
pub record Reads (s : Start) (front : List Terminal) (items : List Item) (h : Heights) : Type 0 where
  pub reads : ReadsTo s front items h
  pub within : highest (lowest items h) ≤ HEIGHT_LIMIT

-- some tokens with which a text within the height begins, and with one more none does
pub record Turns (s : Start) (tokens : List Terminal) (i : ℕ) : Type 0 where
  pub front : List Terminal
  pub token : Terminal
  pub behind : List Terminal
  pub is_all : tokens ≡ front ++ token ∷ behind
  pub place : i ≡ length front
  pub before : BeginsWithin HEIGHT_LIMIT s front
  pub deep : BeginsWithin HEIGHT_LIMIT s (front ++ token ∷ []) → ⊥

-- what the rest of some tokens comes to
abbrev pub Ends : Start → List Terminal → List Terminal → ℕ → Option ℕ → Type 0
Ends s front ts n None = BeginsWithin HEIGHT_LIMIT s (front ++ ts)
Ends s front ts n (Some i) = Turns s (front ++ ts) (n + i)

later : (s : Start) (front ts : List Terminal) (t : Terminal) (o : Option ℕ)
    → Ends s (front ++ t ∷ []) ts (length (front ++ t ∷ [])) o → Ends s front (t ∷ ts) (length front) (option_map suc o)
later s front ts t None e = subst (BeginsWithin HEIGHT_LIMIT s) (append_assoc front (t ∷ []) ts) e
later s front ts t (Some i) e =
    let place : length front + suc i ≡ length (front ++ t ∷ []) + i = (let l = length-append front (t ∷ []) in omega arith) in
    record {
      front = e.front;
      token = e.token;
      behind = e.behind;
      is_all = sym (append_assoc front (t ∷ []) ts) ∙ e.is_all;
      place = place ∙ e.place;
      before = e.before;
      deep = e.deep;
    }

ends : (s : Start) (front ts : List Terminal) (items : List Item) (h : Heights) → Reads s front items h → (more : List Item) → reached items ts ≡ Some more
    → Ends s front ts (length front) (deep_at items h ts)
ends s front [] items h r more e = subst (BeginsWithin HEIGHT_LIMIT s) (sym (append-nil front)) (within_begins s front items h r.reads r.within)
ends s front (t ∷ ts) items h r more e =
    by_next (next items t) refl e (λ is next_reads f. ends s (front ++ t ∷ []) ts is (made_after heights items h t) next_reads more f)
  where
    by_deep : (is : List Item) → next items t ≡ Some is → reached is ts ≡ Some more
        → ((is : List Item) → Reads s (front ++ t ∷ []) is (made_after heights items h t) → reached is ts ≡ Some more
        → Ends s (front ++ t ∷ []) ts (length (front ++ t ∷ [])) (deep_at is (made_after heights items h t) ts))
        → (b : Bool) → is_deep is (made_after heights items h t) ≡ b
        → Ends s front (t ∷ ts) (length front) (cond b (Some 0) (option_map suc (deep_at is (made_after heights items h t) ts)))
    by_deep is n e rest true d =
        let reads : ReadsTo s (front ++ t ∷ []) is (made_after heights items h t) = run_one heights (items_of s) none front t items is h r.reads n in
        record {
          front = front;
          token = t;
          behind = ts;
          is_all = refl;
          place = omega arith;
          before = within_begins s front items h r.reads r.within;
          deep = deep_ends s (front ++ t ∷ []) is (made_after heights items h t) reads (above HEIGHT_LIMIT (highest (lowest is (made_after heights items h t))) d);
        }
    by_deep is n e rest false d =
        let reads : ReadsTo s (front ++ t ∷ []) is (made_after heights items h t) = run_one heights (items_of s) none front t items is h r.reads n in
        later s front ts t (deep_at is (made_after heights items h t) ts)
        (rest is (record { reads = reads; within = not_above HEIGHT_LIMIT (highest (lowest is (made_after heights items h t))) d }) e)

    by_next : (o : Option (List Item)) → next items t ≡ o → option_and_then (λ (is : List Item). reached is ts) o ≡ Some more
        → ((is : List Item) → Reads s (front ++ t ∷ []) is (made_after heights items h t) → reached is ts ≡ Some more
        → Ends s (front ++ t ∷ []) ts (length (front ++ t ∷ [])) (deep_at is (made_after heights items h t) ts))
        → Ends s front (t ∷ ts) (length front)
        (option_and_then (λ (is : List Item). cond (is_deep is (made_after heights items h t)) (Some 0) (option_map suc (deep_at is (made_after heights items h t) ts))) o)
    by_next None n e rest = absurd (none-some more e)
    by_next (Some is) n e rest = by_deep is n e rest (is_deep is (made_after heights items h t)) refl

-- what begins a text within the height at some tokens does so at fewer
begins_less : (s : Start) (tokens : List Terminal) (n k : ℕ) → n ≤ k → n ≤ length tokens → BeginsWithin HEIGHT_LIMIT s (take k tokens) → BeginsWithin HEIGHT_LIMIT s (take n tokens)
begins_less s tokens n k l m b =
    let inside : n ≤ length (take k tokens) = (let e = length-take k tokens in grind (arith, nat_tests)) in
    let front : take n (take k tokens) ≡ take n tokens = sym (take-append-le n (take k tokens) (drop k tokens) inside) ∙ ap (take n) (take-append-drop k tokens) in
    let split : take n tokens ++ (drop n (take k tokens) ++ b.more) ≡ take k tokens ++ b.more =
    ap (λ us. us ++ (drop n (take k tokens) ++ b.more)) (sym front)
    ∙ (sym (append_assoc (take n (take k tokens)) (drop n (take k tokens)) b.more) ∙ ap (λ us. us ++ b.more) (take-append-drop n (take k tokens))) in
    record { more = drop n (take k tokens) ++ b.more; is_text = subst (IsTextWithin HEIGHT_LIMIT s) (sym split) b.is_text }

begins_front : (s : Start) (tokens : List Terminal) (n : ℕ) → n ≤ length tokens → BeginsWithin HEIGHT_LIMIT s tokens → BeginsWithin HEIGHT_LIMIT s (take n tokens)
begins_front s tokens n l b = begins_less s tokens n (length tokens) l l (subst (BeginsWithin HEIGHT_LIMIT s) (sym (take-length tokens)) b)

turns_too_deep : (s : Start) (tokens : List Terminal) (i : ℕ) → Turns s tokens i → IsTooDeepAt HEIGHT_LIMIT s tokens i
turns_too_deep s tokens i t =
    let at_front : take i tokens ≡ t.front = ap (λ k. take k tokens) t.place ∙ (ap (take (length t.front)) t.is_all ∙ take-append_seam t.front (t.token ∷ t.behind)) in
    let one_more : take (i + 1) tokens ≡ t.front ++ t.token ∷ [] =
    ap (λ k. take (k + 1) tokens) t.place ∙ (ap (take (length t.front + 1)) t.is_all ∙ take-append-add t.front (t.token ∷ t.behind) 1) in
    let all : length tokens ≡ length t.front + suc (length t.behind) = ap length t.is_all ∙ length-append t.front (t.token ∷ t.behind) in
    let at : i ≡ length t.front = t.place in
    record {
      inside = omega (arith, all, at);
      before = subst (BeginsWithin HEIGHT_LIMIT s) (sym at_front) t.before;
      deep = λ b. t.deep (subst (BeginsWithin HEIGHT_LIMIT s) one_more b);
    }

-- there is one such place
deep_once : (s : Start) (tokens : List Terminal) (i j : ℕ) → IsTooDeepAt HEIGHT_LIMIT s tokens i → IsTooDeepAt HEIGHT_LIMIT s tokens j → i < j → ⊥
deep_once s tokens i j x y l =
    let inside = x.inside in
    x.deep (begins_less s tokens (i + 1) j (omega (arith, l)) (omega (arith, inside)) y.before)

deep_same : (s : Start) (tokens : List Terminal) (i j : ℕ) → IsTooDeepAt HEIGHT_LIMIT s tokens i → IsTooDeepAt HEIGHT_LIMIT s tokens j → i ≡ j
deep_same s tokens i j x y = by_order (nat_lt i j) (nat_lt j i) refl refl
  where
    by_order : (b c : Bool) → nat_lt i j ≡ b → nat_lt j i ≡ c → i ≡ j
    by_order true c e f = absurd (deep_once s tokens i j x y (above i j e))
    by_order false true e f = absurd (deep_once s tokens j i y x (above j i f))
    by_order false false e f = grind (arith, nat_tests)

-- of tokens that can all be read
abbrev pub Found : Start → List Terminal → Option ℕ → Type 0
Found s tokens None = BeginsWithin HEIGHT_LIMIT s tokens
Found s tokens (Some i) = IsTooDeepAt HEIGHT_LIMIT s tokens i

found_of : (s : Start) (tokens : List Terminal) (o : Option ℕ) → Ends s [] tokens 0 o → Found s tokens o
found_of s tokens None e = e
found_of s tokens (Some i) e = let same : 0 + i ≡ i = omega arith in turns_too_deep s tokens i (subst (Turns s tokens) same e)

found : (s : Start) (tokens : List Terminal) (more : List Item) → reached (items_of s) tokens ≡ Some more → Found s tokens (deep_at (items_of s) none tokens)
found s tokens more e =
    let begins = starts_reading s (items_of s) none refl refl in
    found_of s tokens (deep_at (items_of s) none tokens) (ends s [] tokens (items_of s) none (record { reads = begins.reads; within = begins.within }) more e)

pub none_deep : (s : Start) (tokens : List Terminal) (more : List Item) → reached (items_of s) tokens ≡ Some more → IsTextWithin HEIGHT_LIMIT s tokens
    → deep_at (items_of s) none tokens ≡ None
none_deep s tokens more e w = by_found (deep_at (items_of s) none tokens) (found s tokens more e)
  where
    begins : BeginsWithin HEIGHT_LIMIT s tokens
    begins = record { more = []; is_text = subst (IsTextWithin HEIGHT_LIMIT s) (sym (append-nil tokens)) w }

    by_found : (o : Option ℕ) → Found s tokens o → o ≡ None
    by_found None f = refl
    by_found (Some i) f = let inside = f.inside in absurd (f.deep (begins_front s tokens (i + 1) (omega (arith, inside)) begins))

pub deep_found : (s : Start) (tokens : List Terminal) (more : List Item) (i : ℕ) → reached (items_of s) tokens ≡ Some more → IsTooDeepAt HEIGHT_LIMIT s tokens i
    → deep_at (items_of s) none tokens ≡ Some i
deep_found s tokens more i e d = by_found (deep_at (items_of s) none tokens) (found s tokens more e)
  where
    by_found : (o : Option ℕ) → Found s tokens o → o ≡ Some i
    by_found None f = let inside = d.inside in absurd (d.deep (begins_front s tokens (i + 1) (omega (arith, inside)) f))
    by_found (Some j) f = ap Some (deep_same s tokens j i f d)
