-- A long word on which two expressions differ has a shorter one: it leads twice to the same pair of trees.
use Rattle.std.proofs.Common.{◌≡◌, ℕ, zero, suc, ◌+◌, ◌*◌, ◌<◌, ◌≤◌, Bool, true, false, cond, List, [], ◌∷◌, length, refl, sym, ap, ◌∙◌, subst, arith, inl, inr, ◌⊎◌}
use Rattle.std.specs.Prelude.{All, ◌||◌, eqb, fold}
use Rattle.std.specs.List.{AllByRecursion, IsDistinct, list_any}
use Rattle.std.proofs.lemmas.Bool.{cases_Bool, cases_lt, eqb-true, false≢true, or_cases}
use Rattle.std.proofs.lemmas.List.Elements.{All-cons, All-head, All-tail}
use Rattle.std.proofs.lemmas.Map.Steps.{length-le_from_distinct_below}
use Rattle.std.proofs.lemmas.Nat.{mul-add-lt, same_from_place}
use Rattle.ode_value.specs.declared.event.EventExpr.{EventExpr}
use Rattle.ode_value.specs.declared.tree.StateTree.{StateTree}
use Rattle.ode_value.specs.Limits.{state_limit}
use Rattle.ode_value.specs.Symbols.{symbol_count, symbol_mark}
use Rattle.ode_value.specs.Tables.{word_marks}
use Rattle.ode_value.specs.TreeOrder.{same_tree}
use Rattle.ode_value.specs.Trees.{answers, first_tree, next_tree}
use Rattle.ode_trees.proofs.EqualTrees.{same_tree-equal}
use Rattle.ode_trees.proofs.TreeAnswers.{answers-fires}
use Rattle.ode_same.specs.Differing.{Differ, IsAllowed, either, fires_at, longest_word}
use Rattle.ode_verdict_laws.proofs.Grown.{Knows, few-trees, first-known, step-known, trees}

-- ---- places in a list of trees

abbrev place : StateTree → List StateTree → ℕ
place s [] = 0
place s (x ∷ xs) = cond (same_tree s x) 0 (suc (place s xs))

later-known : (s x : StateTree) (xs : List StateTree) → same_tree s x ≡ false → Knows (x ∷ xs) s → Knows xs s
later-known s x xs is h = sym (ap (λ t. t || list_any (same_tree s) xs) is) ∙ h

place-below : (s : StateTree) (xs : List StateTree) → Knows xs s → place s xs < length xs
place-below s [] h = absurd (false≢true h)
place-below s (x ∷ xs) h = by (cases_Bool (same_tree s x)) (λ is. place-below s xs (later-known s x xs is h)) where
  by : (same_tree s x ≡ true) ⊎ (same_tree s x ≡ false) → (same_tree s x ≡ false → place s xs < length xs) → place s (x ∷ xs) < length (x ∷ xs)
  by (inl is) rest = subst (λ t. cond t 0 (suc (place s xs)) < suc (length xs)) (sym is) (omega arith)
  by (inr is) rest = subst (λ t. cond t 0 (suc (place s xs)) < suc (length xs)) (sym is) (omega (arith, rest is))

place-same : (s t : StateTree) (xs : List StateTree) → Knows xs s → Knows xs t → place s xs ≡ place t xs → s ≡ t
place-same s t [] hs ht same = absurd (false≢true hs)
place-same s t (x ∷ xs) hs ht same =
    by (cases_Bool (same_tree s x)) (cases_Bool (same_tree t x)) (λ is_s is_t. place-same s t xs (later-known s x xs is_s hs) (later-known t x xs is_t ht)) where
      at : (a b : Bool) → same_tree s x ≡ a → same_tree t x ≡ b → cond a 0 (suc (place s xs)) ≡ cond b 0 (suc (place t xs))
      at a b is_s is_t = sym (ap (λ q. cond q 0 (suc (place s xs))) is_s) ∙ same ∙ ap (λ q. cond q 0 (suc (place t xs))) is_t

      by : (same_tree s x ≡ true) ⊎ (same_tree s x ≡ false) → (same_tree t x ≡ true) ⊎ (same_tree t x ≡ false)
          → (same_tree s x ≡ false → same_tree t x ≡ false → place s xs ≡ place t xs → s ≡ t) → s ≡ t
      by (inl is_s) (inl is_t) rest = same_tree-equal s x is_s ∙ sym (same_tree-equal t x is_t)
      by (inl is_s) (inr is_t) rest = let apart = at true false is_s is_t in absurd (omega (arith, apart))
      by (inr is_s) (inl is_t) rest = let apart = at false true is_s is_t in absurd (omega (arith, apart))
      by (inr is_s) (inr is_t) rest = let more = at false false is_s is_t in rest is_s is_t (omega (arith, more))

-- ---- lists of numbers

none-equal : (c : ℕ) (xs : List ℕ) → list_any (eqb c) xs ≡ false → AllByRecursion (λ y. eqb c y ≡ false) xs
none-equal c [] h = tt
none-equal c (x ∷ xs) h = by (cases_Bool (eqb c x)) (none-equal c xs) where
  by : (eqb c x ≡ true) ⊎ (eqb c x ≡ false) → (list_any (eqb c) xs ≡ false → AllByRecursion (λ y. eqb c y ≡ false) xs) → AllByRecursion (λ y. eqb c y ≡ false) (x ∷ xs)
  by (inl is) rest = absurd (false≢true (sym h ∙ ap (λ t. t || list_any (eqb c) xs) is))
  by (inr is) rest = (is, rest (sym (ap (λ t. t || list_any (eqb c) xs) is) ∙ h))

distinct-more : (c : ℕ) (xs : List ℕ) → list_any (eqb c) xs ≡ false → IsDistinct eqb xs → IsDistinct eqb (c ∷ xs)
unfolding IsDistinct
distinct-more c xs h rest = (none-equal c xs h, rest)

distinct-none : IsDistinct eqb []
unfolding IsDistinct
distinct-none = tt

-- ---- pairs of trees

abbrev Pair : Type 0
Pair = StateTree × StateTree

module _ (e f : EventExpr) (h : IsAllowed e f) where
  abbrev of : EventExpr
  of = either e f

  abbrev AreSymbols : List ℕ → Type 0
  AreSymbols word = All (λ s. s < symbol_count of) word

  few-first : length (trees e of) ≤ state_limit
  few-first = few-trees e of h.first

  few-second : length (trees f of) ≤ state_limit
  few-second = few-trees f of h.second

  record IsIn (s : Pair) : Type 0 where
    pub first : Knows (trees e of) s.0
    pub second : Knows (trees f of) s.1

  abbrev step : ℕ → Pair → Pair
  step u s = (next_tree e (symbol_mark of u) s.0, next_tree f (symbol_mark of u) s.1)

  abbrev go : Pair → List ℕ → Pair
  go s [] = s
  go s (u ∷ word) = go (step u s) word

  abbrev start : Pair
  start = (first_tree e, first_tree f)

  is-start : IsIn start
  is-start = record { first = first-known e of; second = first-known f of }

  is-step : (u : ℕ) (s : Pair) → u < symbol_count of → IsIn s → IsIn (step u s)
  is-step u s low is = record { first = step-known e of few-first u low s.0 is.first; second = step-known f of few-second u low s.1 is.second }

  -- a number for each pair
  abbrev code : Pair → ℕ
  code s = place s.0 (trees e of) * state_limit + place s.1 (trees f of)

  low-first : (s : Pair) → IsIn s → place s.0 (trees e of) < state_limit
  low-first s is = omega (arith, place-below s.0 (trees e of) is.first, few-first)

  low-second : (s : Pair) → IsIn s → place s.1 (trees f of) < state_limit
  low-second s is = omega (arith, place-below s.1 (trees f of) is.second, few-second)

  code-below : (s : Pair) → IsIn s → code s < longest_word
  unfolding longest_word
  code-below s is = mul-add-lt (place s.0 (trees e of)) state_limit (place s.1 (trees f of)) state_limit (low-first s is) (low-second s is)

  code-same : (s t : Pair) → IsIn s → IsIn t → code s ≡ code t → s ≡ t
  code-same s t is it same =
      let parts = same_from_place (place s.0 (trees e of)) (place s.1 (trees f of)) (place t.0 (trees e of)) (place t.1 (trees f of)) state_limit (low-second s is) (low-second t it) same in
      let first = place-same s.0 t.0 (trees e of) is.first it.first parts.0 in
      let second = place-same s.1 t.1 (trees f of) is.second it.second parts.1 in
      λ i. (first i, second i)

  -- the numbers of the pairs that a word's fronts lead to
  abbrev codes : Pair → List ℕ → List ℕ
  codes s [] = []
  codes s (u ∷ word) = code (step u s) ∷ codes (step u s) word

  length-codes : (s : Pair) (word : List ℕ) → length (codes s word) ≡ length word
  length-codes s [] = refl
  length-codes s (u ∷ word) = ap suc (length-codes (step u s) word)

  -- a pair with a number, from which the rest of a word leads on
  record IsMet (s : Pair) (word : List ℕ) (c : ℕ) : Type 0 where
    pub pair : Pair
    pub rest : List ℕ
    pub is_in : IsIn pair
    pub number : code pair ≡ c
    pub symbols : AreSymbols rest
    pub less : length rest < length word
    pub same : go pair rest ≡ go s word

  met : (c : ℕ) (s : Pair) (word : List ℕ) → IsIn s → AreSymbols word → list_any (eqb c) (codes s word) ≡ true → IsMet s word c
  met c s [] is all h = absurd (false≢true h)
  met c s (u ∷ word) is all h =
      by (or_cases (eqb c (code (step u s))) (list_any (eqb c) (codes (step u s) word)) h) (met c (step u s) word here behind) where
        here : IsIn (step u s)
        here = is-step u s (All-head (λ x. x < symbol_count of) u word all) is

        behind : AreSymbols word
        behind = All-tail (λ x. x < symbol_count of) u word all

        by : (eqb c (code (step u s)) ≡ true) ⊎ (list_any (eqb c) (codes (step u s) word) ≡ true) → (list_any (eqb c) (codes (step u s) word) ≡ true → IsMet (step u s) word c) → IsMet s (u ∷ word) c
        by (inl equal) later = record { pair = step u s; rest = word; is_in = here; number = sym (eqb-true c (code (step u s)) equal); symbols = behind; less = omega arith; same = refl }
        by (inr more) later =
            let m = later more in
            record { pair = m.pair; rest = m.rest; is_in = m.is_in; number = m.number; symbols = m.symbols; less = omega (arith, m.less); same = m.same }

  -- a shorter word to the same pair
  record IsCut (s : Pair) (word : List ℕ) : Type 0 where
    pub short : List ℕ
    pub symbols : AreSymbols short
    pub some : 0 < length short
    pub less : length short < length word
    pub same : go s short ≡ go s word

  cut : (s : Pair) (word : List ℕ) → IsIn s → AreSymbols word → IsDistinct eqb (codes s word) ⊎ IsCut s word
  cut s [] is all = inl distinct-none
  cut s (u ∷ word) is all = by (cases_Bool (list_any (eqb (code t)) (codes t word))) (cut t word here behind) where
    t : Pair
    t = step u s

    small : u < symbol_count of
    small = All-head (λ x. x < symbol_count of) u word all

    here : IsIn (step u s)
    here = is-step u s small is

    behind : AreSymbols word
    behind = All-tail (λ x. x < symbol_count of) u word all

    by : (list_any (eqb (code (step u s))) (codes (step u s) word) ≡ true) ⊎ (list_any (eqb (code (step u s))) (codes (step u s) word) ≡ false)
        → IsDistinct eqb (codes (step u s) word) ⊎ IsCut (step u s) word → IsDistinct eqb (codes s (u ∷ word)) ⊎ IsCut s (u ∷ word)
    by (inl again) rest =
        let m = met (code (step u s)) (step u s) word here behind again in
        let back : m.pair ≡ step u s = code-same m.pair (step u s) m.is_in here m.number in
        inr (record {
          short = u ∷ m.rest;
          symbols = All-cons (λ x. x < symbol_count of) u m.rest small m.symbols;
          some = omega arith;
          less = omega (arith, m.less);
          same = sym (ap (λ p. go p m.rest) back) ∙ m.same;
        })
    by (inr new) (inl distinct) = inl (distinct-more (code (step u s)) (codes (step u s) word) new distinct)
    by (inr new) (inr shorter) =
        inr (record {
          short = u ∷ shorter.short;
          symbols = All-cons (λ x. x < symbol_count of) u shorter.short small shorter.symbols;
          some = omega arith;
          less = omega (arith, shorter.less);
          same = shorter.same;
        })

  -- ---- what a word leads to tells which expressions fire

  first-fires : (word : List ℕ) → fires_at e of word ≡ answers e (go start word).0
  first-fires word = sym (answers-fires e (word_marks of word)) ∙ ap (answers e) (along start word) where
    along : (s : Pair) (word : List ℕ) → fold (λ q mark. next_tree e mark q) s.0 (word_marks of word) ≡ (go s word).0
    along s [] = refl
    along s (u ∷ word) = along (step u s) word

  second-fires : (word : List ℕ) → fires_at f of word ≡ answers f (go start word).1
  second-fires word = sym (answers-fires f (word_marks of word)) ∙ ap (answers f) (along start word) where
    along : (s : Pair) (word : List ℕ) → fold (λ q mark. next_tree f mark q) s.1 (word_marks of word) ≡ (go s word).1
    along s [] = refl
    along s (u ∷ word) = along (step u s) word

  -- they differ on the shorter one as on the long one
  differ-cut : (word : List ℕ) → Differ e f word → (c : IsCut start word) → Differ e f c.short
  differ-cut word d c = record {
    is_word = record { some = c.some; each = c.symbols };
    one_fires = λ alike. d.one_fires (first-fires word ∙ ap (λ p. answers e p.0) (sym c.same) ∙ sym (first-fires c.short) ∙ alike ∙ second-fires c.short ∙ ap (λ p. answers f p.1) c.same ∙ sym (second-fires word));
  }

  shorter : (word : List ℕ) → longest_word < length word → Differ e f word → IsCut start word
  shorter word long d = by (cut start word is-start d.is_word.each) where
    below : (q : ℕ) → list_any (eqb q) (codes start word) ≡ true → q < longest_word
    below q there = let m = met q start word is-start d.is_word.each there in subst (λ n. n < longest_word) m.number (code-below m.pair m.is_in)

    by : IsDistinct eqb (codes start word) ⊎ IsCut start word → IsCut start word
    by (inl distinct) = absurd (omega (arith, length-le_from_distinct_below (codes start word) longest_word distinct below, length-codes start word))
    by (inr c) = c

  none-of : (n : ℕ) (word : List ℕ) → length word ≤ n → ((other : List ℕ) → length other ≤ longest_word → Differ e f other → ⊥) → Differ e f word → ⊥
  none-of zero word low none d = omega (arith, d.is_word.some)
  none-of (suc n) word low none d = by (cases_lt longest_word (length word)) (none-of n) where
    by : (longest_word < length word) ⊎ (length word ≤ longest_word)
        → ((other : List ℕ) → length other ≤ n → ((other : List ℕ) → length other ≤ longest_word → Differ e f other → ⊥) → Differ e f other → ⊥) → ⊥
    by (inl long) rest = let c = shorter word long d in rest c.short (omega (arith, c.less)) none (differ-cut word d c)
    by (inr short) rest = none word short d

  -- where no short word differs, none does
  pub no-word : ((word : List ℕ) → length word ≤ longest_word → Differ e f word → ⊥) → (word : List ℕ) → Differ e f word → ⊥
  no-word none word d = none-of (length word) word (omega arith) none d
