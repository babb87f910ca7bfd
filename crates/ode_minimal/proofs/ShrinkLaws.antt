-- The table of the states that were kept.
use Rattle.std.proofs.Common.{◌≡◌, ℕ, zero, suc, ◌+◌, ◌*◌, ◌/◌, ◌%◌, ◌<◌, ◌≤◌, Bool, false, List, [], ◌∷◌, ◌++◌, length, get_or, map, refl, sym, ap, ◌∙◌, subst, arith, inl, inr, ◌⊎◌, Some, None}
use Rattle.std.proofs.lemmas.Bool.{cases_lt}
use Rattle.std.proofs.lemmas.List.{get_or-map, length-map}
use Rattle.std.proofs.lemmas.List.Elements.{All-nil, All-cons, All-tail, All-append}
use Rattle.std.proofs.lemmas.List.Sums.{fold-append}
use Rattle.std.proofs.Math.Nat.{mul-le-mul_right}
use Rattle.ode_value.specs.Tables.{Table, next_state, run, says_yes}
use Rattle.ode_table.specs.Whole.{IsWhole}
use Rattle.ode_minimal.specs.declared.collapse.Collapse.{Collapse}
use Rattle.ode_minimal.specs.Collapse.{IsCollapse, table_of}
use Rattle.ode_minimal.specs.Minimal.{IsOf, IsAlike, AnswersAs, IsReached, IsMinimal}
use Rattle.ode_minimal.proofs.AlikeLaws.{alike-trans, alike-sym, alike-next}

module _ (t : Table) (c : Collapse) (h : IsCollapse t c (length c.states) 0) where
  abbrev small : Table
  small = table_of t c.states c.next

  abbrev state : ℕ → ℕ
  state n = get_or c.states n 0

  place_in : (n s : ℕ) → n < length c.states → s < t.symbols → n * t.symbols + s < length c.next
  place_in n s low below =
      let rows : (n + 1) * t.symbols ≤ length c.states * t.symbols = mul-le-mul_right t.symbols (omega arith) in
      let product : (n + 1) * t.symbols ≡ n * t.symbols + t.symbols = omega arith in
      omega (arith, rows, product, h.places)

  yes_at : (n : ℕ) → n < length c.states → says_yes small n ≡ says_yes t (state n)
  yes_at n low = get_or-map (says_yes t) c.states n 0 false low

  -- from a number on the small table answers as the large one from an alike state
  answers_at : (word : List ℕ) (n q : ℕ) → n < length c.states → IsAlike t (state n) q → IsOf t word → says_yes small (run small n word) ≡ says_yes t (run t q word)
  answers_at [] n q low alike of = yes_at n low ∙ alike [] (All-nil (λ s. s < t.symbols))
  answers_at (s ∷ word) n q low alike of =
      let below : s < t.symbols = of 0 0 (omega arith) in
      let step = h.steps n s below (place_in n s low below) in
      answers_at word (next_state small n s) (next_state t q s) step.within
      (alike-trans t (state (next_state small n s)) (next_state t (state n) s) (next_state t q s) step.alike (alike-next t (state n) q s below alike))
      (All-tail (λ x. x < t.symbols) s word of)

  alike-itself : (q : ℕ) → IsAlike t q q
  alike-itself q = λ word of. refl

  pub answers_as : AnswersAs t small
  answers_as = record {
    symbols = refl;
    answers = λ word of. answers_at word 0 0 h.some (subst (λ q. IsAlike t q 0) (sym h.start) (alike-itself 0)) of;
  }

  -- alike numbers are one
  pub is_minimal : IsMinimal small
  is_minimal = λ m n low_m low_n alike.
      let in_large : IsAlike t (state m) (state n) =
      λ word of. sym (answers_at word m (state m) low_m (alike-itself (state m)) of) ∙ alike word of ∙ answers_at word n (state n) low_n (alike-itself (state n)) of in
      let same : state m ≡ state n = by_order m n low_m low_n in_large (cases_lt (state m) (state n)) (cases_lt (state n) (state m)) in
      let numbers : Some m ≡ Some n = sym (h.numbered m low_m) ∙ ap (λ r. get_or c.numbers r None) same ∙ h.numbered n low_n in
      cc
    where
      by_order : (m n : ℕ) → m < length c.states → n < length c.states → IsAlike t (state m) (state n) → (state m < state n) ⊎ (state n ≤ state m) → (state n < state m) ⊎ (state m ≤ state n) → state m ≡ state n
      by_order m n low_m low_n alike (inl less) _ = absurd (h.first n low_n (state m) less alike)
      by_order m n low_m low_n alike (inr _) (inl more) = absurd (h.first m low_m (state n) more (alike-sym t (state m) (state n) alike))
      by_order m n low_m low_n alike (inr low) (inr high) = omega arith

  record HasWord (n : ℕ) : Type 0 where
    pub word : List ℕ
    pub symbols : IsOf t word
    pub reached : run small 0 word ≡ n

  word_below : (limit n : ℕ) → n < limit → n < length c.states → HasWord n
  word_below zero n low within = absurd (omega arith)
  word_below (suc limit) zero low within = record { word = []; symbols = All-nil (λ s. s < t.symbols); reached = refl }
  word_below (suc limit) (suc n) low within =
      let step = h.stepped (suc n) (omega arith) within in
      let before = word_below limit step.from (omega (arith, step.before)) (omega (arith, step.before)) in
      record {
        word = before.word ++ step.symbol ∷ [];
        symbols = All-append (λ x. x < t.symbols) before.word (step.symbol ∷ []) before.symbols (All-cons (λ x. x < t.symbols) step.symbol [] step.is_symbol (All-nil (λ x. x < t.symbols)));
        reached = fold-append (next_state small) 0 before.word (step.symbol ∷ []) ∙ ap (λ r. next_state small r step.symbol) before.reached ∙ step.to;
      }

  pub is_reached : IsReached small
  is_reached = λ n within. let has = word_below (n + 1) n (omega arith) within in (has.word, has.symbols, has.reached)

  -- its parts fit each other
  numbers_in : (i : ℕ) → i < length c.next → get_or c.next i 0 < length c.states
  numbers_in i within = by_symbols (cases_lt 0 t.symbols) where
    by_symbols : (0 < t.symbols) ⊎ (t.symbols ≤ 0) → get_or c.next i 0 < length c.states
    by_symbols (inl some) =
        let place : (i / t.symbols) * t.symbols + i % t.symbols ≡ i = omega (arith, some) in
        let step = h.steps (i / t.symbols) (i % t.symbols) (omega (arith, some)) (omega (arith, place, within)) in
        subst (λ k. get_or c.next k 0 < length c.states) place step.within
    by_symbols (inr none) =
        let is_none : t.symbols ≡ 0 = omega arith in
        let rows : length c.states * t.symbols ≡ length c.states * 0 = ap (λ k. length c.states * k) is_none in
        absurd (omega (arith, rows, h.places, within))

  pub is_whole : IsWhole small
  is_whole = record {
    some = h.some;
    rows = omega (arith, h.places);
    answers = length-map c.states (says_yes t);
    numbers = numbers_in;
  }

  pub is_small : (made : Table) (states symbols : ℕ) (says : List Bool) → made ≡ record { states = states; symbols = symbols; next = c.next; yes = says }
      → states ≡ length c.states → symbols ≡ t.symbols → says ≡ map (says_yes t) c.states → made ≡ small
  is_small made states symbols says is is_states is_symbols is_yes = is ∙ (λ i. record { states = is_states i; symbols = is_symbols i; next = c.next; yes = is_yes i })
