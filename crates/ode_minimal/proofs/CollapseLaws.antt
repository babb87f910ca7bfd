-- Alike states put together, step by step.
use Rattle.std.proofs.Common.{◌≡◌, ◌≢◌, ℕ, zero, suc, ◌+◌, ◌*◌, ◌^◌, ◌<◌, ◌≤◌, cond, List, [], ◌∷◌, ◌++◌, length, get_or, set, replicate, refl, sym, ap, ◌∙◌, subst, arith, inl, inr, ◌⊎◌, Option, Some, None}
use Rattle.std.specs.Prelude.{is_some}
use Rattle.std.proofs.lemmas.Bool.{cases_eq, cases_lt}
use Rattle.std.proofs.lemmas.List.{get_or_append_left, get_or_push, get_or_past, get_or-set_same, get_or-set_other, get_or-replicate, length_push, length-set, length-replicate}
use Rattle.std.proofs.lemmas.List.Folds.{sum_by-replicate}
use Rattle.std.proofs.lemmas.List.Sums.{sum_by-set, count_by-le-length}
use Rattle.std.proofs.Math.Nat.{mul-le-mul_right}
use Rattle.std.proofs.lemmas.Nat.{same_from_place}
use Rattle.ode_value.specs.Tables.{Table, next_state}
use Rattle.ode_minimal.specs.declared.collapse.Collapse.{Collapse}
use Rattle.ode_minimal.specs.Collapse.{IsFirst, IsStepped, IsFor, IsNumbered, IsCollapse}
use Rattle.ode_minimal.specs.Minimal.{IsAlike}
use Rattle.ode_minimal.proofs.AlikeLaws.{push_each}

abbrev one : Option ℕ → ℕ
one o = cond (is_some o) 1 0

stepped_more : (symbols : ℕ) (next : List ℕ) (x n : ℕ) → IsStepped symbols next n → IsStepped symbols (next ++ x ∷ []) n
stepped_more symbols next x n h = record {
  from = h.from;
  symbol = h.symbol;
  before = h.before;
  is_symbol = h.is_symbol;
  within = omega (arith, length_push next x, h.within);
  to = get_or_append_left next (x ∷ []) 0 (h.from * symbols + h.symbol) h.within ∙ h.to;
}

module _ (t : Table) (c : Collapse) (head s q : ℕ) (h : IsCollapse t c head s) (inside : head < length c.states) (is_symbol : s < t.symbols) (is_state : q < t.states)
    (alike : IsAlike t q (next_state t (get_or c.states head 0) s)) (first : IsFirst t q) where
  -- steps are as before, and there is one more
  steps_by : (states : List ℕ) (n : ℕ) → ((m : ℕ) → m < length c.states → get_or states m 0 ≡ get_or c.states m 0) → length c.states ≤ length states
      → IsFor t states n (next_state t (get_or c.states head 0) s)
      → (m x : ℕ) → x < t.symbols → m * t.symbols + x < length (c.next ++ n ∷ [])
      → IsFor t states (get_or (c.next ++ n ∷ []) (m * t.symbols + x) 0) (next_state t (get_or states m 0) x)
  steps_by states n same longer new m x below within = by_place (cases_lt (m * t.symbols + x) (length c.next)) where
    before_head : m * t.symbols + x < length c.next → m < length c.states
    before_head low = by_order (cases_lt head m) where
      by_order : (head < m) ⊎ (m ≤ head) → m < length c.states
      by_order (inl late) =
          let rows : (head + 1) * t.symbols ≤ m * t.symbols = mul-le-mul_right t.symbols (omega arith) in
          let product : (head + 1) * t.symbols ≡ head * t.symbols + t.symbols = omega arith in
          absurd (omega (arith, rows, product, low, h.places))
      by_order (inr early) = omega arith

    by_place : (m * t.symbols + x < length c.next) ⊎ (length c.next ≤ m * t.symbols + x) → IsFor t states (get_or (c.next ++ n ∷ []) (m * t.symbols + x) 0) (next_state t (get_or states m 0) x)
    by_place (inl low) =
        let old = h.steps m x below low in
        let here = get_or_append_left c.next (n ∷ []) 0 (m * t.symbols + x) low in
        let from = same m (before_head low) in
        let is = subst (λ k. IsFor t c.states k (next_state t (get_or c.states m 0) x)) (sym here) old in
        let is' = subst (λ r. IsFor t c.states (get_or (c.next ++ n ∷ []) (m * t.symbols + x) 0) (next_state t r x)) (sym from) is in
        record {
          within = omega (arith, is'.within);
          alike = subst (λ r. IsAlike t r (next_state t (get_or states m 0) x)) (sym (same (get_or (c.next ++ n ∷ []) (m * t.symbols + x) 0) is'.within)) is'.alike;
        }
    by_place (inr high) =
        let place : m * t.symbols + x ≡ head * t.symbols + s = omega (arith, length_push c.next n, h.places) in
        let parts = same_from_place m x head s t.symbols below is_symbol place in
        let here : get_or (c.next ++ n ∷ []) (m * t.symbols + x) 0 ≡ n = get_or_push c.next n 0 (m * t.symbols + x) (h.places ∙ sym place) in
        let from : get_or states m 0 ≡ get_or c.states head 0 = ap (λ k. get_or states k 0) parts.0 ∙ same head inside in
        subst (λ k. IsFor t states k (next_state t (get_or states m 0) x)) (sym here)
        (subst (λ r. IsFor t states n (next_state t r x)) (sym from) (subst (λ y. IsFor t states n (next_state t (get_or c.states head 0) y)) (sym parts.1) new))

  -- the state has a number
  collapse_known : (n : ℕ) → get_or c.numbers q None ≡ Some n → IsCollapse t record { states = c.states; numbers = c.numbers; next = c.next ++ n ∷ [] } head (s + 1)
  collapse_known n is =
      let has = h.numbers q n is in
      record {
        few = h.few;
        some = h.some;
        start = h.start;
        below = h.below;
        first = h.first;
        rows = h.rows;
        numbered = h.numbered;
        numbers = h.numbers;
        once = h.once;
        within = h.within;
        places = omega (arith, length_push c.next n, h.places);
        steps = steps_by c.states n (λ m within. refl) (omega arith) record { within = has.0; alike = subst (λ r. IsAlike t r (next_state t (get_or c.states head 0) s)) (sym has.1) alike };
        stepped = λ m after within. stepped_more t.symbols c.next n m (h.stepped m after within);
      }

  abbrev states' : List ℕ
  states' = c.states ++ q ∷ []

  abbrev numbers' : List (Option ℕ)
  numbers' = set c.numbers q (Some (length c.states))

  longer : length states' ≡ length c.states + 1
  longer = length_push c.states q

  in_numbers : q < length c.numbers
  in_numbers = subst (λ n. q < n) (sym h.rows) is_state

  module _ (unnumbered : get_or c.numbers q None ≡ None) where
    other_state : (n : ℕ) → n < length c.states → get_or c.states n 0 ≢ q
    other_state n within same =
        let is : Some n ≡ None = sym (h.numbered n within) ∙ ap (λ r. get_or c.numbers r None) same ∙ unnumbered in
        cc

    numbers_by : (r n : ℕ) → get_or numbers' r None ≡ Some n → (n < length states') × (get_or states' n 0 ≡ r)
    numbers_by r n is = by_case (cases_eq r q) where
      by_case : (r ≡ q) ⊎ (r ≢ q) → (n < length states') × (get_or states' n 0 ≡ r)
      by_case (inl same) =
          let last : Some (length c.states) ≡ Some n = sym (get_or-set_same c.numbers q (Some (length c.states)) None in_numbers) ∙ ap (λ k. get_or numbers' k None) (sym same) ∙ is in
          let is_n : length c.states ≡ n = cc in
          (omega (arith, longer), get_or_push c.states q 0 n is_n ∙ sym same)
      by_case (inr other) =
          let old = h.numbers r n (sym (get_or-set_other c.numbers q r (Some (length c.states)) None other) ∙ is) in
          (omega (arith, longer, old.0), get_or_append_left c.states (q ∷ []) 0 n old.0 ∙ old.1)

    stepped_by : (n : ℕ) → 0 < n → n < length states' → IsStepped t.symbols (c.next ++ length c.states ∷ []) n
    stepped_by n after within = by_place (cases_lt n (length c.states)) where
      by_place : (n < length c.states) ⊎ (length c.states ≤ n) → IsStepped t.symbols (c.next ++ length c.states ∷ []) n
      by_place (inl low) = stepped_more t.symbols c.next (length c.states) n (h.stepped n after low)
      by_place (inr high) =
          let is_n : length c.states ≡ n = omega (arith, longer) in
          record {
            from = head;
            symbol = s;
            before = omega arith;
            is_symbol = is_symbol;
            within = omega (arith, length_push c.next (length c.states), h.places);
            to = get_or_push c.next (length c.states) 0 (head * t.symbols + s) h.places ∙ is_n;
          }

    collapse_new : IsCollapse t record { states = states'; numbers = numbers'; next = c.next ++ length c.states ∷ [] } head (s + 1)
    collapse_new = record {
      few = h.few;
      some = omega (arith, longer);
      start = get_or_append_left c.states (q ∷ []) 0 0 h.some ∙ h.start;
      below = push_each c.states q 0 (λ r _. r < t.states) h.below is_state;
      first = push_each c.states q 0 (λ r _. IsFirst t r) h.first first;
      rows = length-set c.numbers q (Some (length c.states)) ∙ h.rows;
      numbered = push_each c.states q 0 (λ r n. get_or numbers' r None ≡ Some n)
          (λ n within. get_or-set_other c.numbers q (get_or c.states n 0) (Some (length c.states)) None (other_state n within) ∙ h.numbered n within)
          (get_or-set_same c.numbers q (Some (length c.states)) None in_numbers);
      numbers = numbers_by;
      once =
          let change = sum_by-set one c.numbers q (Some (length c.states)) None in_numbers in
          let none : one (get_or c.numbers q None) ≡ 0 = ap one unnumbered in
          omega (arith, change, none, h.once, longer);
      within = omega (arith, longer, h.within);
      places = omega (arith, length_push c.next (length c.states), h.places);
      steps = steps_by states' (length c.states) (λ m within. get_or_append_left c.states (q ∷ []) 0 m within) (omega (arith, longer))
          record {
            within = omega (arith, longer);
            alike = subst (λ r. IsAlike t r (next_state t (get_or c.states head 0) s)) (sym (get_or_push c.states q 0 (length c.states) refl)) alike;
          };
      stepped = stepped_by;
    }

  pub collapse_step : (c1 : Collapse) (n : ℕ) (next1 : List ℕ) → IsNumbered (get_or c.numbers q None) c c1 q n → next1 ≡ c1.next ++ n ∷ []
      → IsCollapse t record { states = c1.states; numbers = c1.numbers; next = next1 } head (s + 1)
  collapse_step c1 n next1 = by_number (get_or c.numbers q None) refl where
    by_number : (o : Option ℕ) → get_or c.numbers q None ≡ o → IsNumbered o c c1 q n → next1 ≡ c1.next ++ n ∷ [] → IsCollapse t record { states = c1.states; numbers = c1.numbers; next = next1 } head (s + 1)
    by_number (Some m) is numbered is_next =
        let all : next1 ≡ c.next ++ m ∷ [] = is_next ∙ (λ i. (numbered.1 i).next ++ numbered.0 i ∷ []) in
        subst (λ (d : Collapse). IsCollapse t record { states = d.states; numbers = d.numbers; next = next1 } head (s + 1)) (sym numbered.1)
        (subst (λ l. IsCollapse t record { states = c.states; numbers = c.numbers; next = l } head (s + 1)) (sym all) (collapse_known m is))
    by_number None is numbered is_next =
        let all : next1 ≡ c.next ++ length c.states ∷ [] = is_next ∙ (λ i. (numbered.1 i).next ++ numbered.0 i ∷ []) in
        subst (λ (d : Collapse). IsCollapse t record { states = d.states; numbers = d.numbers; next = next1 } head (s + 1)) (sym numbered.1)
        (subst (λ l. IsCollapse t record { states = states'; numbers = numbers'; next = l } head (s + 1)) (sym all) (collapse_new is))

  pub head_stays : (c1 : Collapse) (n : ℕ) → IsNumbered (get_or c.numbers q None) c c1 q n → head < length c1.states
  head_stays c1 n = by_number (get_or c.numbers q None) where
    by_number : (o : Option ℕ) → IsNumbered o c c1 q n → head < length c1.states
    by_number (Some m) numbered = omega (arith, ap (λ (d : Collapse). length d.states) numbered.1)
    by_number None numbered = omega (arith, ap (λ (d : Collapse). length d.states) numbered.1, longer)

-- ---- from row to row

pub few_kept : (t : Table) (c : Collapse) (head s : ℕ) → IsCollapse t c head s → length c.states ≤ t.states
few_kept t c head s h = omega (arith, count_by-le-length (λ (o : Option ℕ). is_some o) c.numbers, h.once, h.rows)

-- ---- the start

abbrev pub no_number : Option ℕ
no_number = None

abbrev pub none_of : ℕ → List (Option ℕ)
none_of n = replicate n no_number

abbrev only_start : List ℕ
only_start = 0 ∷ []

none-numbered : (n k : ℕ) → get_or (none_of n) k no_number ≡ no_number
none-numbered n k = by_length (cases_lt k n) where
  by_length : (k < n) ⊎ (n ≤ k) → get_or (none_of n) k no_number ≡ no_number
  by_length (inl low) = get_or-replicate n k no_number no_number low
  by_length (inr high) = get_or_past (none_of n) k no_number (omega (arith, length-replicate n no_number))

module _ (t : Table) (few_states : t.states < 2 ^ 16) (some_states : 0 < t.states) where
  abbrev none : List (Option ℕ)
  none = none_of t.states

  abbrev start_numbers : List (Option ℕ)
  start_numbers = set none 0 (Some 0)

  length_none : length none ≡ t.states
  length_none = length-replicate t.states no_number

  start_by : (q n : ℕ) → get_or start_numbers q None ≡ Some n → (n < length only_start) × (get_or only_start n 0 ≡ q)
  start_by q n is = by_case (cases_eq q 0) where
    by_case : (q ≡ 0) ⊎ (q ≢ 0) → (n < length only_start) × (get_or only_start n 0 ≡ q)
    by_case (inl same) =
        let first : Some 0 ≡ Some n = sym (get_or-set_same none 0 (Some 0) None (omega (arith, length_none))) ∙ ap (λ k. get_or start_numbers k None) (sym same) ∙ is in
        let is_n : 0 ≡ n = cc in
        (omega arith, ap (λ k. get_or only_start k 0) (sym is_n) ∙ sym same)
    by_case (inr other) =
        let never : None ≡ Some n = sym (get_or-set_other none 0 q (Some 0) None other ∙ none-numbered t.states q) ∙ is in
        cc

  only_first : (P : ℕ → ℕ → Type 0) → P 0 0 → (n : ℕ) → n < length only_start → P (get_or only_start n 0) n
  only_first P here zero within = here
  only_first P here (suc n) within = absurd (omega arith)

  start_collapse : IsCollapse t record { states = only_start; numbers = start_numbers; next = [] } 0 0
  start_collapse = record {
    few = few_states;
    some = omega arith;
    start = refl;
    below = only_first (λ q _. q < t.states) some_states;
    first = only_first (λ q _. IsFirst t q) (λ p before alike. omega arith);
    rows = length-set none 0 (Some 0) ∙ length_none;
    numbered = only_first (λ q n. get_or start_numbers q None ≡ Some n) (get_or-set_same none 0 (Some 0) None (omega (arith, length_none)));
    numbers = start_by;
    once =
        let change = sum_by-set one none 0 (Some 0) None (omega (arith, length_none)) in
        let nothing : one (get_or none 0 None) ≡ 0 = ap one (none-numbered t.states 0) in
        omega (arith, change, nothing, sum_by-replicate one t.states no_number);
    within = omega arith;
    places = omega arith;
    steps = λ n s below within. absurd (omega arith);
    stepped = λ n after within. absurd (omega arith);
  }

  pub collapse_begin : (c c1 : Collapse) (n : ℕ) → c.states ≡ [] → c.numbers ≡ none → c.next ≡ [] → IsNumbered (get_or c.numbers 0 None) c c1 0 n → IsCollapse t c1 0 0
  collapse_begin c c1 n no_states no_numbers no_next numbered =
      let unnumbered : get_or c.numbers 0 None ≡ None = ap (λ l. get_or l 0 None) no_numbers ∙ none-numbered t.states 0 in
      let told : IsNumbered None c c1 0 n = subst (λ o. IsNumbered o c c1 0 n) unnumbered numbered in
      let is : c1 ≡ record { states = 0 ∷ []; numbers = start_numbers; next = [] } =
      told.1 ∙ (λ i. record { states = no_states i ++ 0 ∷ []; numbers = set (no_numbers i) 0 (Some (length (no_states i))); next = no_next i }) in
      subst (λ d. IsCollapse t d 0 0) (sym is) start_collapse
