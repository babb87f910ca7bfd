-- The states that are told without a word are those that a word leads to.
use Rattle.std.proofs.Common.{◌≡◌, ◌≢◌, ℕ, zero, suc, ◌+◌, ◌*◌, ◌<◌, Bool, true, List, [], ◌∷◌, ◌++◌, refl, sym, ap, ◌∙◌, subst, arith, inl, inr, ◌⊎◌}
use Rattle.std.specs.Prelude.{All, nat_lt, ◌==◌, ◌&&◌}
use Rattle.std.specs.List.{list_any, range_with_len}
use Rattle.std.proofs.lemmas.Bool.{and_from, and_parts, cases_eq, eq-eqb, eqb-true, false≢true, lt-ltb, ltb-true, or_cases, or_left, or_right}
use Rattle.std.proofs.lemmas.List.Elements.{All-nil, All-cons, All-append, All-tail}
use Rattle.std.proofs.lemmas.List.Sums.{fold-append}
use Rattle.std.proofs.lemmas.Nat.{mul-add-lt}
use Rattle.std.proofs.Math.Nat.{mul_comm}
use Rattle.ode_table.specs.Whole.{IsWhole}
use Rattle.ode_value.specs.Tables.{Table, next_state, run}
use Rattle.ode_walk.specs.Reaching.{is_reached, leads_below, steps_to}
use Rattle.ode_walk.specs.Relation.{IsReached}

-- ---- numbers of a range

any_in : (f : ℕ → Bool) (a n k : ℕ) → k < n → f (a + k) ≡ true → list_any f (range_with_len a n) ≡ true
any_in f a zero k low is = absurd (omega arith)
any_in f a (suc n) zero low is =
    let here : a ≡ a + 0 = omega arith in
    or_left (f a) (list_any f (range_with_len (a + 1) n)) (ap f here ∙ is)
any_in f a (suc n) (suc k) low is =
    let there : a + 1 + k ≡ a + suc k = omega arith in
    or_right (f a) (list_any f (range_with_len (a + 1) n)) (any_in f (a + 1) n k (omega arith) (ap f there ∙ is))

record IsIn (f : ℕ → Bool) (a n : ℕ) : Type 0 where
  pub at : ℕ
  pub low : at < a + n
  pub is : f at ≡ true

in_by : (f : ℕ → Bool) (a n : ℕ) → (list_any f (range_with_len (a + 1) n) ≡ true → IsIn f (a + 1) n) → (f a ≡ true) ⊎ (list_any f (range_with_len (a + 1) n) ≡ true) → IsIn f a (suc n)
in_by f a n again (inl here) = record { at = a; low = omega arith; is = here }
in_by f a n again (inr there) =
    let more = again there in
    record { at = more.at; low = omega (arith, more.low); is = more.is }

in_any : (f : ℕ → Bool) (a n : ℕ) → list_any f (range_with_len a n) ≡ true → IsIn f a n
in_any f a zero is = absurd (false≢true is)
in_any f a (suc n) is = in_by f a n (λ there. in_any f (a + 1) n there) (or_cases (f a) (list_any f (range_with_len (a + 1) n)) is)

module _ (t : Table) where
  abbrev leads : ℕ → ℕ → ℕ → Bool
  leads = leads_below t

  -- ---- ways

  more : (n p q : ℕ) → leads n p q ≡ true → leads (suc n) p q ≡ true
  unfolding leads_below
  more n p q way = or_left (leads n p q) (leads n p n && leads n n q) way

  by_way : (n p q : ℕ) → leads n p n ≡ true → leads n n q ≡ true → leads (suc n) p q ≡ true
  unfolding leads_below
  by_way n p q one two = or_right (leads n p q) (leads n p n && leads n n q) (and_from (leads n p n) (leads n n q) one two)

  parts : (n p q : ℕ) → leads (suc n) p q ≡ true → (leads n p q ≡ true) ⊎ ((leads n p n ≡ true) × (leads n n q ≡ true))
  unfolding leads_below
  parts n p q way = by (or_cases (leads n p q) (leads n p n && leads n n q) way) where
    by : (leads n p q ≡ true) ⊎ ((leads n p n && leads n n q) ≡ true) → (leads n p q ≡ true) ⊎ ((leads n p n ≡ true) × (leads n n q ≡ true))
    by (inl straight) = inl straight
    by (inr around) = inr (and_parts (leads n p n) (leads n n q) around)

  -- to the greatest state in between, and from it
  to_top : (n p : ℕ) → leads (suc n) p n ≡ true → leads n p n ≡ true
  to_top n p way = by (parts n p n way) where
    by : (leads n p n ≡ true) ⊎ ((leads n p n ≡ true) × (leads n n n ≡ true)) → leads n p n ≡ true
    by (inl straight) = straight
    by (inr around) = around.0

  from_top : (n q : ℕ) → leads (suc n) n q ≡ true → leads n n q ≡ true
  from_top n q way = by (parts n n q way) where
    by : (leads n n q ≡ true) ⊎ ((leads n n n ≡ true) × (leads n n q ≡ true)) → leads n n q ≡ true
    by (inl straight) = straight
    by (inr around) = around.1

  -- one way behind another one, by a state below the number
  module _ (n : ℕ) (again : (p r q : ℕ) → r < n → leads n p r ≡ true → leads n r q ≡ true → leads n p q ≡ true) (p r q : ℕ) where
    by_parts : r < n → (leads n p r ≡ true) ⊎ ((leads n p n ≡ true) × (leads n n r ≡ true)) → (leads n r q ≡ true) ⊎ ((leads n r n ≡ true) × (leads n n q ≡ true)) → leads (suc n) p q ≡ true
    by_parts less (inl a) (inl b) = more n p q (again p r q less a b)
    by_parts less (inl a) (inr b) = by_way n p q (again p r n less a b.0) b.1
    by_parts less (inr a) (inl b) = by_way n p q a.0 (again n r q less a.1 b)
    by_parts less (inr a) (inr b) = by_way n p q a.0 b.1

    by_state : r < suc n → leads (suc n) p r ≡ true → leads (suc n) r q ≡ true → (r ≡ n) ⊎ (r ≢ n) → leads (suc n) p q ≡ true
    by_state low one two (inl same) =
        by_way n p q (to_top n p (subst (λ x. leads (suc n) p x ≡ true) same one)) (from_top n q (subst (λ x. leads (suc n) x q ≡ true) same two))
    by_state low one two (inr other) = by_parts (omega arith) (parts n p r one) (parts n r q two)

  pub leads_on : (n p r q : ℕ) → r < n → leads n p r ≡ true → leads n r q ≡ true → leads n p q ≡ true
  leads_on zero p r q low one two = absurd (omega arith)
  leads_on (suc n) p r q low one two = by_state n (λ p' r' q' less a b. leads_on n p' r' q' less a b) p r q low one two (cases_eq r n)

  -- no way, and a way by one symbol
  stays : (n p : ℕ) → leads n p p ≡ true
  unfolding leads_below
  stays zero p = or_left (p == p) (steps_to t p p) (eq-eqb p p refl)
  stays (suc n) p = more n p p (stays n p)

  steps : (n p s : ℕ) → s < t.symbols → leads n p (next_state t p s) ≡ true
  unfolding leads_below
  steps zero p s low =
      let first : 0 + s ≡ s = omega arith in
      or_right (p == next_state t p s) (steps_to t p (next_state t p s))
      (any_in (λ x. next_state t p x == next_state t p s) 0 t.symbols s low
      (ap (λ x. next_state t p x == next_state t p s) first ∙ eq-eqb (next_state t p s) (next_state t p s) refl))
  steps (suc n) p s low = more n p (next_state t p s) (steps n p s low)

  -- ---- words

  -- a word leads from a state to another one
  record IsLed (p q : ℕ) : Type 0 where
    pub word : List ℕ
    pub symbols : All (λ s. s < t.symbols) word
    pub to : run t p word ≡ q

  led_on : (p r q : ℕ) → IsLed p r → IsLed r q → IsLed p q
  led_on p r q one two = record {
    word = one.word ++ two.word;
    symbols = All-append (λ s. s < t.symbols) one.word two.word one.symbols two.symbols;
    to = fold-append (next_state t) p one.word two.word ∙ ap (λ x. run t x two.word) one.to ∙ two.to;
  }

  led_one : (p q : ℕ) → ((p == q) ≡ true) ⊎ (steps_to t p q ≡ true) → IsLed p q
  led_one p q (inl same) = record { word = []; symbols = All-nil (λ s. s < t.symbols); to = eqb-true p q same }
  led_one p q (inr step) =
      let there = in_any (λ s. next_state t p s == q) 0 t.symbols step in
      record {
        word = there.at ∷ [];
        symbols = All-cons (λ s. s < t.symbols) there.at [] (omega (arith, there.low)) (All-nil (λ s. s < t.symbols));
        to = eqb-true (next_state t p there.at) q there.is;
      }

  led_parts : (n p q : ℕ) → ((p q : ℕ) → leads n p q ≡ true → IsLed p q) → (leads n p q ≡ true) ⊎ ((leads n p n ≡ true) × (leads n n q ≡ true)) → IsLed p q
  led_parts n p q again (inl straight) = again p q straight
  led_parts n p q again (inr around) = led_on p n q (again p n around.0) (again n q around.1)

  led : (n p q : ℕ) → leads n p q ≡ true → IsLed p q
  unfolding leads_below
  led zero p q way = led_one p q (or_cases (p == q) (steps_to t p q) way)
  led (suc n) p q way = led_parts n p q (λ p' q' on. led n p' q' on) (parts n p q way)

  pub is_led : (q : ℕ) → is_reached t q ≡ true → IsReached t q
  is_led q is =
      let way = led t.states 0 q (and_parts (nat_lt q t.states) (leads t.states 0 q) is).1 in
      record { word = way.word; symbols = way.symbols; reached = way.to }

  -- ---- states that are reached

  -- the start is, and by a symbol what comes behind one that is
  pub reached_start : 0 < t.states → is_reached t 0 ≡ true
  reached_start some = and_from (nat_lt 0 t.states) (leads t.states 0 0) (lt-ltb 0 t.states some) (stays t.states 0)

  pub reached_next : (p s : ℕ) → s < t.symbols → next_state t p s < t.states → is_reached t p ≡ true → is_reached t (next_state t p s) ≡ true
  reached_next p s below inside is =
      let two = and_parts (nat_lt p t.states) (leads t.states 0 p) is in
      and_from (nat_lt (next_state t p s) t.states) (leads t.states 0 (next_state t p s)) (lt-ltb (next_state t p s) t.states inside)
      (leads_on t.states 0 p (next_state t p s) (ltb-true p t.states two.0) two.1 (steps t.states p s below))

  module _ (whole : IsWhole t) where
    next_below : (p s : ℕ) → p < t.states → s < t.symbols → next_state t p s < t.states
    next_below p s low below = whole.numbers (p * t.symbols + s)
        (subst (λ n. p * t.symbols + s < n) (mul_comm t.symbols t.states ∙ sym whole.rows) (mul-add-lt p t.symbols s t.states low below))

    reached_by : (word : List ℕ) (p : ℕ) → All (λ s. s < t.symbols) word → is_reached t p ≡ true → is_reached t (run t p word) ≡ true
    reached_by [] p all is = is
    reached_by (s ∷ word) p all is =
        let below : s < t.symbols = all 0 0 (omega arith) in
        let low : p < t.states = ltb-true p t.states (and_parts (nat_lt p t.states) (leads t.states 0 p) is).0 in
        reached_by word (next_state t p s) (All-tail (λ x. x < t.symbols) s word all) (reached_next p s below (next_below p s low below) is)

    pub is_told : (q : ℕ) → IsReached t q → is_reached t q ≡ true
    is_told q is = subst (λ x. is_reached t x ≡ true) is.reached (reached_by is.word 0 is.symbols (reached_start whole.some))
