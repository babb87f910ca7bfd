-- Steps of a search over states.
use Rattle.std.proofs.Common.{◌≡◌, ◌≢◌, ℕ, zero, suc, ◌+◌, ◌<◌, ◌≤◌, Bool, true, false, cond, List, [], ◌∷◌, ◌++◌, length, get_or, set, replicate, refl, sym, ap, ◌∙◌, subst, arith, inl, inr, ◌⊎◌, below_more}
use Rattle.std.specs.Prelude.{All, count_by}
use Rattle.std.proofs.lemmas.Bool.{cases_Bool, cases_eq, cases_lt, false≢true}
use Rattle.std.proofs.lemmas.List.{get_or_append_left, get_or_push, get_or_past, get_or-set_same, get_or-set_other, get_or-replicate, length_push, length-set, length-replicate}
use Rattle.std.proofs.lemmas.List.Elements.{All-tail}
use Rattle.std.proofs.lemmas.List.Folds.{sum_by-replicate}
use Rattle.std.proofs.lemmas.List.Sums.{sum_by-set, count_by-le-length}
use Rattle.ode_value.specs.Tables.{Table, next_state, run}
use Rattle.ode_walk.specs.Reaching.{IsFront, IsListed, IsSeen, is_reached, state_at}
use Rattle.ode_walk.proofs.ReachingLaws.{is_led, reached_next, reached_start}

abbrev one : Bool → ℕ
one b = cond b 1 0

module _ (t : Table) (states : List ℕ) (seen : List Bool) (head upto : ℕ) (inside : head < length states) (h : IsFront t states seen head upto) where
  abbrev next : ℕ
  next = next_state t (state_at states head) upto

  -- ---- a step to a state that was found

  front_known : IsSeen seen next → IsFront t states seen head (upto + 1)
  front_known there = record {
    start = h.start;
    flags = h.flags;
    listed = h.listed;
    below = h.below;
    reached = h.reached;
    once = h.once;
    within = h.within;
    stepped = h.stepped;
    here = below_more (λ s. IsSeen seen (next_state t (state_at states head) s)) upto h.here there;
  }

  -- ---- a step to a new state

  module _ (symbol : upto < t.symbols) (low : next < t.states) (unseen : get_or seen next false ≡ false) where
    abbrev more_states : List ℕ
    more_states = states ++ next ∷ []

    abbrev more_seen : List Bool
    more_seen = set seen next true

    longer : length more_states ≡ length states + 1
    longer = length_push states next

    in_flags : next < length seen
    in_flags = subst (λ n. next < n) (sym h.flags) low

    old : (k : ℕ) → k < length states → state_at more_states k ≡ state_at states k
    old k within = get_or_append_left states (next ∷ []) 0 k within

    new : (k : ℕ) → length states ≡ k → state_at more_states k ≡ next
    new k here = get_or_push states next 0 k here

    seen_new : IsSeen more_seen next
    seen_new = get_or-set_same seen next true false in_flags

    seen_more : (q : ℕ) → IsSeen seen q → IsSeen more_seen q
    seen_more q is = by (cases_eq q next) where
      by : (q ≡ next) ⊎ (q ≢ next) → IsSeen more_seen q
      by (inl same) = subst (λ x. IsSeen more_seen x) (sym same) seen_new
      by (inr other) = get_or-set_other seen next q true false other ∙ is

    listed_more : (q : ℕ) → IsListed states q → IsListed more_states q
    listed_more q is = record { place = is.place; within = omega (arith, longer, is.within); is = old is.place is.within ∙ is.is }

    listed : (q : ℕ) → IsSeen more_seen q → IsListed more_states q
    listed q is = by (cases_eq q next) where
      by : (q ≡ next) ⊎ (q ≢ next) → IsListed more_states q
      by (inl same) = record { place = length states; within = omega (arith, longer); is = new (length states) refl ∙ sym same }
      by (inr other) = listed_more q (h.listed q (sym (get_or-set_other seen next q true false other) ∙ is))

    -- what holds of each old state and of the new one
    each : (P : ℕ → Type 0) → ((k : ℕ) → k < length states → P (state_at states k)) → P next → (k : ℕ) → k < length more_states → P (state_at more_states k)
    each P olds news k within = by (cases_lt k (length states)) where
      by : (k < length states) ⊎ (length states ≤ k) → P (state_at more_states k)
      by (inl before) = subst P (sym (old k before)) (olds k before)
      by (inr after) = subst P (sym (new k (omega (arith, longer)))) news

    below : (k : ℕ) → state_at more_states k < t.states
    below k = by (cases_lt k (length more_states)) where
      by : (k < length more_states) ⊎ (length more_states ≤ k) → state_at more_states k < t.states
      by (inl before) = each (λ q. q < t.states) (λ j _. h.below j) low k before
      by (inr after) = subst (λ q. q < t.states) (sym (get_or_past more_states k 0 after)) (omega (arith, low))

    once : count_by (λ b. b) more_seen ≡ length more_states
    once =
        let change = sum_by-set one seen next true false in_flags in
        let none : one (get_or seen next false) ≡ 0 = ap one unseen in
        omega (arith, change, none, h.once, longer)

    stays : (k s : ℕ) → k < length states → IsSeen seen (next_state t (state_at states k) s) → IsSeen more_seen (next_state t (state_at more_states k) s)
    stays k s within is = subst (λ q. IsSeen more_seen (next_state t q s)) (sym (old k within)) (seen_more (next_state t (state_at states k) s) is)

    front_new : IsFront t more_states more_seen head (upto + 1)
    front_new = record {
      start = seen_more 0 h.start;
      flags = length-set seen next true ∙ h.flags;
      listed = listed;
      below = below;
      reached = each (λ q. is_reached t q ≡ true) h.reached (reached_next t (state_at states head) upto symbol low (h.reached head inside));
      once = once;
      within = omega (arith, longer);
      stepped = λ k s before less. stays k s (omega arith) (h.stepped k s before less);
      here = below_more (λ s. IsSeen more_seen (next_state t (state_at more_states head) s)) upto (λ s less. stays head s inside (h.here s less))
          (subst (λ q. IsSeen more_seen (next_state t q upto)) (sym (old head inside)) seen_new);
    }

-- ---- a step

pub front_step : (t : Table) (states : List ℕ) (seen : List Bool) (head upto q : ℕ) (states' : List ℕ) (seen' : List Bool) → head < length states → IsFront t states seen head upto → upto < t.symbols
    → q ≡ next_state t (state_at states head) upto → q < t.states
    → (get_or seen q false ≡ true → (states' ≡ states) × (seen' ≡ seen))
    → (get_or seen q false ≡ false → (states' ≡ states ++ q ∷ []) × (seen' ≡ set seen q true))
    → IsFront t states' seen' head (upto + 1)
front_step t states seen head upto q states' seen' inside h symbol is_q low known new = by (cases_Bool (get_or seen q false)) where
  by : (get_or seen q false ≡ true) ⊎ (get_or seen q false ≡ false) → IsFront t states' seen' head (upto + 1)
  by (inl is) =
      let same = known is in
      subst (λ (l : List ℕ × List Bool). IsFront t l.0 l.1 head (upto + 1)) (λ i. (sym same.0 i, sym same.1 i))
      (front_known t states seen head upto inside h (ap (λ x. get_or seen x false) (sym is_q) ∙ is))
  by (inr is) =
      let more = new is in
      subst (λ (l : List ℕ × List Bool). IsFront t l.0 l.1 head (upto + 1))
      (λ i. ((ap (λ x. states ++ x ∷ []) (sym is_q) ∙ sym more.0) i, (ap (λ x. set seen x true) (sym is_q) ∙ sym more.1) i))
      (front_new t states seen head upto inside h symbol (subst (λ x. x < t.states) is_q low) (ap (λ x. get_or seen x false) (sym is_q) ∙ is))

-- ---- from head to head

pub front_next : (t : Table) (states : List ℕ) (seen : List Bool) (head upto : ℕ) → head < length states → upto ≡ t.symbols → IsFront t states seen head upto → IsFront t states seen (head + 1) 0
front_next t states seen head upto inside all h = record {
  start = h.start;
  flags = h.flags;
  listed = h.listed;
  below = h.below;
  reached = h.reached;
  once = h.once;
  within = omega arith;
  stepped = λ k s low less.
      below_more (λ k. (s : ℕ) → s < t.symbols → IsSeen seen (next_state t (state_at states k) s)) head (λ k low s less. h.stepped k s low less) (λ s less. h.here s (omega arith)) k low s less;
  here = λ s none. absurd (omega arith);
}

pub few_states : (t : Table) (states : List ℕ) (seen : List Bool) (head upto : ℕ) → IsFront t states seen head upto → length states ≤ t.states
few_states t states seen head upto h = omega (arith, count_by-le-length (λ (b : Bool). b) seen, h.once, h.flags)

-- ---- the start alone

module _ (t : Table) (some : 0 < t.states) where
  abbrev first_seen : List Bool
  first_seen = set (replicate t.states false) 0 true

  length_flags : length (replicate t.states false) ≡ t.states
  length_flags = length-replicate t.states false

  first_is : IsSeen first_seen 0
  first_is = get_or-set_same (replicate t.states false) 0 true false (omega (arith, some, length_flags))

  unflagged : (q : ℕ) → get_or (replicate t.states false) q false ≡ false
  unflagged q = by (cases_lt q t.states) where
    by : (q < t.states) ⊎ (t.states ≤ q) → get_or (replicate t.states false) q false ≡ false
    by (inl low) = get_or-replicate t.states q false false low
    by (inr past) = get_or_past (replicate t.states false) q false (omega (arith, length_flags))

  first_listed : (q : ℕ) → IsSeen first_seen q → IsListed (0 ∷ []) q
  first_listed q is = by (cases_eq q 0) where
    by : (q ≡ 0) ⊎ (q ≢ 0) → IsListed (0 ∷ []) q
    by (inl same) = record { place = 0; within = omega arith; is = sym same }
    by (inr other) = absurd (false≢true (sym (get_or-set_other (replicate t.states false) 0 q true false other ∙ unflagged q) ∙ is))

  first_state : (k : ℕ) → state_at (0 ∷ []) k ≡ 0
  first_state zero = refl
  first_state (suc k) = refl

  front_first : IsFront t (0 ∷ []) first_seen 0 0
  front_first = record {
    start = first_is;
    flags = length-set (replicate t.states false) 0 true ∙ length_flags;
    listed = first_listed;
    below = λ k. subst (λ q. q < t.states) (sym (first_state k)) some;
    reached = λ k within. ap (is_reached t) (first_state k) ∙ reached_start t some;
    once =
        let change = sum_by-set one (replicate t.states false) 0 true false (omega (arith, some, length_flags)) in
        let none : one (get_or (replicate t.states false) 0 false) ≡ 0 = ap one (unflagged 0) in
        omega (arith, change, none, sum_by-replicate one t.states false);
    within = omega arith;
    stepped = λ k s low less. absurd (omega arith);
    here = λ s none. absurd (omega arith);
  }

  pub front_begin : (none : List ℕ) (unseen : List Bool) (states : List ℕ) (seen : List Bool) → none ≡ [] → unseen ≡ replicate t.states false
      → (get_or unseen 0 false ≡ false → (states ≡ none ++ 0 ∷ []) × (seen ≡ set unseen 0 true)) → IsFront t states seen 0 0
  front_begin none unseen states seen is_none is_unseen add =
      let added = add (ap (λ l. get_or l 0 false) is_unseen ∙ unflagged 0) in
      subst (λ (l : List ℕ × List Bool). IsFront t l.0 l.1 0 0)
      (λ i. (sym (added.0 ∙ ap (λ l. l ++ 0 ∷ []) is_none) i, sym (added.1 ∙ ap (λ l. set l 0 true) is_unseen) i)) front_first

-- ---- the end

module _ (t : Table) (states : List ℕ) (seen : List Bool) (head : ℕ) (done : length states ≤ head) (h : IsFront t states seen head 0) where
  found_by : (word : List ℕ) (p : ℕ) → All (λ s. s < t.symbols) word → IsSeen seen p → IsSeen seen (run t p word)
  found_by [] p all is = is
  found_by (s ∷ word) p all is =
      let there = h.listed p is in
      found_by word (next_state t p s) (All-tail (λ x. x < t.symbols) s word all)
      (subst (λ q. IsSeen seen (next_state t q s)) there.is (h.stepped there.place s (omega (arith, there.within)) (all 0 0 (omega arith))))

  found : (q : ℕ) → is_reached t q ≡ true → IsSeen seen q
  found q is = let way = is_led t q is in subst (λ x. IsSeen seen x) way.reached (found_by way.word 0 way.symbols h.start)

  known : (q : ℕ) → IsSeen seen q → is_reached t q ≡ true
  known q is = let there = h.listed q is in subst (λ x. is_reached t x ≡ true) there.is (h.reached there.place there.within)

  pub front_end : (q : ℕ) → get_or seen q false ≡ is_reached t q
  front_end q = by (cases_Bool (get_or seen q false)) (cases_Bool (is_reached t q)) where
    by : (get_or seen q false ≡ true) ⊎ (get_or seen q false ≡ false) → (is_reached t q ≡ true) ⊎ (is_reached t q ≡ false) → get_or seen q false ≡ is_reached t q
    by (inl a) b = a ∙ sym (known q a)
    by (inr a) (inl b) = absurd (false≢true (sym a ∙ found q b))
    by (inr a) (inr b) = a ∙ sym b
