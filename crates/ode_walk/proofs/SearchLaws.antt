-- Steps of a search.
use Rattle.std.proofs.Common.{◌≡◌, ◌≢◌, ℕ, zero, suc, ◌+◌, ◌*◌, ◌<◌, ◌≤◌, Bool, true, false, cond, List, [], ◌∷◌, ◌++◌, length, get_or, set, replicate, refl, sym, ap, ◌∙◌, subst, arith, inl, inr, ◌⊎◌, below_more}
use Rattle.std.specs.Prelude.{count_by, reverse}
use Rattle.std.proofs.lemmas.Bool.{cases_eq, cases_lt, false≢true}
use Rattle.std.proofs.lemmas.List.{get_or_append_left, get_or_push, get_or_past, get_or-set_other, get_or-replicate, length_push, length-set, length-replicate}
use Rattle.std.proofs.lemmas.List.Folds.{sum_by-replicate}
use Rattle.std.proofs.lemmas.List.Sums.{sum_by-set, count_by-le-length}
use Rattle.std.proofs.Math.Nat.{mul_comm}
use Rattle.std.proofs.lemmas.Nat.{mul-add-lt, same_from_place}
use Rattle.ode_value.specs.Tables.{Table, next_state, run, says_yes}
use Rattle.ode_walk.specs.declared.visit.Visit.{Visit}
use Rattle.ode_walk.specs.Relation.{is_lower}
use Rattle.ode_walk.specs.Search.{first_visit, visit_at, GoesBack, IsFirst, IsMetBefore, IsStepTo, IsVisited, IsStepped, IsWordBack, pair_of, IsSearch, IsExplored}
use Rattle.ode_walk.proofs.OrderLaws.{done_lower, reverse_cons}

-- ---- one more visit

module _ (visits : List Visit) (v : Visit) where
  abbrev more : List Visit
  more = visits ++ v ∷ []

  pub more_old : (k : ℕ) → k < length visits → visit_at more k ≡ visit_at visits k
  more_old k within = get_or_append_left visits (v ∷ []) first_visit k within

  pub more_new : (k : ℕ) → length visits ≡ k → visit_at more k ≡ v
  more_new k here = get_or_push visits v first_visit k here

  -- each place has an old visit, the new one, or none
  pub more_cases : (P : Visit → ℕ → Type 0) → ((k : ℕ) → k < length visits → P (visit_at visits k) k) → P v (length visits) → (k : ℕ) → k < length more → P (visit_at more k) k
  more_cases P old new k within = by_place (cases_lt k (length visits)) where
    by_place : (k < length visits) ⊎ (length visits ≤ k) → P (visit_at more k) k
    by_place (inl before) = subst (λ w. P w k) (sym (more_old k before)) (old k before)
    by_place (inr after) =
        let here : length visits ≡ k = omega (arith, length_push visits v) in
        subst (λ w. P w k) (sym (more_new k here)) (subst (λ j. P v j) here new)

  -- a fact of each visit, the default among them
  pub more_each : (P : Visit → ℕ → Type 0) → ((k : ℕ) → P (visit_at visits k) k) → ((k : ℕ) → P first_visit k) → P v (length visits) → (k : ℕ) → P (visit_at more k) k
  more_each P old none new k = by_place (cases_lt k (length more)) where
    by_place : (k < length more) ⊎ (length more ≤ k) → P (visit_at more k) k
    by_place (inl before) = more_cases P (λ j _. old j) new k before
    by_place (inr after) = subst (λ w. P w k) (sym (get_or_past more k first_visit after)) (none k)

  visited_more : (p q most limit : ℕ) → most ≤ limit → IsVisited visits p q most → IsVisited more p q limit
  visited_more p q most limit below h =
      let same = more_old h.place h.within in
      let long : (visit_at more h.place).length ≡ (visit_at visits h.place).length = ap (λ (w : Visit). w.length) same in
      record {
        place = h.place;
        within = omega (arith, length_push visits v, h.within);
        stored = ap (λ (w : Visit). w.stored) same ∙ h.stored;
        built = ap (λ (w : Visit). w.built) same ∙ h.built;
        length = omega (arith, long, h.length);
      }

  visited_new : (p q most : ℕ) → p ≡ v.stored → q ≡ v.built → v.length ≤ most → IsVisited more p q most
  visited_new p q most is_p is_q short =
      let same = more_new (length visits) refl in
      let long : (visit_at more (length visits)).length ≡ v.length = ap (λ (w : Visit). w.length) same in
      record {
        place = length visits;
        within = omega (arith, length_push visits v);
        stored = ap (λ (w : Visit). w.stored) same ∙ sym is_p;
        built = ap (λ (w : Visit). w.built) same ∙ sym is_q;
        length = omega (arith, long);
      }

  stepped_more : (stored built : Table) (u : Visit) (s : ℕ) → IsStepped stored built visits u s → IsStepped stored built more u s
  stepped_more stored built u s h = record {
    answers = h.answers;
    visited = visited_more (next_state stored u.stored s) (next_state built u.built s) (u.length + 1) (u.length + 1) (omega arith) h.visited;
  }

-- ---- a step to a pair that was seen

pub search_known : (stored built : Table) (visits : List Visit) (seen : List Bool) (head upto p q : ℕ) → head < length visits → IsSearch stored built visits seen head upto
    → p ≡ next_state stored (visit_at visits head).stored upto → q ≡ next_state built (visit_at visits head).built upto → p < stored.states → q < built.states
    → says_yes stored p ≡ says_yes built q → get_or seen (pair_of built p q) false ≡ true → IsSearch stored built visits seen head (upto + 1)
search_known stored built visits seen head upto p q within h is_p is_q below_p below_q answers seen_there =
    let there = h.known p q below_p below_q seen_there in
    record {
      some = h.some;
      tree = h.tree;
      stored_below = h.stored_below;
      built_below = h.built_below;
      short = h.short;
      rising = h.rising;
      near = h.near;
      first = h.first;
      pairs = h.pairs;
      known = h.known;
      once = h.once;
      within = h.within;
      stepped = h.stepped;
      here = below_more (IsStepped stored built visits (visit_at visits head)) upto h.here record {
        answers = ap (says_yes stored) (sym is_p) ∙ answers ∙ ap (says_yes built) is_q;
        visited = record {
          place = there.place;
          within = there.within;
          stored = there.stored ∙ is_p;
          built = there.built ∙ is_q;
          length = h.near there.place within there.within;
        };
      };
    }

-- ---- a step to a new pair

abbrev one : Bool → ℕ
one b = cond b 1 0

module _ (stored built : Table) (visits : List Visit) (seen : List Bool) (head upto : ℕ) (v : Visit) (inside : head < length visits) (h : IsSearch stored built visits seen head upto) where
  module _ (from : v.from ≡ head) (symbol : v.symbol ≡ upto) (step : IsStepTo stored built (visit_at visits head) v) (below_p : v.stored < stored.states) (below_q : v.built < built.states)
      (answers : says_yes stored v.stored ≡ says_yes built v.built) (unseen : get_or seen (pair_of built v.stored v.built) false ≡ false) where
    abbrev more_visits : List Visit
    more_visits = visits ++ v ∷ []

    abbrev pair : ℕ
    pair = pair_of built v.stored v.built

    longer : length more_visits ≡ length visits + 1
    longer = length_push visits v

    at_head : visit_at more_visits head ≡ visit_at visits head
    at_head = more_old visits v head inside

    back : GoesBack more_visits
    back = λ k after within.
        more_cases visits v (λ w k. 0 < k → w.from < k) (λ k low after. h.tree.back k after low) (λ after. subst (λ j. j < length visits) (sym from) inside) k within after

    steps : (k : ℕ) → 0 < k → k < length more_visits → IsStepTo stored built (visit_at more_visits (visit_at more_visits k).from) (visit_at more_visits k)
    steps = λ k after within.
        more_cases visits v (λ w k. 0 < k → IsStepTo stored built (visit_at more_visits w.from) w)
        (λ k low after. subst (λ u. IsStepTo stored built u (visit_at visits k)) (sym (more_old visits v (visit_at visits k).from (omega (arith, h.tree.back k after low)))) (h.tree.steps k after low))
        (λ after. subst (λ u. IsStepTo stored built u v) (sym (ap (visit_at more_visits) from ∙ at_head)) step)
        k within after

    near : (k : ℕ) → k < length more_visits → (visit_at more_visits k).length ≤ (visit_at more_visits head).length + 1
    near = λ k within.
        subst (λ (u : Visit). (visit_at more_visits k).length ≤ u.length + 1) (sym at_head)
        (more_cases visits v (λ w k. w.length ≤ (visit_at visits head).length + 1) (λ k low. h.near k inside low) (omega (arith, step.length)) k within)

    new_last : (j : ℕ) → j ≤ length visits → (visit_at more_visits j).length ≤ v.length
    new_last j low = subst (λ n. (visit_at more_visits j).length ≤ n) (ap (λ (u : Visit). u.length + 1) at_head ∙ sym step.length) (near j (omega (arith, longer)))

    rising : (j k : ℕ) → j ≤ k → k < length more_visits → (visit_at more_visits j).length ≤ (visit_at more_visits k).length
    rising = λ j k low within.
        more_cases visits v (λ w k. (j : ℕ) → j ≤ k → (visit_at more_visits j).length ≤ w.length)
        (λ k inside j low. subst (λ (u : Visit). u.length ≤ (visit_at visits k).length) (sym (more_old visits v j (omega arith))) (h.rising j k low inside))
        new_last
        k within j low

    -- the word of an old visit
    word_old : (back : List ℕ) (k : ℕ) → k < length visits → IsWordBack more_visits k back → IsWordBack visits k back
    word_old [] k within of = of
    word_old (s ∷ back) k within of =
        let same = more_old visits v k within in
        let rest : IsWordBack more_visits (visit_at visits k).from back = subst (λ (u : Visit). IsWordBack more_visits u.from back) same of.3 in
        (of.0, within, sym (ap (λ (u : Visit). u.symbol) same) ∙ of.2, word_old back (visit_at visits k).from (omega (arith, h.tree.back k of.0 within)) rest)

    met_old : (k p q : ℕ) → k ≤ length visits → IsMetBefore visits k p q → IsMetBefore more_visits k p q
    met_old k p q low there =
        let same = more_old visits v there.place (omega (arith, there.before)) in
        record {
          place = there.place;
          before = there.before;
          stored = ap (λ (u : Visit). u.stored) same ∙ there.stored;
          built = ap (λ (u : Visit). u.built) same ∙ there.built;
        }

    first_new : (k : ℕ) → length visits ≡ k → IsFirst stored built more_visits k
    first_new k is [] other of long low all = absurd (omega (arith, h.some, of))
    first_new k is (s ∷ back) other of long low all =
        let same = more_new visits v k is in
        let last : s ≡ upto = sym of.2 ∙ ap (λ (u : Visit). u.symbol) same ∙ symbol in
        let rest : IsWordBack more_visits head back = subst (λ j. IsWordBack more_visits j back) (ap (λ (u : Visit). u.from) same ∙ from) of.3 in
        let lower : is_lower other (reverse back ++ upto ∷ []) ≡ true = ap (is_lower other) (sym (reverse_cons s back ∙ ap (λ x. reverse back ++ x ∷ []) last)) ∙ low in
        let done = done_lower stored built visits seen head upto inside h back (word_old back head inside rest) other (omega (arith, long)) lower all in
        met_old k (run stored 0 other) (run built 0 other) (omega arith) (subst (λ n. IsMetBefore visits n (run stored 0 other) (run built 0 other)) is done.met)

    first : (k : ℕ) → k < length more_visits → IsFirst stored built more_visits k
    first k within = by_place (cases_lt k (length visits)) where
      by_place : (k < length visits) ⊎ (length visits ≤ k) → IsFirst stored built more_visits k
      by_place (inl before) = λ back other of long low all. met_old k (run stored 0 other) (run built 0 other) (omega arith) (h.first k before back other (word_old back k before of) long low all)
      by_place (inr after) = first_new k (omega (arith, longer))

    in_pairs : pair < length seen
    in_pairs = subst (λ n. pair < n) (mul_comm built.states stored.states ∙ sym h.pairs) (mul-add-lt v.stored built.states v.built stored.states below_p below_q)

    known : (p q : ℕ) → p < stored.states → q < built.states → get_or (set seen pair true) (pair_of built p q) false ≡ true → IsVisited more_visits p q (length more_visits)
    known p q low_p low_q there = by_case (cases_eq (pair_of built p q) pair) where
      by_case : (pair_of built p q ≡ pair) ⊎ (pair_of built p q ≢ pair) → IsVisited more_visits p q (length more_visits)
      by_case (inl same) =
          let parts = same_from_place p q v.stored v.built built.states low_q below_q same in
          visited_new visits v p q (length more_visits) parts.0 parts.1 (omega (arith, step.length, h.short head, longer))
      by_case (inr other) =
          let before : get_or seen (pair_of built p q) false ≡ true = sym (get_or-set_other seen pair (pair_of built p q) true false other) ∙ there in
          visited_more visits v p q (length visits) (length more_visits) (omega (arith, longer)) (h.known p q low_p low_q before)

    once : count_by (λ b. b) (set seen pair true) ≡ length more_visits
    once =
        let change = sum_by-set one seen pair true false in_pairs in
        let none : one (get_or seen pair false) ≡ 0 = ap one unseen in
        omega (arith, change, none, h.once, longer)

    here : (s : ℕ) → s < upto + 1 → IsStepped stored built more_visits (visit_at visits head) s
    here =
        below_more (IsStepped stored built more_visits (visit_at visits head)) upto
        (λ s low. stepped_more visits v stored built (visit_at visits head) s (h.here s low))
        record {
          answers =
              ap (λ s. says_yes stored (next_state stored (visit_at visits head).stored s)) (sym symbol)
              ∙ ap (says_yes stored) (sym step.stored_next) ∙ answers ∙ ap (says_yes built) step.built_next
              ∙ ap (λ s. says_yes built (next_state built (visit_at visits head).built s)) symbol;
          visited =
              visited_new visits v (next_state stored (visit_at visits head).stored upto) (next_state built (visit_at visits head).built upto) ((visit_at visits head).length + 1)
              (ap (λ s. next_state stored (visit_at visits head).stored s) (sym symbol) ∙ sym step.stored_next)
              (ap (λ s. next_state built (visit_at visits head).built s) (sym symbol) ∙ sym step.built_next)
              (omega (arith, step.length));
        }

    pub search_new : IsSearch stored built more_visits (set seen pair true) head (upto + 1)
    search_new = record {
      some = omega (arith, longer, h.some);
      tree = record { first = more_old visits v 0 h.some ∙ h.tree.first; back = back; steps = steps };
      stored_below = more_each visits v (λ w k. w.stored < stored.states) h.stored_below (λ k. omega arith) below_p;
      built_below = more_each visits v (λ w k. w.built < built.states) h.built_below (λ k. omega arith) below_q;
      short = more_each visits v (λ w k. w.length ≤ k) h.short (λ k. omega arith) (omega (arith, step.length, h.short head));
      rising = rising;
      near = λ k _ within. near k within;
      first = first;
      pairs = length-set seen pair true ∙ h.pairs;
      known = known;
      once = once;
      within = omega (arith, longer);
      stepped = λ k s low below. subst (λ w. IsStepped stored built more_visits w s) (sym (more_old visits v k (omega arith))) (stepped_more visits v stored built (visit_at visits k) s (h.stepped k s low below));
      here = λ s low. subst (λ w. IsStepped stored built more_visits w s) (sym at_head) (here s low);
    }

-- ---- a step

pub search_step : (stored built : Table) (visits : List Visit) (seen : List Bool) (head upto pair : ℕ) (v : Visit) (visits' : List Visit) (seen' : List Bool) → head < length visits
    → IsSearch stored built visits seen head upto → v.from ≡ head → v.symbol ≡ upto → IsStepTo stored built (visit_at visits head) v → v.stored < stored.states → v.built < built.states
    → says_yes stored v.stored ≡ says_yes built v.built → pair ≡ pair_of built v.stored v.built
    → (get_or seen pair false ≡ true → (visits' ≡ visits) × (seen' ≡ seen))
    → (get_or seen pair false ≡ false → (visits' ≡ visits ++ v ∷ []) × (seen' ≡ set seen pair true))
    → IsSearch stored built visits' seen' head (upto + 1)
search_step stored built visits seen head upto pair v visits' seen' within h from symbol step below_p below_q answers is_pair known new = by_seen (get_or seen pair false) refl where
  by_seen : (there : Bool) → get_or seen pair false ≡ there → IsSearch stored built visits' seen' head (upto + 1)
  by_seen true is =
      let same = known is in
      let is_p : v.stored ≡ next_state stored (visit_at visits head).stored upto = step.stored_next ∙ ap (next_state stored (visit_at visits head).stored) symbol in
      let is_q : v.built ≡ next_state built (visit_at visits head).built upto = step.built_next ∙ ap (next_state built (visit_at visits head).built) symbol in
      let after = search_known stored built visits seen head upto v.stored v.built within h is_p is_q below_p below_q answers (ap (λ n. get_or seen n false) (sym is_pair) ∙ is) in
      subst (λ l. IsSearch stored built l seen' head (upto + 1)) (sym same.0) (subst (λ l. IsSearch stored built visits l head (upto + 1)) (sym same.1) after)
  by_seen false is =
      let more = new is in
      let is_seen : seen' ≡ set seen (pair_of built v.stored v.built) true = more.1 ∙ ap (λ n. set seen n true) is_pair in
      let after = search_new stored built visits seen head upto v within h from symbol step below_p below_q answers (ap (λ n. get_or seen n false) (sym is_pair) ∙ is) in
      subst (λ l. IsSearch stored built l seen' head (upto + 1)) (sym more.0) (subst (λ l. IsSearch stored built (visits ++ v ∷ []) l head (upto + 1)) (sym is_seen) after)

-- ---- from head to head

pub search_next : (stored built : Table) (visits : List Visit) (seen : List Bool) (head upto : ℕ) → head < length visits → upto ≡ stored.symbols
    → IsSearch stored built visits seen head upto → IsSearch stored built visits seen (head + 1) 0
search_next stored built visits seen head upto within all h = record {
  some = h.some;
  tree = h.tree;
  stored_below = h.stored_below;
  built_below = h.built_below;
  short = h.short;
  rising = h.rising;
  first = h.first;
  near = λ k next inside. omega (arith, h.near k within inside, h.rising head (head + 1) (omega arith) next);
  pairs = h.pairs;
  known = h.known;
  once = h.once;
  within = omega arith;
  stepped = λ k s low below.
      below_more (λ k. (s : ℕ) → s < stored.symbols → IsStepped stored built visits (visit_at visits k) s) head
      (λ k low s below. h.stepped k s low below) (λ s below. h.here s (omega arith)) k low s below;
  here = λ s none. absurd (omega arith);
}

pub search_end : (stored built : Table) (visits : List Visit) (seen : List Bool) (head : ℕ) → length visits ≤ head → IsSearch stored built visits seen head 0 → IsExplored stored built visits
search_end stored built visits seen head done h = record {
  some = h.some;
  tree = h.tree;
  stored_below = h.stored_below;
  built_below = h.built_below;
  stepped = λ k s within below. h.stepped k s (omega arith) below;
}

pub few : (stored built : Table) (visits : List Visit) (seen : List Bool) (head upto : ℕ) → IsSearch stored built visits seen head upto → length visits ≤ stored.states * built.states
few stored built visits seen head upto h = omega (arith, count_by-le-length (λ (b : Bool). b) seen, h.once, h.pairs)

-- ---- the first visit

one_visit : (k : ℕ) → visit_at (first_visit ∷ []) k ≡ first_visit
one_visit zero = refl
one_visit (suc k) = refl

module _ (stored built : Table) (n : ℕ) (is_n : n ≡ stored.states * built.states) (some_stored : 0 < stored.states) (some_built : 0 < built.states) where
  abbrev first_seen : List Bool
  first_seen = set (replicate n false) 0 true

  some_pair : 0 < n
  some_pair = subst (λ m. 0 < m) (mul_comm built.states stored.states ∙ sym is_n) (omega (arith, mul-add-lt 0 built.states 0 stored.states some_stored some_built))

  length_pairs : length (replicate n false) ≡ n
  length_pairs = length-replicate n false

  known_first : (p q : ℕ) → p < stored.states → q < built.states → get_or first_seen (pair_of built p q) false ≡ true → IsVisited (first_visit ∷ []) p q (length (first_visit ∷ []))
  known_first p q low_p low_q there = by_case (cases_eq (pair_of built p q) 0) where
    by_case : (pair_of built p q ≡ 0) ⊎ (pair_of built p q ≢ 0) → IsVisited (first_visit ∷ []) p q (length (first_visit ∷ []))
    by_case (inl same) =
        let parts = same_from_place p q 0 0 built.states low_q some_built (same ∙ omega arith) in
        record { place = 0; within = omega arith; stored = sym parts.0; built = sym parts.1; length = omega arith }
    by_case (inr other) =
        let low : pair_of built p q < n = subst (λ m. pair_of built p q < m) (mul_comm built.states stored.states ∙ sym is_n) (mul-add-lt p built.states q stored.states low_p low_q) in
        let before : false ≡ true = sym (get_or-set_other (replicate n false) 0 (pair_of built p q) true false other ∙ get_or-replicate n (pair_of built p q) false false low) ∙ there in
        absurd (false≢true before)

  first_first : (k : ℕ) → k < 1 → IsFirst stored built (first_visit ∷ []) k
  first_first k within [] [] of long low all = absurd (false≢true low)
  first_first k within [] (x ∷ other) of long low all = absurd (omega arith)
  first_first k within (s ∷ back) other of long low all = absurd (omega (arith, of.0))

  pub search_first : IsSearch stored built (first_visit ∷ []) first_seen 0 0
  search_first = record {
    some = omega arith;
    tree = record {
      first = refl;
      back = λ k after within. absurd (omega arith);
      steps = λ k after within. absurd (omega arith);
    };
    stored_below = λ k. subst (λ (w : Visit). w.stored < stored.states) (sym (one_visit k)) some_stored;
    built_below = λ k. subst (λ (w : Visit). w.built < built.states) (sym (one_visit k)) some_built;
    short = λ k. subst (λ (w : Visit). w.length ≤ k) (sym (one_visit k)) (omega arith);
    rising = λ j k low within. subst (λ (w : Visit). w.length ≤ (visit_at (first_visit ∷ []) k).length) (sym (one_visit j)) (omega arith);
    first = first_first;
    near = λ k some within. subst (λ (w : Visit). w.length ≤ 1) (sym (one_visit k)) (omega arith);
    pairs = length-set (replicate n false) 0 true ∙ length_pairs ∙ is_n;
    known = known_first;
    once =
        let change = sum_by-set one (replicate n false) 0 true false (omega (arith, some_pair, length_pairs)) in
        let none : one (get_or (replicate n false) 0 false) ≡ 0 = ap one (get_or-replicate n 0 false false some_pair) in
        omega (arith, change, none, sum_by-replicate one n false);
    within = omega arith;
    stepped = λ k s low below. absurd (omega arith);
    here = λ s none. absurd (omega arith);
  }

none-seen : (n : ℕ) → get_or (replicate n false) 0 false ≡ false
none-seen n = by_length (cases_lt 0 n) where
  by_length : (0 < n) ⊎ (n ≤ 0) → get_or (replicate n false) 0 false ≡ false
  by_length (inl some) = get_or-replicate n 0 false false some
  by_length (inr none) = get_or_past (replicate n false) 0 false (omega (arith, length-replicate n false))

pub search_begin : (stored built : Table) (n : ℕ) (none : List Visit) (unseen : List Bool) (visits : List Visit) (seen : List Bool) → n ≡ stored.states * built.states → 0 < stored.states → 0 < built.states
    → none ≡ [] → unseen ≡ replicate n false → (get_or unseen 0 false ≡ false → (visits ≡ none ++ first_visit ∷ []) × (seen ≡ set unseen 0 true)) → IsSearch stored built visits seen 0 0
search_begin stored built n none unseen visits seen is_n some_stored some_built is_none is_unseen add =
    let added = add (ap (λ l. get_or l 0 false) is_unseen ∙ none-seen n) in
    subst (λ l. IsSearch stored built l seen 0 0) (sym (added.0 ∙ ap (λ l. l ++ first_visit ∷ []) is_none))
    (subst (λ l. IsSearch stored built (first_visit ∷ []) l 0 0) (sym (added.1 ∙ ap (λ l. set l 0 true) is_unseen)) (search_first stored built n is_n some_stored some_built))
