-- Marks on pairs.
use Rattle.std.proofs.Common.{◌≡◌, ◌≢◌, ℕ, ◌+◌, ◌*◌, ◌<◌, ◌≤◌, Bool, true, false, cond, List, [], ◌∷◌, ◌++◌, length, get_or, set, refl, sym, ap, ◌∙◌, subst, arith, inl, inr, ◌⊎◌, below_more}
use Rattle.std.specs.Prelude.{Contains}
use Rattle.std.proofs.lemmas.Bool.{cases_eq, cases_lt, false≢true}
use Rattle.std.proofs.lemmas.List.{get_or_append_left, get_or_push, get_or_past, get_or-set_other, length_push, length-set, get_or_default}
use Rattle.std.proofs.lemmas.List.Elements.{All-tail}
use Rattle.std.proofs.lemmas.List.Sums.{sum_by-set, count_by-le-length}
use Rattle.std.proofs.lemmas.Nat.{mul-add-lt, same_from_place}
use Rattle.ode_value.specs.Tables.{Table, next_state, run, says_yes}
use Rattle.ode_minimal.specs.declared.marking.Marks.{Marks}
use Rattle.ode_minimal.specs.Marking.{pair_at, is_marked, IsMarked, IsListed, IsMarking, Grows, MarksAll, MarksSources, MarksUnequal, IsDecided}
use Rattle.ode_minimal.specs.Minimal.{IsOf, IsApart}
use Rattle.ode_minimal.specs.Sources.{sources, IsSources}
use Rattle.ode_minimal.proofs.AlikeLaws.{same_answer_or, push_each, apart-back}

abbrev one : Bool → ℕ
one b = cond b 1 0

pub pair_fits : (t : Table) (rows p q : ℕ) → rows ≡ t.states * t.states → p < t.states → q < t.states → p * t.states + q < rows
pair_fits t rows p q is_rows below_p below_q = subst (λ n. p * t.states + q < n) (sym is_rows) (mul-add-lt p t.states q t.states below_p below_q)

-- ---- one more pair

module _ (t : Table) (m : Marks) (p q : ℕ) (below_p : p < t.states) (below_q : q < t.states) (apart : IsApart t p q) (h : IsMarking t m) where
  abbrev place : ℕ
  place = p * t.states + q

  abbrev pairs : List (ℕ × ℕ)
  pairs = m.pairs ++ (p, q) ∷ []

  abbrev marked : List Bool
  marked = set m.marked place true

  longer : length pairs ≡ length m.pairs + 1
  longer = length_push m.pairs (p, q)

  -- a fact of each place, listed or past the end
  each_pair : (P : ℕ × ℕ → Type 0) → ((k : ℕ) → P (pair_at m.pairs k)) → P (0, 0) → P (p, q) → (k : ℕ) → P (pair_at pairs k)
  each_pair P old none new k = by_place (cases_lt k (length pairs)) where
    by_place : (k < length pairs) ⊎ (length pairs ≤ k) → P (pair_at pairs k)
    by_place (inl before) = push_each m.pairs (p, q) (0, 0) (λ x _. P x) (λ k _. old k) new k before
    by_place (inr after) = subst P (sym (get_or_past pairs k (0, 0) after)) none

  listed : (x y : ℕ) → x < t.states → y < t.states → is_marked t marked x y ≡ true → IsListed t pairs x y
  listed x y low_x low_y there = by_case (cases_eq (x * t.states + y) place) where
    by_case : (x * t.states + y ≡ place) ⊎ (x * t.states + y ≢ place) → IsListed t pairs x y
    by_case (inl same) =
        let parts = same_from_place x y p q t.states low_y below_q same in
        let here = get_or_push m.pairs (p, q) (0, 0) (length m.pairs) refl in
        record {
          place = length m.pairs;
          within = omega (arith, longer);
          first = ap (λ (x : ℕ × ℕ). x.0) here ∙ sym parts.0;
          second = ap (λ (x : ℕ × ℕ). x.1) here ∙ sym parts.1;
        }
    by_case (inr other) =
        let old = h.listed x y low_x low_y (sym (get_or-set_other m.marked place (x * t.states + y) true false other) ∙ there) in
        let here = get_or_append_left m.pairs ((p, q) ∷ []) (0, 0) old.place old.within in
        record {
          place = old.place;
          within = omega (arith, longer, old.within);
          first = ap (λ (x : ℕ × ℕ). x.0) here ∙ old.first;
          second = ap (λ (x : ℕ × ℕ). x.1) here ∙ old.second;
        }

  pub marking_more : get_or m.marked place false ≡ false → IsMarking t record { pairs = pairs; marked = marked }
  marking_more unseen = record {
    some = h.some;
    rows = length-set m.marked place true ∙ h.rows;
    first = each_pair (λ x. x.0 < t.states) h.first h.some below_p;
    second = each_pair (λ x. x.1 < t.states) h.second h.some below_q;
    apart = push_each m.pairs (p, q) (0, 0) (λ x _. IsApart t x.0 x.1) h.apart apart;
    listed = listed;
    once =
        let change = sum_by-set one m.marked place true false (pair_fits t (length m.marked) p q h.rows below_p below_q) in
        let none : one (get_or m.marked place false) ≡ 0 = ap one unseen in
        omega (arith, change, none, h.once, longer);
  }

pub few : (t : Table) (m : Marks) → IsMarking t m → length m.pairs ≤ t.states * t.states
few t m h = omega (arith, count_by-le-length (λ (b : Bool). b) m.marked, h.once, h.rows)

-- ---- one more row, and one more symbol

pub unequal_more : (t : Table) (old new : Marks) (n : ℕ) → Grows old new → ((p : ℕ) → p < n → MarksUnequal t old p t.states) → MarksUnequal t new n t.states
    → (p : ℕ) → p < n + 1 → MarksUnequal t new p t.states
unequal_more t old new n grows before here = below_more (λ p. MarksUnequal t new p t.states) n (λ p low q below differs. grows.marked (p * t.states + q) (before p low q below differs)) here

-- a state among the sources has a place
record HasPlace (xs : List ℕ) (x : ℕ) : Type 0 where
  pub place : ℕ
  pub within : place < length xs
  pub is : get_or xs place 0 ≡ x

has_place : (xs : List ℕ) (x : ℕ) → Contains xs x → HasPlace xs x
has_place xs x there = record { place = there.0; within = there.1; is = get_or_default xs there.0 0 x there.1 ∙ there.2 }

module _ (t : Table) (lists : List (List ℕ)) (pair : ℕ × ℕ) (s : ℕ) (is : IsSources t lists) (below : s < t.symbols) where
  -- the sources of two states that are apart are apart
  pub sources_apart : IsApart t pair.0 pair.1 → (i j : ℕ) → i < length (sources t lists pair.0 s) → j < length (sources t lists pair.1 s)
      → IsApart t (get_or (sources t lists pair.0 s) i 0) (get_or (sources t lists pair.1 s) j 0)
  sources_apart apart i j within_i within_j =
      apart-back t (get_or (sources t lists pair.0 s) i 0) (get_or (sources t lists pair.1 s) j 0) s below
      (subst (λ x. IsApart t x (next_state t (get_or (sources t lists pair.1 s) j 0) s)) (sym (is.lead pair.0 s i below within_i))
      (subst (λ x. IsApart t pair.0 x) (sym (is.lead pair.1 s j below within_j)) apart))

  pub sources_marked : (old new : Marks) → Grows old new → MarksSources t old pair s
      → ((i : ℕ) → i < length (sources t lists pair.0 s) → MarksAll t new (get_or (sources t lists pair.0 s) i 0) (sources t lists pair.1 s))
      → MarksSources t new pair (s + 1)
  sources_marked old new grows before here = λ x p q low below_p below_q to_p to_q.
      below_more (λ x. (p q : ℕ) → p < t.states → q < t.states → next_state t p x ≡ pair.0 → next_state t q x ≡ pair.1 → IsMarked t new p q) s
      (λ x low p q below_p below_q to_p to_q. grows.marked (p * t.states + q) (before x p q low below_p below_q to_p to_q))
      (λ p q below_p below_q to_p to_q.
      let at_p = has_place (sources t lists pair.0 s) p (subst (λ r. Contains (sources t lists r s) p) to_p (is.each p s below_p below)) in
      let at_q = has_place (sources t lists pair.1 s) q (subst (λ r. Contains (sources t lists r s) q) to_q (is.each q s below_q below)) in
      let done = here at_p.place at_p.within at_q.place at_q.within in
      subst (λ x. IsMarked t new x q) at_p.is (subst (λ y. IsMarked t new (get_or (sources t lists pair.0 s) at_p.place 0) y) at_q.is done))
      x low p q below_p below_q to_p to_q

-- ---- what calls say

pub marking_step : (t : Table) (m : Marks) (p q place' : ℕ) (pairs' : List (ℕ × ℕ)) (marked' : List Bool) → p < t.states → q < t.states → IsApart t p q → IsMarking t m
    → place' ≡ p * t.states + q → get_or m.marked place' false ≡ false → pairs' ≡ m.pairs ++ (p, q) ∷ [] → marked' ≡ set m.marked place' true
    → IsMarking t record { pairs = pairs'; marked = marked' }
marking_step t m p q place' pairs' marked' below_p below_q apart h is_place unseen is_pairs is_marked =
    let after = marking_more t m p q below_p below_q apart h (ap (λ n. get_or m.marked n false) (sym is_place) ∙ unseen) in
    subst (λ l. IsMarking t record { pairs = l; marked = marked' }) (sym is_pairs)
    (subst (λ l. IsMarking t record { pairs = m.pairs ++ (p, q) ∷ []; marked = l }) (sym (is_marked ∙ ap (λ n. set m.marked n true) is_place)) after)

pub grows-trans : (old mid new : Marks) → Grows old mid → Grows mid new → Grows old new
grows-trans old mid new h k = record {
  longer = omega (arith, h.longer, k.longer);
  pairs = λ i within. k.pairs i (omega (arith, h.longer)) ∙ h.pairs i within;
  marked = λ i there. k.marked i (h.marked i there);
}

module _ (t : Table) (lists : List (List ℕ)) (pair : ℕ × ℕ) (s : ℕ) (is : IsSources t lists) (below : s < t.symbols) (ps qs : List ℕ)
    (is_ps : ps ≡ sources t lists pair.0 s) (is_qs : qs ≡ sources t lists pair.1 s) where
  pub lists_apart : IsApart t pair.0 pair.1 → (i j : ℕ) → i < length ps → j < length qs → (get_or qs j 0 < t.states) × IsApart t (get_or ps i 0) (get_or qs j 0)
  lists_apart apart =
      subst (λ (ps : List ℕ). (i j : ℕ) → i < length ps → j < length qs → (get_or qs j 0 < t.states) × IsApart t (get_or ps i 0) (get_or qs j 0)) (sym is_ps)
      (subst (λ (qs : List ℕ). (i j : ℕ) → i < length (sources t lists pair.0 s) → j < length qs → (get_or qs j 0 < t.states) × IsApart t (get_or (sources t lists pair.0 s) i 0) (get_or qs j 0)) (sym is_qs)
      (λ i j within_i within_j. (is.states pair.1 s j below within_j, sources_apart t lists pair s is below apart i j within_i within_j)))

  pub lists_marked : (old new : Marks) → Grows old new → MarksSources t old pair s → ((i : ℕ) → i < length ps → MarksAll t new (get_or ps i 0) qs) → MarksSources t new pair (s + 1)
  lists_marked old new grows before here =
      sources_marked t lists pair s is below old new grows before
      (subst (λ (qs : List ℕ). (i : ℕ) → i < length (sources t lists pair.0 s) → MarksAll t new (get_or (sources t lists pair.0 s) i 0) qs) is_qs
      (subst (λ (ps : List ℕ). (i : ℕ) → i < length ps → MarksAll t new (get_or ps i 0) qs) is_ps here))

pub sources_more : (t : Table) (old new : Marks) (head : ℕ) → head < length old.pairs → Grows old new
    → ((k : ℕ) → k < head → MarksSources t old (pair_at old.pairs k) t.symbols) → MarksSources t new (pair_at old.pairs head) t.symbols
    → (k : ℕ) → k < head + 1 → MarksSources t new (pair_at new.pairs k) t.symbols
sources_more t old new head within grows before here =
    below_more (λ k. MarksSources t new (pair_at new.pairs k) t.symbols) head
    (λ k low. subst (λ x. MarksSources t new x t.symbols) (sym (grows.pairs k (omega arith)))
    (λ s p q low_s below_p below_q to_p to_q. grows.marked (p * t.states + q) (before k low s p q low_s below_p below_q to_p to_q)))
    (subst (λ x. MarksSources t new x t.symbols) (sym (grows.pairs head within)) here)

-- ---- all marked

module _ (t : Table) (lists : List (List ℕ)) (m : Marks) (is : IsSources t lists) (h : IsMarking t m) (unequal : (p : ℕ) → p < t.states → MarksUnequal t m p t.states)
    (done : (k : ℕ) → k < length m.pairs → MarksSources t m (pair_at m.pairs k) t.symbols) where
  not_marked : (p q : ℕ) → is_marked t m.marked p q ≡ false → is_marked t m.marked p q ≡ true → ⊥
  not_marked p q free told = false≢true (sym free ∙ told)

  unmarked_next : (p q s : ℕ) → p < t.states → q < t.states → s < t.symbols → is_marked t m.marked p q ≡ false → is_marked t m.marked (next_state t p s) (next_state t q s) ≡ false
  unmarked_next p q s below_p below_q below free = by_case (is_marked t m.marked (next_state t p s) (next_state t q s)) refl where
    by_case : (b : Bool) → is_marked t m.marked (next_state t p s) (next_state t q s) ≡ b → is_marked t m.marked (next_state t p s) (next_state t q s) ≡ false
    by_case false e = e
    by_case true e =
        let there = h.listed (next_state t p s) (next_state t q s) (is.to p s below_p below) (is.to q s below_q below) e in
        absurd (not_marked p q free (done there.place there.within s p q below below_p below_q (sym there.first) (sym there.second)))

  alike_word : (word : List ℕ) (p q : ℕ) → IsOf t word → p < t.states → q < t.states → is_marked t m.marked p q ≡ false → says_yes t (run t p word) ≡ says_yes t (run t q word)
  alike_word [] p q of below_p below_q free = by_answer (same_answer_or (says_yes t p) (says_yes t q)) where
    by_answer : (says_yes t p ≡ says_yes t q) ⊎ (says_yes t p ≢ says_yes t q) → says_yes t p ≡ says_yes t q
    by_answer (inl same) = same
    by_answer (inr differs) = absurd (not_marked p q free (unequal p below_p q below_q differs))
  alike_word (s ∷ word) p q of below_p below_q free =
      let below : s < t.symbols = of 0 0 (omega arith) in
      alike_word word (next_state t p s) (next_state t q s) (All-tail (λ x. x < t.symbols) s word of) (is.to p s below_p below) (is.to q s below_q below) (unmarked_next p q s below_p below_q below free)

  pub decided : IsDecided t m.marked
  decided = record {
    rows = h.rows;
    apart = λ p q below_p below_q told.
        let there = h.listed p q below_p below_q told in
        subst (λ x. IsApart t x q) there.first (subst (λ y. IsApart t (pair_at m.pairs there.place).0 y) there.second (h.apart there.place there.within));
    alike = λ p q below_p below_q free word of. alike_word word p q of below_p below_q free;
  }
