-- Words that are lower than the word of a visit.
use Rattle.std.proofs.Common.{◌≡◌, ℕ, ◌+◌, ◌<◌, Bool, List, [], ◌∷◌, ◌++◌, length, true, refl, sym, ap, ◌∙◌, subst, arith, inl, inr, ◌⊎◌}
use Rattle.std.specs.Prelude.{All, nat_lt, ◌==◌, ◌&&◌, false, reverse}
use Rattle.std.proofs.lemmas.Bool.{and_from, and_parts, eqb-true, false≢true, ltb-true, or_cases, or_left, or_right}
use Rattle.std.proofs.lemmas.Grind.{reverse_onto}
use Rattle.std.proofs.lemmas.List.{get_or_append_left, get_or_push, length_push, length-reverse}
use Rattle.std.proofs.lemmas.List.Sums.{fold-append}
use Rattle.ode_value.specs.Tables.{Table, next_state, run, says_yes}
use Rattle.ode_walk.specs.declared.visit.Visit.{Visit}
use Rattle.ode_walk.specs.Relation.{is_lower}
use Rattle.ode_walk.specs.Search.{IsMetBefore, IsSearch, IsStepped, IsTree, IsWordBack, visit_at}

-- ---- the last symbol of a word

record IsPushed (word : List ℕ) : Type 0 where
  pub front : List ℕ
  pub last : ℕ
  pub is : word ≡ front ++ last ∷ []

pushed : (s : ℕ) (word : List ℕ) → IsPushed (s ∷ word)
pushed s [] = record { front = []; last = s; is = refl }
pushed s (u ∷ word) = let rest = pushed u word in record { front = s ∷ rest.front; last = rest.last; is = ap (λ l. s ∷ l) rest.is }

-- what is known of two words of one length, of which the one is lower with a last symbol each
abbrev LowerBefore : List ℕ → List ℕ → ℕ → ℕ → Type 0
LowerBefore word other s u = (is_lower word other ≡ true) ⊎ ((word ≡ other) × (s < u))

lower_none : (s u : ℕ) → is_lower (s ∷ []) (u ∷ []) ≡ true → LowerBefore [] [] s u
lower_none s u is = by (or_cases (nat_lt s u) (s == u && false) is) where
  by : (nat_lt s u ≡ true) ⊎ ((s == u && false) ≡ true) → LowerBefore [] [] s u
  by (inl less) = inr (refl, ltb-true s u less)
  by (inr both) = absurd (false≢true (and_parts (s == u) false both).1)

lower_more : (x y s u : ℕ) (word other : List ℕ) → x ≡ y → (x == y) ≡ true → LowerBefore word other s u → LowerBefore (x ∷ word) (y ∷ other) s u
lower_more x y s u word other equal test (inl low) = inl (or_right (nat_lt x y) (x == y && is_lower word other) (and_from (x == y) (is_lower word other) test low))
lower_more x y s u word other equal test (inr both) = inr ((λ i. equal i ∷ both.0 i), both.1)

lower_both : (x y s u : ℕ) (word other : List ℕ) → (is_lower (word ++ s ∷ []) (other ++ u ∷ []) ≡ true → LowerBefore word other s u)
    → is_lower (x ∷ (word ++ s ∷ [])) (y ∷ (other ++ u ∷ [])) ≡ true → LowerBefore (x ∷ word) (y ∷ other) s u
lower_both x y s u word other rest is = by (or_cases (nat_lt x y) (x == y && is_lower (word ++ s ∷ []) (other ++ u ∷ [])) is) where
  by : (nat_lt x y ≡ true) ⊎ ((x == y && is_lower (word ++ s ∷ []) (other ++ u ∷ [])) ≡ true) → LowerBefore (x ∷ word) (y ∷ other) s u
  by (inl less) = inl (or_left (nat_lt x y) (x == y && is_lower word other) less)
  by (inr both) =
      let parts = and_parts (x == y) (is_lower (word ++ s ∷ []) (other ++ u ∷ [])) both in
      lower_more x y s u word other (eqb-true x y parts.0) parts.0 (rest parts.1)

lower_last : (word other : List ℕ) (s u : ℕ) → length word ≡ length other → is_lower (word ++ s ∷ []) (other ++ u ∷ []) ≡ true → LowerBefore word other s u
lower_last [] [] s u same is = lower_none s u is
lower_last [] (y ∷ other) s u same is = absurd (omega arith)
lower_last (x ∷ word) [] s u same is = absurd (omega arith)
lower_last (x ∷ word) (y ∷ other) s u same is = lower_both x y s u word other (lower_last word other s u (omega arith)) is

run_last : (t : Table) (word : List ℕ) (s : ℕ) → run t 0 (word ++ s ∷ []) ≡ next_state t (run t 0 word) s
run_last t word s = fold-append (next_state t) 0 word (s ∷ [])

all_front : (n : ℕ) (word : List ℕ) (s : ℕ) → All (λ x. x < n) (word ++ s ∷ []) → All (λ x. x < n) word
all_front n word s all = λ k d within. subst (λ x. x < n) (get_or_append_left word (s ∷ []) d k within) (all k d (omega (arith, length_push word s)))

all_last : (n : ℕ) (word : List ℕ) (s : ℕ) → All (λ x. x < n) (word ++ s ∷ []) → s < n
all_last n word s all = subst (λ x. x < n) (get_or_push word s 0 (length word) refl) (all (length word) 0 (omega (arith, length_push word s)))

-- ---- the word of a visit

pub reverse_cons : (s : ℕ) (back : List ℕ) → reverse (s ∷ back) ≡ reverse back ++ s ∷ []
reverse_cons s back = reverse_onto back s []

-- leads to its states
word_leads : (stored built : Table) (visits : List Visit) → IsTree stored built visits → (back : List ℕ) (k : ℕ) → IsWordBack visits k back
    → (run stored 0 (reverse back) ≡ (visit_at visits k).stored) × (run built 0 (reverse back) ≡ (visit_at visits k).built)
word_leads stored built visits tree [] k of =
    let v = ap (visit_at visits) of ∙ tree.first in
    (sym (ap (λ (v : Visit). v.stored) v), sym (ap (λ (v : Visit). v.built) v))
word_leads stored built visits tree (s ∷ back) k of =
    let step = tree.steps k of.0 of.1 in
    let v = visit_at visits k in
    let before = word_leads stored built visits tree back v.from of.3 in (
      ap (run stored 0) (reverse_cons s back) ∙ run_last stored (reverse back) s ∙ (λ i. next_state stored (before.0 i) (sym of.2 i)) ∙ sym step.stored_next,
      ap (run built 0) (reverse_cons s back) ∙ run_last built (reverse back) s ∙ (λ i. next_state built (before.1 i) (sym of.2 i)) ∙ sym step.built_next,
    )

-- ---- words that are lower than the one that is stepped now

-- on a word the tables answer alike, and what it leads to was met
pub record IsDone (stored built : Table) (visits : List Visit) (word : List ℕ) : Type 0 where
  pub answers : says_yes stored (run stored 0 word) ≡ says_yes built (run built 0 word)
  pub met : IsMetBefore visits (length visits) (run stored 0 word) (run built 0 word)

done_by : (stored built : Table) (visits : List Visit) (v : Visit) (front : List ℕ) (s : ℕ) → IsStepped stored built visits v s → v.stored ≡ run stored 0 front → v.built ≡ run built 0 front
    → IsDone stored built visits (front ++ s ∷ [])
done_by stored built visits v front s h is_p is_q =
    let to_p : run stored 0 (front ++ s ∷ []) ≡ next_state stored v.stored s = run_last stored front s ∙ ap (λ q. next_state stored q s) (sym is_p) in
    let to_q : run built 0 (front ++ s ∷ []) ≡ next_state built v.built s = run_last built front s ∙ ap (λ q. next_state built q s) (sym is_q) in
    record {
      answers = ap (says_yes stored) to_p ∙ h.answers ∙ sym (ap (says_yes built) to_q);
      met = record {
        place = h.visited.place;
        before = h.visited.within;
        stored = h.visited.stored ∙ sym to_p;
        built = h.visited.built ∙ sym to_q;
      };
    }

module _ (stored built : Table) (visits : List Visit) (seen : List Bool) (head upto : ℕ) (inside : head < length visits) (h : IsSearch stored built visits seen head upto)
    (back : List ℕ) (of : IsWordBack visits head back) where
  done_front : (front : List ℕ) (s : ℕ) → length front ≡ length back → is_lower (front ++ s ∷ []) (reverse back ++ upto ∷ []) ≡ true → All (λ x. x < stored.symbols) (front ++ s ∷ [])
      → IsDone stored built visits (front ++ s ∷ [])
  done_front front s long low all = by (lower_last front (reverse back) s upto (long ∙ sym (length-reverse back)) low) where
    by : (is_lower front (reverse back) ≡ true) ⊎ ((front ≡ reverse back) × (s < upto)) → IsDone stored built visits (front ++ s ∷ [])
    by (inl less) =
        let there = h.first head inside back front of long less (all_front stored.symbols front s all) in
        done_by stored built visits (visit_at visits there.place) front s (h.stepped there.place s there.before (all_last stored.symbols front s all)) there.stored there.built
    by (inr both) =
        let leads = word_leads stored built visits h.tree back head of in
        done_by stored built visits (visit_at visits head) front s (h.here s both.1) (sym (ap (run stored 0) both.0 ∙ leads.0)) (sym (ap (run built 0) both.0 ∙ leads.1))

  pub done_lower : (other : List ℕ) → length other ≡ length back + 1 → is_lower other (reverse back ++ upto ∷ []) ≡ true → All (λ x. x < stored.symbols) other → IsDone stored built visits other
  done_lower [] long low all = absurd (omega arith)
  done_lower (x ∷ rest) long low all =
      let p = pushed x rest in
      let length_is : length p.front + 1 ≡ length (x ∷ rest) = sym (ap length p.is ∙ length_push p.front p.last) in
      subst (IsDone stored built visits) (sym p.is)
      (done_front p.front p.last (omega arith) (subst (λ l. is_lower l (reverse back ++ upto ∷ []) ≡ true) p.is low) (subst (All (λ x. x < stored.symbols)) p.is all))
