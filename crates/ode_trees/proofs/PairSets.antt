-- The machine of `fa`, which keeps a pair of trees for each point of its first part that is still open.
use Rattle.std.proofs.Common.{◌≡◌, ℕ, zero, suc, ◌-◌, ◌<◌, ◌≤◌, Bool, true, false, List, [], length, map, drop, get_or, refl, ap, sym, ◌∙◌, arith, length-drop}
use Rattle.std.specs.Prelude.{◌&&◌, ◌||◌, not, filter}
use Rattle.std.specs.List.{list_any}
use Rattle.std.proofs.Math.Bool.{and-false, or-false, or_comm}
use Rattle.ode_value.specs.declared.event.EventExpr.TheOpen as o
use Rattle.ode_value.specs.declared.tree.StateTree.{StateTree}
use Rattle.ode_value.specs.declared.tree.StateTree.TheVariants as tree
use Rattle.ode_value.specs.Marks.{Mark, no_mark}
use Rattle.ode_value.specs.Points.{Points, some_below, points_of, first_unless}
use Rattle.ode_value.specs.TreeOrder.{pair_cmp, joined}
use Rattle.ode_value.specs.Trees.{TreeMachine, machine_of, is_spent, next_pair, next_pairs, with_first}
use Rattle.ode_value.proofs.Below.{some_below-same}
use Rattle.ode_trees.proofs.After.{after}
use Rattle.ode_trees.proofs.PartLaws.{left-Pairs, pairs-Pairs}
use Rattle.ode_trees.proofs.EqualTrees.{pairs-equal, any-joined, any-all_joined, any-map, any-filter}
use Rattle.ode_trees.proofs.Steps.{Runs}
use Rattle.ode_trees.proofs.Started.{shift, begun}

any-begun : (b : Bool) (q : StateTree × StateTree → Bool) (x : StateTree × StateTree) (set : List (StateTree × StateTree)) → list_any q (with_first b (joined pair_cmp x) set) ≡ (list_any q set || (b && q x))
any-begun true q x set = any-joined pair_cmp pairs-equal q x set ∙ or_comm (q x) (list_any q set)
any-begun false q x set = sym (or-false (list_any q set))

goes_on : (p before here q : Bool) → (p && (not before && (not here && q))) ≡ (p && (not (before || here) && q))
goes_on p false here q = refl
goes_on p true here q = refl

other_way : (p a b : Bool) → (p && (a && b)) ≡ (p && (b && a))
other_way true true true = refl
other_way true true false = refl
other_way true false true = refl
other_way true false false = refl
other_way false a b = refl

-- what is false at 0 is true somewhere below a bound where its later values are
pub below-suc : (p : ℕ → Bool) (n : ℕ) → p 0 ≡ false → some_below p (suc n) ≡ some_below (λ k. p (suc k)) n
below-suc p zero h = h
below-suc p (suc n) h = ap (λ b. b || p (suc n)) (below-suc p n h)

both_false : (a b : Bool) → a ≡ false → b ≡ false → (a || b) ≡ false
both_false a b p q = ap (λ c. c || b) p ∙ q

module _ (m : List Mark) (e f g : TreeMachine) where
  abbrev spent : StateTree × StateTree → Bool
  spent = is_spent f g

  abbrev both : ℕ → StateTree × StateTree → StateTree × StateTree
  both n = next_pair f g (get_or m n no_mark)

  -- the pair of the point k after j more points
  abbrev trees : ℕ → ℕ → StateTree × StateTree
  trees k j = (after f (drop (suc k) m) j, after g (drop (suc k) m) j)

  -- whether it was spent before that
  abbrev over : ℕ → ℕ → Bool
  over k j = some_below (λ i. spent (trees k i)) j

  pairs_of : ℕ → List (StateTree × StateTree)
  pairs_of zero = []
  pairs_of (suc n) = with_first (e.answer (after e m (suc n))) (joined pair_cmp (f.first, g.first)) (next_pairs f g (get_or m n no_mark) (pairs_of n))

  fa_after : (n : ℕ) → after (machine_of (o.Fa e f g)) m n ≡ tree.Pairs (after e m n) (pairs_of n)
  unfolding pairs_of
  fa_after zero = refl
  fa_after (suc n) = rw (fa_after n, left-Pairs, pairs-Pairs) refl

  trees_shift : (k n : ℕ) → k < n → trees k (suc n - suc k) ≡ both n (trees k (n - suc k))
  trees_shift k n h =
      let first = shift f m k n h in
      let second = shift g m k n h in
      λ i. (first i, second i)

  over_shift : (k n : ℕ) → k < n → over k (suc n - suc k) ≡ (over k (n - suc k) || spent (trees k (n - suc k)))
  over_shift k n h = let one_more : suc n - suc k ≡ suc (n - suc k) = omega arith in ap (over k) one_more

  trees_begun : (n : ℕ) → trees n (suc n - suc n) ≡ (f.first, g.first)
  trees_begun n =
      let first = begun f (drop (suc n) m) n in
      let second = begun g (drop (suc n) m) n in
      λ i. (first i, second i)

  over_begun : (n : ℕ) → over n (suc n - suc n) ≡ false
  over_begun n = let none : suc n - suc n ≡ 0 = omega arith in ap (over n) none

  -- a test passes on a pair of the set where the pair of some point, not spent so far, passes it
  any-pairs : (p : Points) → Runs e p m → (n : ℕ) → n ≤ length m → (q : StateTree × StateTree → Bool) → list_any q (pairs_of n) ≡ some_below (λ k. p m k && (not (over k (n - suc k)) && q (trees k (n - suc k)))) n
  unfolding pairs_of
  any-pairs p r zero h q = refl
  any-pairs p r (suc n) h q =
      let first : StateTree × StateTree = (f.first, g.first) in
      let old = next_pairs f g (get_or m n no_mark) (pairs_of n) in
      let tested = λ (k : ℕ). p m k && (not (over k (suc n - suc k)) && q (trees k (suc n - suc k))) in
      any-begun (e.answer (after e m (suc n))) q first old
      ∙ ap (λ b. list_any q old || (b && q first)) (r.each n (omega arith))
      ∙ ap (λ b. b || (p m n && q first)) (any-all_joined pair_cmp pairs-equal q [] (map (both n) (filter (λ x. not (spent x)) (pairs_of n))) ∙ any-map q (both n) (filter (λ x. not (spent x)) (pairs_of n)) ∙ any-filter (λ x. not (spent x)) (λ x. q (both n x)) (pairs_of n) ∙ any-pairs p r n (omega arith) (λ x. not (spent x) && q (both n x)))
      ∙ ap (λ b. b || (p m n && q first)) (some_below-same _ _ n (λ k below. goes_on (p m k) (over k (n - suc k)) (spent (trees k (n - suc k))) (q (both n (trees k (n - suc k))))
      ∙ ap (λ b. p m k && (not b && q (both n (trees k (n - suc k))))) (sym (over_shift k n below))
      ∙ ap (λ x. p m k && (not (over k (suc n - suc k)) && q x)) (sym (trees_shift k n below))))
      ∙ ap (λ x. some_below tested n || (p m n && q x)) (sym (trees_begun n))
      ∙ ap (λ b. some_below tested n || (p m n && (not b && q (trees n (suc n - suc n))))) (sym (over_begun n))

  -- whether the pair of the point k answers after the point n
  abbrev opens : Points → ℕ → ℕ → Bool
  opens p n k = p m k && (not (over k (suc n - suc k)) && f.answer (after f (drop (suc k) m) (suc n - suc k)))

  pub runs_fa : (p q u : Points) → Runs e p m → ((k : ℕ) → Runs f q (drop k m)) → ((k : ℕ) → Runs g u (drop k m)) → Runs (machine_of (o.Fa e f g)) (points_of (o.Fa p q u)) m
  runs_fa p q u r s t = record {
    none = rw pairs-Pairs refl;
    each = λ n h. rw (fa_after (suc n), pairs-Pairs) (any-pairs p r (suc n) (omega arith) (λ x. f.answer x.0) ∙ here n h);
  } where
    at_last : (n : ℕ) → opens p n n ≡ false
    at_last n =
        ap (λ b. p m n && (not b && f.answer (after f (drop (suc n) m) (suc n - suc n)))) (over_begun n)
        ∙ ap (λ x. p m n && f.answer x) (begun f (drop (suc n) m) n)
        ∙ ap (λ b. p m n && b) (s (suc n)).none ∙ and-false (p m n)

    -- in the part after k, the trees of f and g answer as their points say
    at_each : (n k : ℕ) → n < length m → k < n → opens p n k ≡ (p m k && first_unless q u (drop (suc k) m) (n - suc k))
    at_each n k h below =
        let w = drop (suc k) m in
        let j = n - suc k in
        let one_more : suc n - suc k ≡ suc j = omega arith in
        let within : j < length w = omega (arith, length-drop (suc k) m) in
        ap (λ i. p m k && (not (over k i) && f.answer (after f (drop (suc k) m) i))) one_more
        ∙ ap (λ b. p m k && (not (over k (suc j)) && b)) ((s (suc k)).each j within)
        ∙ ap (λ b. p m k && (not b && q w j)) (below-suc (λ i. spent (trees k i)) j (both_false _ _ (s (suc k)).none (t (suc k)).none)
        ∙ some_below-same _ _ j (λ i i_below. let i_within : i < length w = omega arith in
        ap (λ b. b || g.answer (after g (drop (suc k) m) (suc i))) ((s (suc k)).each i i_within) ∙ ap (λ b. q w i || b) ((t (suc k)).each i i_within)))
        ∙ other_way (p m k) (not (some_below (λ i. q w i || u w i) j)) (q w j)

    here : (n : ℕ) → n < length m → some_below (opens p n) (suc n) ≡ points_of (o.Fa p q u) m n
    here n h =
        ap (λ b. some_below (opens p n) n || b) (at_last n)
        ∙ or-false (some_below (opens p n) n)
        ∙ some_below-same _ _ n (λ k below. at_each n k h below)
