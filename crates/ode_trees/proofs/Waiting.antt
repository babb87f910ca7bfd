-- The machine of `faabs`, which keeps a tree of its second part for each point of its first part that is still open.
use Rattle.std.proofs.Common.{◌≡◌, ℕ, zero, suc, ◌+◌, ◌-◌, ◌<◌, ◌≤◌, Bool, true, false, List, [], length, map, drop, get_or, refl, ap, sym, ◌∙◌, arith, length-drop}
use Rattle.std.specs.Prelude.{◌&&◌, ◌||◌, not, cond, filter}
use Rattle.std.specs.List.{list_any}
use Rattle.std.proofs.Math.Bool.{and-false, and-true, not-not, or-false}
use Rattle.ode_value.specs.declared.event.EventExpr.TheOpen as o
use Rattle.ode_value.specs.declared.tree.StateTree.{StateTree}
use Rattle.ode_value.specs.declared.tree.StateTree.TheVariants as tree
use Rattle.ode_value.specs.Marks.{Mark, no_mark}
use Rattle.ode_value.specs.Points.{Points, some_below, points_of, first_of}
use Rattle.ode_value.specs.TreeOrder.{tree_cmp, joined}
use Rattle.ode_value.specs.Trees.{TreeMachine, machine_of, next_started, next_waiting, with_first}
use Rattle.ode_value.proofs.Below.{some_below-same}
use Rattle.ode_trees.proofs.After.{after}
use Rattle.ode_trees.proofs.PartLaws.{left-Waiting, right-Waiting, started-Waiting}
use Rattle.ode_trees.proofs.EqualTrees.{tree-equal, any-all_joined, any-map, any-filter}
use Rattle.ode_trees.proofs.PairSets.{below-suc}
use Rattle.ode_trees.proofs.Started.{shift, begun, any-started}
use Rattle.ode_trees.proofs.Steps.{Runs}

goes_on : (p before here spoilt q : Bool) → (p && (not before && (not here && (not spoilt && q)))) ≡ (p && (not (before || (here || spoilt)) && q))
goes_on p true here spoilt q = refl
goes_on p false true spoilt q = refl
goes_on p false false spoilt q = refl

-- ---- a first position, and no other ones before it

regrouped : (a b c d : Bool) → ((a || b) || (c || d)) ≡ ((a || c) || (b || d))
regrouped true b c d = refl
regrouped false true true d = refl
regrouped false true false d = refl
regrouped false false c d = refl

some_below-or : (a b : ℕ → Bool) (n : ℕ) → some_below (λ i. a i || b i) n ≡ (some_below a n || some_below b n)
some_below-or a b zero = refl
some_below-or a b (suc n) = ap (λ c. c || (a n || b n)) (some_below-or a b n) ∙ regrouped (some_below a n) (some_below b n) (a n) (b n)

or-none : (a b : Bool) → (a || b) ≡ false → (a ≡ false) × (b ≡ false)
or-none true b h = cc
or-none false b h = (refl, h)

-- where none of the first kind is below a bound, none of them spoils one of the second
alone : (q u : ℕ → Bool) (n : ℕ) → some_below q n ≡ false → some_below (λ i. u i && not (q i)) n ≡ some_below u n
alone q u zero h = refl
alone q u (suc n) h =
    let both = or-none (some_below q n) (q n) h in
    ap (λ b. b || (u n && not (q n))) (alone q u n both.0)
    ∙ ap (λ b. some_below u n || (u n && not b)) both.1
    ∙ ap (λ b. some_below u n || b) (and-true (u n))

not-alone : (b : Bool) → (not (b || false) && true) ≡ not b
not-alone true = refl
not-alone false = refl

first_alone : (q u : ℕ → Bool) (n : ℕ)
    → (not (some_below q n || some_below (λ i. u i && not (q i)) (suc n)) && q n) ≡ ((q n && not (some_below q n)) && not (some_below u n))
first_alone q u n = by_test (some_below q n) refl (q n) where
  by_test : (before : Bool) → some_below q n ≡ before → (here : Bool)
      → (not (before || (some_below (λ i. u i && not (q i)) n || (u n && not here))) && here) ≡ ((here && not before) && not (some_below u n))
  by_test true h true = refl
  by_test true h false = refl
  by_test false h false = and-false (not (some_below (λ i. u i && not (q i)) n || (u n && true)))
  by_test false h true =
      ap (λ b. not (some_below (λ i. u i && not (q i)) n || b) && true) (and-false (u n))
      ∙ ap (λ b. not (b || false) && true) (alone q u n h)
      ∙ not-alone (some_below u n)

-- ---- sets

-- of a set some go
any-kept : (b : Bool) (a q : StateTree → Bool) (set : List StateTree) → list_any q (cond b (filter a set) set) ≡ list_any (λ s. not (b && not (a s)) && q s) set
any-kept true a q set = any-filter a q set ∙ (λ i. list_any (λ s. sym (not-not (a s)) i && q s) set)
any-kept false a q set = refl

any-waiting : (f : TreeMachine) (l : Mark) (b : Bool) (q : StateTree → Bool) (set : List StateTree)
    → list_any q (next_waiting f l b set) ≡ list_any (λ s. not (f.answer s) && (not (b && not (f.answer (f.next l s))) && q (f.next l s))) set
any-waiting f l b q set =
    let left = filter (λ x. not (f.answer x)) set in
    let kept = λ (s : StateTree). not (b && not (f.answer s)) && q s in
    any-kept b f.answer q (next_started f l left)
    ∙ any-all_joined tree_cmp tree-equal kept [] (map (f.next l) left)
    ∙ any-map kept (f.next l) left
    ∙ any-filter (λ x. not (f.answer x)) (λ s. kept (f.next l s)) set

-- ---- the machine

module _ (m : List Mark) (e f g : TreeMachine) where
  waiting_of : ℕ → List StateTree
  waiting_of zero = []
  waiting_of (suc n) = with_first (e.answer (after e m (suc n))) (joined tree_cmp f.first) (next_waiting f (get_or m n no_mark) (g.answer (after g m (suc n))) (waiting_of n))

  faabs_after : (n : ℕ) → after (machine_of (o.FaAbs e f g)) m n ≡ tree.Waiting (after e m n) (after g m n) (waiting_of n)
  unfolding waiting_of
  faabs_after zero = refl
  faabs_after (suc n) = rw (faabs_after n, left-Waiting, right-Waiting, started-Waiting) refl

  abbrev next : ℕ → StateTree → StateTree
  next n s = f.next (get_or m n no_mark) s

  -- the tree of the point k after j more points
  abbrev tree_from : ℕ → ℕ → StateTree
  tree_from k j = after f (drop (suc k) m) j

  -- whether g answers at the point i of those, and the tree doesn't
  abbrev spoilt : ℕ → ℕ → Bool
  spoilt k i = g.answer (after g m (suc (suc k + i))) && not (f.answer (tree_from k (suc i)))

  -- whether it went before that: it had answered, or was spoilt
  abbrev gone : ℕ → ℕ → Bool
  gone k j = some_below (λ i. f.answer (tree_from k i) || spoilt k i) j

  tree_shift : (k n : ℕ) → k < n → tree_from k (suc (n - suc k)) ≡ next n (tree_from k (n - suc k))
  tree_shift k n h = let one_more : suc n - suc k ≡ suc (n - suc k) = omega arith in ap (tree_from k) (sym one_more) ∙ shift f m k n h

  gone_shift : (k n : ℕ) → k < n
      → gone k (suc n - suc k) ≡ (gone k (n - suc k) || (f.answer (tree_from k (n - suc k)) || (g.answer (after g m (suc n)) && not (f.answer (next n (tree_from k (n - suc k)))))))
  gone_shift k n h =
      let j = n - suc k in
      let one_more : suc n - suc k ≡ suc j = omega arith in
      let place : suc k + j ≡ n = omega arith in
      ap (gone k) one_more
      ∙ ap (λ i. gone k j || (f.answer (tree_from k j) || (g.answer (after g m (suc i)) && not (f.answer (tree_from k (suc j)))))) place
      ∙ ap (λ t. gone k j || (f.answer (tree_from k j) || (g.answer (after g m (suc n)) && not (f.answer t)))) (tree_shift k n h)

  gone_begun : (n : ℕ) → gone n (suc n - suc n) ≡ false
  gone_begun n = let none : suc n - suc n ≡ 0 = omega arith in ap (gone n) none

  -- a test passes on a tree of the set where the tree of some point, not gone so far, passes it
  any-open : (p : Points) → Runs e p m → (n : ℕ) → n ≤ length m → (q : StateTree → Bool) → list_any q (waiting_of n) ≡ some_below (λ k. p m k && (not (gone k (n - suc k)) && q (tree_from k (n - suc k)))) n
  unfolding waiting_of
  any-open p r zero h q = refl
  any-open p r (suc n) h q =
      let b = g.answer (after g m (suc n)) in
      let old = next_waiting f (get_or m n no_mark) b (waiting_of n) in
      let tested = λ (k : ℕ). p m k && (not (gone k (suc n - suc k)) && q (tree_from k (suc n - suc k))) in
      any-started (e.answer (after e m (suc n))) q f.first old
      ∙ ap (λ t. list_any q old || (t && q f.first)) (r.each n (omega arith))
      ∙ ap (λ t. t || (p m n && q f.first)) (any-waiting f (get_or m n no_mark) b q (waiting_of n)
      ∙ any-open p r n (omega arith) (λ s. not (f.answer s) && (not (b && not (f.answer (next n s))) && q (next n s))))
      ∙ ap (λ t. t || (p m n && q f.first)) (some_below-same _ _ n (λ k below.
      goes_on (p m k) (gone k (n - suc k)) (f.answer (tree_from k (n - suc k))) (b && not (f.answer (next n (tree_from k (n - suc k))))) (q (next n (tree_from k (n - suc k))))
      ∙ ap (λ t. p m k && (not t && q (next n (tree_from k (n - suc k))))) (sym (gone_shift k n below))
      ∙ ap (λ x. p m k && (not (gone k (suc n - suc k)) && q x)) (sym (shift f m k n below))))
      ∙ ap (λ x. some_below tested n || (p m n && q x)) (sym (begun f (drop (suc n) m) n))
      ∙ ap (λ t. some_below tested n || (p m n && (not t && q (tree_from n (suc n - suc n))))) (sym (gone_begun n))

  -- whether the tree of the point k is there and answers after the point n
  abbrev opens : Points → ℕ → ℕ → Bool
  opens p n k = p m k && (not (gone k (suc n - suc k)) && f.answer (tree_from k (suc n - suc k)))

  pub runs_faabs : (p q u : Points) → Runs e p m → ((k : ℕ) → Runs f q (drop k m)) → Runs g u m → Runs (machine_of (o.FaAbs e f g)) (points_of (o.FaAbs p q u)) m
  runs_faabs p q u r s t = record {
    none = rw started-Waiting refl;
    each = λ n h. rw (faabs_after (suc n), started-Waiting) (any-open p r (suc n) (omega arith) f.answer ∙ here n h);
  } where
    at_last : (n : ℕ) → opens p n n ≡ false
    at_last n =
        ap (λ b. p m n && (not b && f.answer (tree_from n (suc n - suc n)))) (gone_begun n)
        ∙ ap (λ x. p m n && f.answer x) (begun f (drop (suc n) m) n)
        ∙ ap (λ b. p m n && b) (s (suc n)).none ∙ and-false (p m n)

    -- what went: those that had answered, and those that were spoilt
    gone_is : (k j : ℕ) → suc k + j < length m
        → gone k (suc j) ≡ (some_below (q (drop (suc k) m)) j || some_below (λ i. u m (suc k + i) && not (q (drop (suc k) m) i)) (suc j))
    gone_is k j h =
        let w = drop (suc k) m in
        some_below-or (λ i. f.answer (tree_from k i)) (spoilt k) (suc j)
        ∙ ap (λ b. b || some_below (spoilt k) (suc j)) (below-suc (λ i. f.answer (tree_from k i)) j (s (suc k)).none
        ∙ some_below-same _ _ j (λ i below. let within : i < length w = omega (arith, length-drop (suc k) m) in (s (suc k)).each i within))
        ∙ ap (λ b. some_below (q w) j || b) (some_below-same _ _ (suc j) (λ i below.
        let within : i < length w = omega (arith, length-drop (suc k) m) in
        let place : suc k + i < length m = omega arith in
        ap (λ b. b && not (f.answer (tree_from k (suc i)))) (t.each (suc k + i) place) ∙ ap (λ b. u m (suc k + i) && not b) ((s (suc k)).each i within)))

    at_each : (n k : ℕ) → n < length m → k < n → opens p n k ≡ (p m k && (first_of q (drop (suc k) m) (n - suc k) && not (some_below (λ i. u m (suc k + i)) (n - suc k))))
    at_each n k h below =
        let w = drop (suc k) m in
        let j = n - suc k in
        let one_more : suc n - suc k ≡ suc j = omega arith in
        let within : j < length w = omega (arith, length-drop (suc k) m) in
        let place : suc k + j < length m = omega arith in
        ap (λ i. p m k && (not (gone k i) && f.answer (tree_from k i))) one_more
        ∙ ap (λ b. p m k && (not (gone k (suc j)) && b)) ((s (suc k)).each j within)
        ∙ ap (λ b. p m k && (not b && q w j)) (gone_is k j place)
        ∙ ap (λ b. p m k && b) (first_alone (q w) (λ i. u m (suc k + i)) j)

    here : (n : ℕ) → n < length m → some_below (opens p n) (suc n) ≡ points_of (o.FaAbs p q u) m n
    here n h =
        ap (λ b. some_below (opens p n) n || b) (at_last n)
        ∙ or-false (some_below (opens p n) n)
        ∙ some_below-same _ _ n (λ k below. at_each n k h below)
