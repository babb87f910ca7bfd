-- The machine of `relplus`, which keeps a tree for the whole history and one for each point so far.
use Rattle.std.proofs.Common.{◌≡◌, ℕ, zero, suc, ◌-◌, ◌<◌, ◌≤◌, Bool, true, false, List, [], ◌∷◌, length, map, drop, refl, ap, sym, ◌∙◌, arith, get_or, length-drop}
use Rattle.std.specs.Prelude.{◌&&◌, ◌||◌}
use Rattle.std.specs.List.{list_any}
use Rattle.std.proofs.Math.Bool.{or_assoc}
use Rattle.ode_value.specs.declared.event.EventExpr.TheOpen as o
use Rattle.ode_value.specs.declared.tree.StateTree.{StateTree}
use Rattle.ode_value.specs.declared.tree.StateTree.TheVariants as tree
use Rattle.ode_value.specs.Marks.{Mark, no_mark}
use Rattle.ode_value.specs.Points.{Points, some_below, chained, points_of}
use Rattle.ode_value.specs.TreeOrder.{tree_cmp, joined}
use Rattle.ode_value.specs.Trees.{TreeMachine, machine_of, next_started, with_first}
use Rattle.ode_value.proofs.Below.{some_below-same}
use Rattle.ode_trees.proofs.After.{after}
use Rattle.ode_trees.proofs.PartLaws.{started-Chained}
use Rattle.ode_trees.proofs.EqualTrees.{tree-equal, any-all_joined, any-map}
use Rattle.ode_trees.proofs.Started.{shift, begun, any-started}
use Rattle.ode_trees.proofs.Steps.{Runs}

-- a chain that ends at a position has at most one position more than there are before it
chained-enough : (p : Points) (m : List Mark) (a b i : ℕ) → i < a → i < b → chained p a m i ≡ chained p b m i
chained-enough p m zero b i h k = absurd (omega arith)
chained-enough p m (suc a) zero i h k = absurd (omega arith)
chained-enough p m (suc a) (suc b) i h k =
    ap (λ c. p m i || c) (some_below-same _ _ i (λ j below. ap (λ c. c && p (drop (suc j) m) (i - suc j)) (chained-enough p m a b j (omega arith) (omega arith))))

none_joins : (b : Bool) → (b || (b && false)) ≡ b
none_joins true = refl
none_joins false = refl

module _ (m : List Mark) (e : TreeMachine) where
  -- the trees after the first n points
  chain_of : ℕ → List StateTree
  chain_of zero = e.first ∷ []
  chain_of (suc n) =
      let set = next_started e (get_or m n no_mark) (chain_of n) in
      with_first (list_any e.answer set) (joined tree_cmp e.first) set

  relplus_after : (n : ℕ) → after (machine_of (o.RelPlus e)) m n ≡ tree.Chained (chain_of n)
  unfolding chain_of
  relplus_after zero = refl
  relplus_after (suc n) = rw (relplus_after n, started-Chained) refl

  -- the tree of the point k after the first n points
  abbrev tree_from : ℕ → ℕ → StateTree
  tree_from n k = after e (drop (suc k) m) (n - suc k)

  -- whether a test passes on the tree of the whole history, or on that of a position of the chain
  abbrev on_chain : Points → ℕ → (StateTree → Bool) → Bool
  on_chain p n q = q (after e m n) || some_below (λ k. chained p (suc k) m k && q (tree_from n k)) n

  abbrev stepped : ℕ → List StateTree
  stepped n = next_started e (get_or m n no_mark) (chain_of n)

  abbrev next : ℕ → StateTree → StateTree
  next n s = e.next (get_or m n no_mark) s

  -- the trees after a step, before a first one joins
  any-stepped : (p : Points) (n : ℕ) (q : StateTree → Bool) → list_any (λ s. q (next n s)) (chain_of n) ≡ on_chain p n (λ s. q (next n s))
      → list_any q (stepped n) ≡ (q (after e m (suc n)) || some_below (λ k. chained p (suc k) m k && q (tree_from (suc n) k)) n)
  any-stepped p n q before =
      any-all_joined tree_cmp tree-equal q [] (map (next n) (chain_of n))
      ∙ any-map q (next n) (chain_of n)
      ∙ before
      ∙ ap (λ b. q (after e m (suc n)) || b) (some_below-same _ _ n (λ k below. ap (λ s. chained p (suc k) m k && q s) (sym (shift e m k n below))))

  -- one of them answers where the last point is one of the chain
  answered : (p : Points) → Runs e p m → ((k : ℕ) → Runs e p (drop k m)) → (n : ℕ) → n < length m
      → (e.answer (after e m (suc n)) || some_below (λ k. chained p (suc k) m k && e.answer (tree_from (suc n) k)) n) ≡ chained p (suc n) m n
  answered p r s n h =
      ap (λ b. b || some_below (λ k. chained p (suc k) m k && e.answer (tree_from (suc n) k)) n) (r.each n h)
      ∙ ap (λ b. p m n || b) (some_below-same _ _ n (λ k below. ap (λ b. b && e.answer (tree_from (suc n) k)) (chained-enough p m (suc k) n k (omega arith) below) ∙ ap (λ b. chained p n m k && b) (at_each k below))) where
        at_each : (k : ℕ) → k < n → e.answer (tree_from (suc n) k) ≡ p (drop (suc k) m) (n - suc k)
        at_each k below =
            let one_more : suc n - suc k ≡ suc (n - suc k) = omega arith in
            let within : n - suc k < length (drop (suc k) m) = omega (arith, length-drop (suc k) m) in
            ap (λ j. e.answer (after e (drop (suc k) m) j)) one_more ∙ (s (suc k)).each (n - suc k) within

  -- a test passes on one of the trees where that of the whole history or that of a position of the chain passes it
  any-chain : (p : Points) → Runs e p m → ((k : ℕ) → Runs e p (drop k m)) → (n : ℕ) → n ≤ length m → (q : StateTree → Bool) → list_any q (chain_of n) ≡ on_chain p n q
  unfolding chain_of
  any-chain p r s zero h q = refl
  any-chain p r s (suc n) h q =
      let old = stepped n in
      let here = q (after e m (suc n)) in
      let before = some_below (λ k. chained p (suc k) m k && q (tree_from (suc n) k)) n in
      let yes : list_any e.answer old ≡ chained p (suc n) m n = any-stepped p n e.answer (any-chain p r s n (omega arith) (λ t. e.answer (next n t))) ∙ answered p r s n (omega arith) in
      any-started (list_any e.answer old) q e.first old
      ∙ ap (λ b. list_any q old || (b && q e.first)) yes
      ∙ ap (λ b. b || (chained p (suc n) m n && q e.first)) (any-stepped p n q (any-chain p r s n (omega arith) (λ t. q (next n t))))
      ∙ or_assoc here before (chained p (suc n) m n && q e.first)
      ∙ ap (λ t. here || (before || (chained p (suc n) m n && q t))) (sym (begun e (drop (suc n) m) n))

  -- the trees answer where the last point is one of the chain
  chain-answers : (p : Points) → Runs e p m → ((k : ℕ) → Runs e p (drop k m)) → (n : ℕ) → n < length m → list_any e.answer (chain_of (suc n)) ≡ chained p (suc n) m n
  unfolding chain_of
  chain-answers p r s n h =
      let old = stepped n in
      any-started (list_any e.answer old) e.answer e.first old
      ∙ ap (λ b. list_any e.answer old || (list_any e.answer old && b)) r.none
      ∙ none_joins (list_any e.answer old)
      ∙ any-stepped p n e.answer (any-chain p r s n (omega arith) (λ t. e.answer (next n t)))
      ∙ answered p r s n h

  pub runs_relplus : (p : Points) → Runs e p m → ((k : ℕ) → Runs e p (drop k m)) → Runs (machine_of (o.RelPlus e)) (points_of (o.RelPlus p)) m
  runs_relplus p r s = record {
    none = rw started-Chained (ap (λ b. b || false) r.none);
    each = λ n h. rw (relplus_after (suc n), started-Chained) (chain-answers p r s n h);
  }
