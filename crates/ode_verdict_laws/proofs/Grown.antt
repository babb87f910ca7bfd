-- A list of trees with no more than the limit has all trees that words reach.
use Rattle.std.proofs.Common.{◌≡◌, ℕ, zero, suc, ◌+◌, ◌-◌, ◌<◌, ◌≤◌, Bool, true, List, [], ◌∷◌, ◌++◌, length, map, refl, sym, ap, ◌∙◌, subst, arith, cond, false, inl, inr, ◌⊎◌, length-append}
use Rattle.std.specs.Prelude.{fold, flat_map}
use Rattle.std.specs.List.{list_any, range_with_len}
use Rattle.std.proofs.lemmas.Bool.{cases_lt, false≢true, or_cases, or_left, or_right}
use Rattle.std.proofs.lemmas.List.{append-nil}
use Rattle.std.proofs.lemmas.List.Folds.{list_any-append}
use Rattle.ode_value.specs.declared.event.EventExpr.{EventExpr}
use Rattle.ode_value.specs.declared.tree.StateTree.{StateTree}
use Rattle.ode_value.specs.Limits.{state_limit}
use Rattle.ode_value.specs.Symbols.{symbol_count, symbol_mark}
use Rattle.ode_value.specs.TreeCount.{count_by_steps, count_over, grow_by, grown_by, symbol_marks, with_tree}
use Rattle.ode_value.specs.TreeOrder.{same_tree}
use Rattle.ode_value.specs.Trees.{first_tree, next_tree}
use Rattle.ode_trees.proofs.CountLaws.{Begins, begins-fold, begins-with_tree}
use Rattle.ode_trees.proofs.EqualTrees.{same_tree-equal, same_tree-itself}

abbrev pub Knows : List StateTree → StateTree → Type 0
Knows trees s = list_any (same_tree s) trees ≡ true

-- ---- what is known stays known

knows-more : (xs ys : List StateTree) (s : StateTree) → Begins xs ys → Knows xs s → Knows ys s
knows-more xs ys s p h = ap (list_any (same_tree s)) p.1 ∙ list_any-append (same_tree s) xs p.0 ∙ or_left (list_any (same_tree s) xs) (list_any (same_tree s) p.0) h

knows-here : (s : StateTree) (xs : List StateTree) → Knows (s ∷ xs) s
knows-here s xs = or_left (same_tree s s) (list_any (same_tree s) xs) (same_tree-itself s)

knows-with_tree : (trees : List StateTree) (s : StateTree) → Knows (with_tree trees s) s
knows-with_tree trees s = by (list_any (same_tree s) trees) refl where
  by : (t : Bool) → list_any (same_tree s) trees ≡ t → Knows (with_tree trees s) s
  by true is = knows-more trees (with_tree trees s) s (begins-with_tree trees s) is
  by false is =
      let added : with_tree trees s ≡ trees ++ s ∷ [] = ap (λ t. cond t trees (trees ++ s ∷ [])) is in
      ap (list_any (same_tree s)) added ∙ list_any-append (same_tree s) trees (s ∷ []) ∙ or_right (list_any (same_tree s) trees) (list_any (same_tree s) (s ∷ [])) (knows-here s [])

-- and so is what is added
knows-fold : (trees new : List StateTree) (s : StateTree) → Knows new s → Knows (fold with_tree trees new) s
knows-fold trees [] s h = absurd (false≢true h)
knows-fold trees (x ∷ new) s h = by (or_cases (same_tree s x) (list_any (same_tree s) new) h) (knows-fold (with_tree trees x) new s) where
  by : (same_tree s x ≡ true) ⊎ Knows new s → (Knows new s → Knows (fold with_tree trees (x ∷ new)) s) → Knows (fold with_tree trees (x ∷ new)) s
  by (inl same) rest =
      knows-more (with_tree trees x) (fold with_tree (with_tree trees x) new) s (begins-fold (with_tree trees x) new)
      (subst (Knows (with_tree trees x)) (sym (same_tree-equal s x same)) (knows-with_tree trees x))
  by (inr later) rest = rest later

-- ---- rounds of steps

module _ (steps : List (StateTree → StateTree)) (first : StateTree) where
  abbrev grown : ℕ → List StateTree
  grown n = grown_by steps first n

  abbrev stepped : List StateTree → List StateTree
  stepped trees = flat_map (λ s. map (λ step. step s) steps) trees

  grown-first : grown zero ≡ first ∷ []
  unfolding grown_by
  grown-first = refl

  grown-next : (n : ℕ) → grown (suc n) ≡ grow_by steps (grown n)
  unfolding grown_by
  grown-next n = refl

  begins-next : (n : ℕ) → Begins (grown n) (grown (suc n))
  begins-next n = subst (Begins (grown n)) (sym (grown-next n)) (begins-fold (grown n) (stepped (grown n)))

  record Stopped (n : ℕ) : Type 0 where
    pub k : ℕ
    pub low : k ≤ n
    pub same : grown (suc k) ≡ grown k

  one-round : (n : ℕ) (rest : List StateTree) → grown (suc n) ≡ grown n ++ rest → (grown (suc n) ≡ grown n) ⊎ (length (grown n) < length (grown (suc n)))
  one-round n [] is = inl (is ∙ append-nil (grown n))
  one-round n (s ∷ rest) is = inr (omega (arith, ap length is ∙ length-append (grown n) (s ∷ rest)))

  -- each round adds a tree, or some round has added none
  rounds : (n : ℕ) → (n < length (grown n)) ⊎ Stopped n
  rounds zero = inl (subst (λ l. 0 < length l) (sym grown-first) (omega arith))
  rounds (suc n) = by (rounds n) (one-round n (begins-next n).0 (begins-next n).1) where
    by : (n < length (grown n)) ⊎ Stopped n → (grown (suc n) ≡ grown n) ⊎ (length (grown n) < length (grown (suc n))) → (suc n < length (grown (suc n))) ⊎ Stopped (suc n)
    by (inl many) (inl same) = inr (record { k = n; low = omega arith; same = same })
    by (inl many) (inr longer) = inl (omega arith)
    by (inr stopped) next = inr (record { k = stopped.k; low = omega (arith, stopped.low); same = stopped.same })

  stays : (k more : ℕ) → grown (suc k) ≡ grown k → grown (suc (k + more)) ≡ grown (k + more)
  stays k zero same = let is : k ≡ k + zero = omega arith in subst (λ n. grown (suc n) ≡ grown n) is same
  stays k (suc more) same =
      let before = stays k more same in
      let next : grown (suc (suc (k + more))) ≡ grown (suc (k + more)) = grown-next (suc (k + more)) ∙ ap (grow_by steps) before ∙ sym (grown-next (k + more)) in
      let is : suc (k + more) ≡ k + suc more = omega arith in
      subst (λ n. grown (suc n) ≡ grown n) is next

  closed : (limit : ℕ) → length (grown limit) ≤ limit → grown (suc limit) ≡ grown limit
  closed limit few = by (rounds limit) where
    by : (limit < length (grown limit)) ⊎ Stopped limit → grown (suc limit) ≡ grown limit
    by (inl many) = absurd (omega arith)
    by (inr stopped) =
        let is : stopped.k + (limit - stopped.k) ≡ limit = omega (arith, stopped.low) in
        subst (λ n. grown (suc n) ≡ grown n) is (stays stopped.k (limit - stopped.k) stopped.same)

  knows-first : (n : ℕ) → Knows (grown n) first
  knows-first zero = subst (λ l. Knows l first) (sym grown-first) (knows-here first [])
  knows-first (suc n) = knows-more (grown n) (grown (suc n)) first (begins-next n) (knows-first n)

  -- what a step gives of a known tree is known
  knows-next : (limit : ℕ) → length (grown limit) ≤ limit → (next : StateTree) → Knows (stepped (grown limit)) next → Knows (grown limit) next
  knows-next limit few next h =
      subst (λ l. Knows l next) (sym (grown-next limit) ∙ closed limit few) (knows-fold (grown limit) (stepped (grown limit)) next h)

-- ---- the steps of symbols

any-flat : {A B : Type 0} (p : B → Bool) (f : A → List B) (q : A → Bool) → ((x : A) → q x ≡ true → list_any p (f x) ≡ true) → (xs : List A) → list_any q xs ≡ true → list_any p (flat_map f xs) ≡ true
any-flat p f q each [] h = absurd (false≢true h)
any-flat p f q each (x ∷ xs) h = by (or_cases (q x) (list_any q xs) h) (any-flat p f q each xs) where
  by : (q x ≡ true) ⊎ (list_any q xs ≡ true) → (list_any q xs ≡ true → list_any p (flat_map f xs) ≡ true) → list_any p (flat_map f (x ∷ xs)) ≡ true
  by (inl here) rest = list_any-append p (f x) (flat_map f xs) ∙ or_left (list_any p (f x)) (list_any p (flat_map f xs)) (each x here)
  by (inr later) rest = list_any-append p (f x) (flat_map f xs) ∙ or_right (list_any p (f x)) (list_any p (flat_map f xs)) (rest later)

module _ (e of : EventExpr) where
  abbrev step_at : ℕ → StateTree → StateTree
  step_at u s = next_tree e (symbol_mark of u) s

  abbrev all_steps : List (StateTree → StateTree)
  all_steps = map (next_tree e) (symbol_marks of)

  abbrev steps_in : ℕ → ℕ → StateTree → List StateTree
  steps_in a n s = map (λ step. step s) (map (next_tree e) (map (symbol_mark of) (range_with_len a n)))

  any-step : (s : StateTree) (n a u : ℕ) → a ≤ u → u < a + n → Knows (steps_in a n s) (step_at u s)
  any-step s zero a u low high = absurd (omega arith)
  any-step s (suc n) a u low high = by (cases_lt a u) (λ less. any-step s n (a + 1) u (omega arith) (omega arith)) where
    by : (a < u) ⊎ (u ≤ a) → (a < u → Knows (steps_in (a + 1) n s) (step_at u s)) → Knows (steps_in a (suc n) s) (step_at u s)
    by (inl less) rest = or_right (same_tree (step_at u s) (step_at a s)) (list_any (same_tree (step_at u s)) (steps_in (a + 1) n s)) (rest less)
    by (inr above) rest =
        let here : u ≡ a = omega arith in
        or_left (same_tree (step_at u s) (step_at a s)) (list_any (same_tree (step_at u s)) (steps_in (a + 1) n s))
        (subst (λ k. same_tree (step_at u s) (step_at k s) ≡ true) here (same_tree-itself (step_at u s)))

  -- all trees, where there aren't too many
  abbrev pub trees : List StateTree
  trees = grown_by all_steps (first_tree e) state_limit

  pub few-trees : count_over e (symbol_marks of) ≤ state_limit → length trees ≤ state_limit
  unfolding count_by_steps
  few-trees h = h

  pub first-known : Knows trees (first_tree e)
  first-known = knows-first all_steps (first_tree e) state_limit

  pub step-known : length trees ≤ state_limit → (u : ℕ) → u < symbol_count of → (s : StateTree) → Knows trees s → Knows trees (step_at u s)
  step-known few u low s h =
      knows-next all_steps (first_tree e) state_limit few (step_at u s)
      (any-flat (same_tree (step_at u s)) (λ t. map (λ step. step t) all_steps) (same_tree s)
      (λ t same. subst (λ x. Knows (map (λ step. step t) all_steps) (step_at u x)) (sym (same_tree-equal s t same)) (any-step t (symbol_count of) 0 u (omega arith) (omega arith))) trees h)
