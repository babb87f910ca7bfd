-- The machine of `pipe`, whose second part sees the points of the first part alone.
use Rattle.std.proofs.Common.{◌≡◌, ℕ, zero, suc, ◌+◌, ◌<◌, ◌≤◌, Bool, true, false, List, [], ◌∷◌, length, refl, ap, sym, ◌∙◌, subst, arith, get_or, add-one}
use Rattle.std.specs.Prelude.{◌&&◌, cond, if◌then◌else◌}
use Rattle.ode_value.specs.declared.event.EventExpr.TheOpen as o
use Rattle.ode_value.specs.declared.tree.StateTree.{StateTree}
use Rattle.ode_value.specs.declared.tree.StateTree.TheVariants as tree
use Rattle.ode_value.specs.Marks.{Mark, no_mark}
use Rattle.ode_value.specs.Points.{Points, count_below, picked, piped, points_of}
use Rattle.ode_value.specs.Trees.{TreeMachine, machine_of, bit}
use Rattle.ode_trees.proofs.After.{after}
use Rattle.ode_trees.proofs.PartLaws.{left-Flag, right-Flag, bit-Flag}
use Rattle.ode_trees.proofs.Steps.{Runs}

-- ---- the picked members

either_order : (a b : Bool) (c : ℕ) → (if b then (if a then c + 1 else c) + 1 else (if a then c + 1 else c)) ≡ (if a then (if b then c + 1 else c) + 1 else (if b then c + 1 else c))
either_order true true c = refl
either_order true false c = refl
either_order false true c = refl
either_order false false c = refl

-- what passes below a bound, counted from the front
count_below-suc : (p : ℕ → Bool) (n : ℕ) → count_below p (suc n) ≡ (if p 0 then count_below (λ i. p (suc i)) n + 1 else count_below (λ i. p (suc i)) n)
count_below-suc p zero = refl
count_below-suc p (suc n) =
    ap (λ c. if p (suc n) then c + 1 else c) (count_below-suc p n) ∙ either_order (p 0) (p (suc n)) (count_below (λ i. p (suc i)) n)

-- a member that passes is picked behind as many as pass before it
picked-at : {A : Type 0} (p : ℕ → Bool) (xs : List A) (n : ℕ) (d : A) → n < length xs → p n ≡ true → get_or (picked p xs) (count_below p n) d ≡ get_or xs n d
picked-at p [] n d h is = absurd (omega arith)
picked-at p (x ∷ xs) zero d h is = ap (λ b. get_or (if b then x ∷ picked (λ i. p (suc i)) xs else picked (λ i. p (suc i)) xs) 0 d) is
picked-at {A} p (x ∷ xs) (suc n) d h is =
    ap (λ c. get_or (picked p (x ∷ xs)) c d) (count_below-suc p n) ∙ by_first (picked-at (λ i. p (suc i)) xs n d (omega arith) is) (p 0) where
      rest : List A
      rest = picked (λ i. p (suc i)) xs

      by_first : get_or rest (count_below (λ i. p (suc i)) n) d ≡ get_or xs n d → (b : Bool)
          → get_or (if b then x ∷ rest else rest) (if b then count_below (λ i. p (suc i)) n + 1 else count_below (λ i. p (suc i)) n) d ≡ get_or xs n d
      by_first same true = ap (λ c. get_or (x ∷ rest) c d) (add-one (count_below (λ i. p (suc i)) n)) ∙ same
      by_first same false = same

picked-within : {A : Type 0} (p : ℕ → Bool) (xs : List A) (n : ℕ) → n < length xs → p n ≡ true → count_below p n < length (picked p xs)
picked-within p [] n h is = absurd (omega arith)
picked-within p (x ∷ xs) zero h is =
    let some : 0 < length (x ∷ picked (λ i. p (suc i)) xs) = omega arith in
    subst (λ b. 0 < length (if b then x ∷ picked (λ i. p (suc i)) xs else picked (λ i. p (suc i)) xs)) (sym is) some
picked-within {A} p (x ∷ xs) (suc n) h is =
    subst (λ c. c < length (picked p (x ∷ xs))) (sym (count_below-suc p n)) (by_first (picked-within (λ i. p (suc i)) xs n (omega arith) is) (p 0)) where
      rest : List A
      rest = picked (λ i. p (suc i)) xs

      by_first : count_below (λ i. p (suc i)) n < length rest → (b : Bool)
          → (if b then count_below (λ i. p (suc i)) n + 1 else count_below (λ i. p (suc i)) n) < length (if b then x ∷ rest else rest)
      by_first within true = let more : count_below (λ i. p (suc i)) n + 1 < length (x ∷ rest) = omega (arith, within) in more
      by_first within false = within

-- ---- the machine

module _ (m : List Mark) (e f : TreeMachine) (p q : Points) where
  -- the history of the points of e alone
  abbrev word : List Mark
  word = picked (p m) m

  -- the tree of f after those among the first n points
  abbrev tree_of : ℕ → StateTree
  tree_of n = after f word (count_below (p m) n)

  -- whether the last of the first n points is in both
  abbrev in_both : ℕ → Bool
  in_both zero = false
  in_both (suc n) = piped p q m n

  pipe_next : (l : Mark) (a b : StateTree) (c : Bool) → (machine_of (o.Pipe e f)).next l (tree.Flag a b c) ≡ cond (e.answer (e.next l a)) (tree.Flag (e.next l a) (f.next l b) (f.answer (f.next l b))) (tree.Flag (e.next l a) b false)
  pipe_next l a b c = rw (left-Flag, right-Flag) refl

  -- the step at a point that is one of e, and at one that isn't
  by_point : Runs f q word → (n : ℕ) → n < length m → (x : StateTree) (t : Bool) → p m n ≡ t
      → cond t (tree.Flag x (f.next (get_or m n no_mark) (tree_of n)) (f.answer (f.next (get_or m n no_mark) (tree_of n)))) (tree.Flag x (tree_of n) false)
      ≡ tree.Flag x (after f word (if t then count_below (p m) n + 1 else count_below (p m) n)) (t && q word (count_below (p m) n))
  by_point s n h x true is =
      let c = count_below (p m) n in
      let next : f.next (get_or m n no_mark) (tree_of n) ≡ after f word (suc c) = ap (λ l. f.next l (tree_of n)) (sym (picked-at (p m) m n no_mark h is)) in
      let more : after f word (suc c) ≡ after f word (c + 1) = ap (after f word) (sym (add-one c)) in
      ap (λ y. tree.Flag x y (f.answer y)) next
      ∙ ap (tree.Flag x (after f word (suc c))) (s.each c (picked-within (p m) m n h is))
      ∙ ap (λ y. tree.Flag x y (q word c)) more
  by_point s n h x false is = refl

  pipe_after : Runs e p m → Runs f q word → (n : ℕ) → n ≤ length m → after (machine_of (o.Pipe e f)) m n ≡ tree.Flag (after e m n) (tree_of n) (in_both n)
  pipe_after r s zero h = refl
  pipe_after r s (suc n) h =
      let l = get_or m n no_mark in
      let x = after e m (suc n) in
      let y = f.next l (tree_of n) in
      ap ((machine_of (o.Pipe e f)).next l) (pipe_after r s n (omega arith))
      ∙ pipe_next l (after e m n) (tree_of n) (in_both n)
      ∙ ap (λ t. cond t (tree.Flag x y (f.answer y)) (tree.Flag x (tree_of n) false)) (r.each n (omega arith))
      ∙ by_point s n (omega arith) x (p m n) refl

  pub runs_pipe : Runs e p m → Runs f q word → Runs (machine_of (o.Pipe e f)) (points_of (o.Pipe p q)) m
  runs_pipe r s = record {
    none = bit-Flag e.first f.first false;
    each = λ n h. ap bit (pipe_after r s (suc n) (omega arith)) ∙ bit-Flag (after e m (suc n)) (tree_of (suc n)) (piped p q m n);
  }
