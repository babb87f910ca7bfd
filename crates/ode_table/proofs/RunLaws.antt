-- A table of trees leads by each word to the tree after it.
use Rattle.std.proofs.Common.{◌≡◌, ℕ, zero, suc, ◌+◌, ◌*◌, ◌<◌, ◌≤◌, false, List, [], ◌∷◌, length, map, take, get_or, refl, ap, sym, ◌∙◌, subst, arith, length-append, Some}
use Rattle.std.specs.Prelude.{fold, flat_map, slice_index, All}
use Rattle.std.specs.List.{slice_get}
use Rattle.std.proofs.Math.Nat.{mul-le-mul_right}
use Rattle.std.proofs.lemmas.List.{length-map, length-take-le, get_or-map}
use Rattle.std.proofs.lemmas.List.Elements.{All-tail}
use Rattle.std.proofs.lemmas.List.Concat.{get_or-flat_map}
use Rattle.std.proofs.lemmas.List.FromFn.{get_or-map-range_with_len, length-map-range_with_len}
use Rattle.std.proofs.lemmas.Option.{slice_get_within, get_or_from_slice_get}
use Rattle.ode_value.specs.declared.event.EventExpr.{EventExpr}
use Rattle.ode_value.specs.declared.tree.StateTree.{StateTree}
use Rattle.ode_value.specs.Marks.{Mark, no_mark}
use Rattle.ode_value.specs.Symbols.{symbol_mark, symbol_count}
use Rattle.ode_value.specs.Tables.{run, word_marks}
use Rattle.ode_value.specs.TreeCount.{symbol_marks}
use Rattle.ode_value.specs.Trees.{machine, answers, first_tree, next_tree}
use Rattle.ode_trees.specs.declared.growth.Reached.{Reached}
use Rattle.ode_trees.specs.Found.{Leads, steps_by, IsReached}
use Rattle.ode_trees.proofs.After.{by_mark}
use Rattle.ode_trees.proofs.TreeAnswers.{answers-fires}
use Rattle.ode_table.specs.Built.{table_by, IsBuilt}
use Rattle.ode_table.specs.Whole.{IsWhole}

same_head : {A : Type 0} (x y : A) (xs ys : List A) → x ∷ xs ≡ y ∷ ys → x ≡ y
same_head x y xs ys h = cc

same_tail : {A : Type 0} (x y : A) (xs ys : List A) → x ∷ xs ≡ y ∷ ys → xs ≡ ys
same_tail x y xs ys h = cc

-- the number at a place stands for the tree at that place
leads-at : (trees : List StateTree) (next : List ℕ) (steps : List StateTree) (i : ℕ) (d : StateTree) → Leads trees next steps → i < length steps → slice_get trees (slice_index next i) ≡ Some (get_or steps i d)
leads-at trees next [] i d h within = absurd (omega arith)
leads-at trees [] (s ∷ steps) i d h within = cc
leads-at trees (n ∷ next) (s ∷ steps) zero d h within = same_head (slice_get trees n) (Some s) (map (slice_get trees) next) (map Some steps) h
leads-at trees (n ∷ next) (s ∷ steps) (suc i) d h within =
    leads-at trees next steps i d (same_tail (slice_get trees n) (Some s) (map (slice_get trees) next) (map Some steps) h) (omega arith)

leads-length : (trees : List StateTree) (next : List ℕ) (steps : List StateTree) → Leads trees next steps → length next ≡ length steps
leads-length trees next steps h = sym (length-map next (slice_get trees)) ∙ ap length h ∙ length-map steps Some

module _ (e : EventExpr) (ms : List Mark) where
  steps-length : (trees : List StateTree) → length (flat_map (steps_by e ms) trees) ≡ length trees * length ms
  steps-length [] = omega arith
  steps-length (s ∷ trees) =
      let here : length (steps_by e ms s) ≡ length ms = length-map ms (λ m. next_tree e m s) in
      let rest = steps-length trees in
      let all = length-append (steps_by e ms s) (flat_map (steps_by e ms) trees) in
      let product : suc (length trees) * length ms ≡ length ms + length trees * length ms = omega arith in
      all ∙ (λ i. here i + rest i) ∙ sym product

  -- a step of a tree that is there is there, under its number
  step-at : (r : Reached) → IsReached e ms r → (q s : ℕ) (x : StateTree) → slice_get r.trees q ≡ Some x → s < length ms
      → slice_get r.trees (slice_index r.next (q * length ms + s)) ≡ Some (next_tree e (get_or ms s no_mark) x)
  step-at r h q s x there within =
      let inside : q < length r.trees = slice_get_within r.trees q x there in
      let before : length (take q r.trees) ≡ q = length-take-le q r.trees (omega arith) in
      let passed : length (flat_map (steps_by e ms) (take q r.trees)) ≡ q * length ms = steps-length (take q r.trees) ∙ ap (λ n. n * length ms) before in
      let here : get_or r.trees q x ≡ x = get_or_from_slice_get r.trees q x x there in
      let row : s < length (steps_by e ms (get_or r.trees q x)) = subst (λ n. s < n) (sym (length-map ms (λ m. next_tree e m (get_or r.trees q x)))) within in
      let at : get_or (flat_map (steps_by e ms) r.trees) (q * length ms + s) x ≡ next_tree e (get_or ms s no_mark) x =
      ap (λ n. get_or (flat_map (steps_by e ms) r.trees) (n + s) x) (sym passed)
      ∙ get_or-flat_map (steps_by e ms) r.trees q s x x inside row
      ∙ ap (λ y. get_or (steps_by e ms y) s x) here
      ∙ get_or-map (λ m. next_tree e m x) ms s no_mark x within in
      let product : (q + 1) * length ms ≤ length r.trees * length ms = mul-le-mul_right (length ms) (omega arith) in
      let sum : (q + 1) * length ms ≡ q * length ms + length ms = omega arith in
      let place : q * length ms + s < length (flat_map (steps_by e ms) r.trees) = omega (arith, product, sum, steps-length r.trees) in
      leads-at r.trees r.next (flat_map (steps_by e ms) r.trees) (q * length ms + s) x h.next place ∙ ap Some at

  -- the parts of the table fit each other
  pub whole : (r : Reached) (k : ℕ) → k ≡ length ms → IsReached e ms r → IsWhole (table_by e k r)
  whole r k p h = record {
    some = slice_get_within r.trees 0 (first_tree e) h.first;
    rows = leads-length r.trees r.next (flat_map (steps_by e ms) r.trees) h.next ∙ steps-length r.trees ∙ ap (λ n. length r.trees * n) (sym p);
    answers = length-map r.trees (answers e);
    numbers = λ i within.
        let long : length r.next ≡ length (flat_map (steps_by e ms) r.trees) = leads-length r.trees r.next (flat_map (steps_by e ms) r.trees) h.next in
        slice_get_within r.trees (slice_index r.next i) (get_or (flat_map (steps_by e ms) r.trees) i (first_tree e))
        (leads-at r.trees r.next (flat_map (steps_by e ms) r.trees) i (first_tree e) h.next (omega arith));
  }

  abbrev by_symbol : StateTree → ℕ → StateTree
  by_symbol x s = next_tree e (get_or ms s no_mark) x

  -- a word leads to the number of the tree after it
  run-at : (r : Reached) (k : ℕ) → k ≡ length ms → IsReached e ms r → (word : List ℕ) (q : ℕ) (x : StateTree) → slice_get r.trees q ≡ Some x → All (λ s. s < k) word
      → slice_get r.trees (run (table_by e k r) q word) ≡ Some (fold by_symbol x word)
  run-at r k p h [] q x there all = there
  run-at r k p h (s ∷ word) q x there all =
      let within : s < k = all 0 0 (omega arith) in
      let next : slice_get r.trees (slice_index r.next (q * k + s)) ≡ Some (next_tree e (get_or ms s no_mark) x) =
      ap (λ n. slice_get r.trees (slice_index r.next (q * n + s))) p ∙ step-at r h q s x there (subst (λ n. s < n) p within) in
      run-at r k p h word (slice_index r.next (q * k + s)) (by_symbol x s) next (All-tail (λ n. n < k) s word all)

yes-at : (e : EventExpr) (trees : List StateTree) (q : ℕ) (x : StateTree) → slice_get trees q ≡ Some x → get_or (map (answers e) trees) q false ≡ answers e x
yes-at e trees q x there =
    get_or-map (answers e) trees q x false (slice_get_within trees q x there) ∙ ap (answers e) (get_or_from_slice_get trees q x x there)

-- ---- words

module _ (e of : EventExpr) where
  mark-of : (s : ℕ) → s < symbol_count of → get_or (symbol_marks of) s no_mark ≡ symbol_mark of s
  mark-of s within = get_or-map-range_with_len (symbol_mark of) 0 (symbol_count of) s s no_mark within (omega arith)

  fold-word : (word : List ℕ) (x : StateTree) → All (λ s. s < symbol_count of) word → fold (by_symbol e (symbol_marks of)) x word ≡ fold (by_mark (machine e)) x (word_marks of word)
  fold-word [] x all = refl
  fold-word (s ∷ word) x all =
      ap (λ m. fold (by_symbol e (symbol_marks of)) (next_tree e m x) word) (mark-of s (all 0 0 (omega arith)))
      ∙ fold-word word (next_tree e (symbol_mark of s) x) (All-tail (λ n. n < symbol_count of) s word all)

  pub marks-length : symbol_count of ≡ length (symbol_marks of)
  marks-length = sym (length-map-range_with_len (symbol_mark of) 0 (symbol_count of))

  pub built : (r : Reached) (k : ℕ) → k ≡ symbol_count of → IsReached e (symbol_marks of) r → IsBuilt e of (table_by e k r)
  built r k p h = record {
    symbols = p;
    states = h.count;
    answers = λ word w.
        let there = run-at e (symbol_marks of) r k (p ∙ marks-length) h word 0 (first_tree e) h.first w.each in
        yes-at e r.trees (run (table_by e k r) 0 word) (fold (by_symbol e (symbol_marks of)) (first_tree e) word) there
        ∙ ap (answers e) (fold-word word (first_tree e) (subst (λ n. All (λ s. s < n) word) p w.each))
        ∙ answers-fires e (word_marks of word);
  }
