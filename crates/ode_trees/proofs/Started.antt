-- The machine of `relative`, which keeps a tree for each point of its first part.
use Rattle.std.proofs.Common.{◌≡◌, ℕ, zero, suc, ◌+◌, ◌-◌, ◌<◌, ◌≤◌, Bool, true, false, List, [], length, map, drop, refl, ap, sym, ◌∙◌, arith, get_or, length-drop}
use Rattle.std.specs.Prelude.{◌&&◌, ◌||◌}
use Rattle.std.specs.List.{list_any}
use Rattle.std.proofs.lemmas.List.{get_or-drop}
use Rattle.std.proofs.Math.Bool.{and-false, or-false, or_comm}
use Rattle.ode_value.specs.declared.event.EventExpr.TheOpen as o
use Rattle.ode_value.specs.declared.tree.StateTree.{StateTree}
use Rattle.ode_value.specs.declared.tree.StateTree.TheVariants as tree
use Rattle.ode_value.specs.Marks.{Mark, no_mark}
use Rattle.ode_value.specs.Points.{Points, some_below, points_of}
use Rattle.ode_value.specs.TreeOrder.{tree_cmp, joined}
use Rattle.ode_value.specs.Trees.{TreeMachine, machine_of, next_started, with_first}
use Rattle.ode_value.proofs.Below.{some_below-same}
use Rattle.ode_trees.proofs.After.{after}
use Rattle.ode_trees.proofs.PartLaws.{left-Started, started-Started}
use Rattle.ode_trees.proofs.EqualTrees.{tree-equal, any-joined, any-all_joined, any-map}
use Rattle.ode_trees.proofs.Steps.{Runs}

-- a run over a part of the history goes on as the run over the whole does
pub shift : (f : TreeMachine) (m : List Mark) (p n : ℕ) → p < n → after f (drop (suc p) m) (suc n - suc p) ≡ f.next (get_or m n no_mark) (after f (drop (suc p) m) (n - suc p))
shift f m p n h =
    let one_more : suc n - suc p ≡ suc (n - suc p) = omega arith in
    let place : suc p + (n - suc p) ≡ n = omega arith in
    ap (after f (drop (suc p) m)) one_more
    ∙ ap (λ l. f.next l (after f (drop (suc p) m) (n - suc p))) (get_or-drop (suc p) m (n - suc p) no_mark ∙ ap (λ k. get_or m k no_mark) place)

pub begun : (f : TreeMachine) (m : List Mark) (n : ℕ) → after f m (suc n - suc n) ≡ f.first
begun f m n = let none : suc n - suc n ≡ 0 = omega arith in ap (after f m) none

pub any-started : (b : Bool) (q : StateTree → Bool) (s : StateTree) (set : List StateTree) → list_any q (with_first b (joined tree_cmp s) set) ≡ (list_any q set || (b && q s))
any-started true q s set = any-joined tree_cmp tree-equal q s set ∙ or_comm (q s) (list_any q set)
any-started false q s set = sym (or-false (list_any q set))

module _ (m : List Mark) where
  -- the trees of f for the points of e among the first n
  set_of : TreeMachine → TreeMachine → ℕ → List StateTree
  set_of e f zero = []
  set_of e f (suc n) = with_first (e.answer (after e m (suc n))) (joined tree_cmp f.first) (next_started f (get_or m n no_mark) (set_of e f n))

  relative_after : (e f : TreeMachine) (n : ℕ) → after (machine_of (o.Relative e f)) m n ≡ tree.Started (after e m n) (set_of e f n)
  unfolding set_of
  relative_after e f zero = refl
  relative_after e f (suc n) = rw (relative_after e f n, left-Started, started-Started) refl

  -- a test passes on one of them where some point's tree passes it
  any-set : (e f : TreeMachine) (p : Points) → Runs e p m → (n : ℕ) → n ≤ length m → (q : StateTree → Bool) → list_any q (set_of e f n) ≡ some_below (λ k. p m k && q (after f (drop (suc k) m) (n - suc k))) n
  unfolding set_of
  any-set e f p r zero h q = refl
  any-set e f p r (suc n) h q =
      let next = f.next (get_or m n no_mark) in
      let old = next_started f (get_or m n no_mark) (set_of e f n) in
      any-started (e.answer (after e m (suc n))) q f.first old
      ∙ ap (λ b. list_any q old || (b && q f.first)) (r.each n (omega arith))
      ∙ ap (λ b. b || (p m n && q f.first)) (any-all_joined tree_cmp tree-equal q [] (map next (set_of e f n)) ∙ any-map q next (set_of e f n) ∙ any-set e f p r n (omega arith) (λ s. q (next s)))
      ∙ ap (λ b. b || (p m n && q f.first)) (some_below-same _ _ n (λ k k_below. ap (λ s. p m k && q s) (sym (shift f m k n k_below))))
      ∙ ap (λ s. some_below (λ k. p m k && q (after f (drop (suc k) m) (suc n - suc k))) n || (p m n && q s)) (sym (begun f (drop (suc n) m) n))

  pub runs_relative : (e f : TreeMachine) (p q : Points) → Runs e p m → ((k : ℕ) → Runs f q (drop k m)) → Runs (machine_of (o.Relative e f)) (points_of (o.Relative p q)) m
  runs_relative e f p q r s = record {
    none = rw started-Started refl;
    each = λ n h. rw (relative_after e f (suc n), started-Started) (any-set e f p r (suc n) (omega arith) f.answer ∙ here n h);
  } where
    at_last : (n : ℕ) → (p m n && f.answer (after f (drop (suc n) m) (suc n - suc n))) ≡ false
    at_last n = ap (λ t. p m n && f.answer t) (begun f (drop (suc n) m) n) ∙ ap (λ b. p m n && b) (s (suc n)).none ∙ and-false (p m n)

    at_each : (n k : ℕ) → n < length m → k < n → f.answer (after f (drop (suc k) m) (suc n - suc k)) ≡ q (drop (suc k) m) (n - suc k)
    at_each n k h below =
        let one_more : suc n - suc k ≡ suc (n - suc k) = omega arith in
        let within : n - suc k < length (drop (suc k) m) = omega (arith, length-drop (suc k) m) in
        ap (λ j. f.answer (after f (drop (suc k) m) j)) one_more ∙ (s (suc k)).each (n - suc k) within

    here : (n : ℕ) → n < length m → some_below (λ k. p m k && f.answer (after f (drop (suc k) m) (suc n - suc k))) (suc n) ≡ points_of (o.Relative p q) m n
    here n h =
        ap (λ b. some_below (λ k. p m k && f.answer (after f (drop (suc k) m) (suc n - suc k))) n || b) (at_last n)
        ∙ or-false (some_below (λ k. p m k && f.answer (after f (drop (suc k) m) (suc n - suc k))) n)
        ∙ some_below-same _ _ n (λ k below. ap (λ b. p m k && b) (at_each n k h below))
