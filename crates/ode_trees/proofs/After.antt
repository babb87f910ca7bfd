-- The tree after the first n points of a history, and after all of them.
use Rattle.std.proofs.Common.{◌≡◌, ℕ, zero, suc, ◌≤◌, List, [], ◌∷◌, ◌++◌, length, take, get_or, refl, ap, sym, ◌∙◌, arith, add-one}
use Rattle.std.specs.Prelude.{fold}
use Rattle.std.proofs.lemmas.List.{take_all, take_more}
use Rattle.std.proofs.lemmas.List.Sums.{fold-append}
use Rattle.ode_value.specs.declared.event.EventExpr.{EventExpr}
use Rattle.ode_value.specs.declared.tree.StateTree.{StateTree}
use Rattle.ode_value.specs.Marks.{Mark, no_mark}
use Rattle.ode_value.specs.Trees.{TreeMachine, machine, first_tree, tree_after}

abbrev pub after : TreeMachine → List Mark → ℕ → StateTree
after machine m zero = machine.first
after machine m (suc n) = machine.next (get_or m n no_mark) (after machine m n)

abbrev pub by_mark : TreeMachine → StateTree → Mark → StateTree
by_mark machine s m = machine.next m s

after-fold : (machine : TreeMachine) (m : List Mark) (n : ℕ) → n ≤ length m → after machine m n ≡ fold (by_mark machine) machine.first (take n m)
after-fold machine m zero h = refl
after-fold machine m (suc n) h =
    let before = after-fold machine m n (omega arith) in
    let more : take (suc n) m ≡ take n m ++ get_or m n no_mark ∷ [] = ap (λ k. take k m) (sym (add-one n)) ∙ take_more m n no_mark (omega arith) in
    ap (machine.next (get_or m n no_mark)) before
    ∙ sym (fold-append (by_mark machine) machine.first (take n m) (get_or m n no_mark ∷ []))
    ∙ ap (fold (by_mark machine) machine.first) (sym more)

pub tree_after-after : (e : EventExpr) (m : List Mark) → tree_after e m ≡ after (machine e) m (length m)
tree_after-after e m = sym (after-fold (machine e) m (length m) (omega arith) ∙ ap (fold (by_mark (machine e)) (first_tree e)) (take_all (length m) m (omega arith)))
