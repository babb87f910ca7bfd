-- How trees of each form compare.
use Rattle.std.proofs.Common.{◌≡◌, ℕ, ◌<◌, ◌≤◌, Bool, List, [], ◌∷◌, length, drop, refl, ap, sym, ◌∙◌, arith, length-drop}
use Rattle.std.proofs.lemmas.List.{drop_all}
use Rattle.std.specs.declared.cmp.Ordering.TheVariants.{Less}
use Rattle.std.specs.Prelude.{map}
use Rattle.std.specs.declared.cmp.Ordering.{Ordering}
use Rattle.std.specs.Ordering.{nat_cmp, bool_cmp, ordering_then}
use Rattle.ode_value.specs.declared.tree.StateTree.{StateTree, out-StateTree, fold_out-StateTree, map-StateTree, the_lemmas}
use Rattle.ode_value.specs.declared.tree.StateTree.TheVariants as tree
use Rattle.ode_value.specs.declared.tree.StateTree.TheOpen as o
use Rattle.ode_value.specs.TreeOrder.{list_cmp, tree_cmp_of, tree_cmp, pair_cmp}

-- by the levels of both
pub opened : (s t : StateTree) → tree_cmp s t ≡ tree_cmp_of (map-StateTree StateTree (StateTree → Ordering) tree_cmp (out-StateTree s)) (out-StateTree t)
unfolding tree_cmp
opened s t = ap (λ f. f t) (fold_out-StateTree (StateTree → Ordering) (λ d u. tree_cmp_of d (out-StateTree u)) s)

at_levels : (s t : StateTree) (d u : o.StateTree-F StateTree) → out-StateTree s ≡ d → out-StateTree t ≡ u → tree_cmp s t ≡ tree_cmp_of (map-StateTree StateTree (StateTree → Ordering) tree_cmp d) u
at_levels s t d u p q = opened s t ∙ ap (λ x. tree_cmp_of (map-StateTree StateTree (StateTree → Ordering) tree_cmp x) (out-StateTree t)) p ∙ ap (tree_cmp_of (map-StateTree StateTree (StateTree → Ordering) tree_cmp d)) q

list-by_folds : (xs ys : List StateTree) → list_cmp (λ (x : (StateTree → Ordering)) (y : StateTree). x y) (map tree_cmp xs) ys ≡ list_cmp tree_cmp xs ys
list-by_folds [] [] = refl
list-by_folds [] (y ∷ ys) = refl
list-by_folds (x ∷ xs) [] = refl
list-by_folds (x ∷ xs) (y ∷ ys) = ap (ordering_then (tree_cmp x y)) (list-by_folds xs ys)

paired : (xs ys : List (StateTree × StateTree)) → list_cmp (λ (x : (StateTree → Ordering) × (StateTree → Ordering)) (y : StateTree × StateTree). ordering_then (x.0 y.0) (x.1 y.1)) (map (λ x. (tree_cmp x.0, tree_cmp x.1)) xs) ys ≡ list_cmp pair_cmp xs ys
paired [] [] = refl
paired [] (y ∷ ys) = refl
paired (x ∷ xs) [] = refl
paired (x ∷ xs) (y ∷ ys) = ap (ordering_then (pair_cmp x y)) (paired xs ys)

pub bit-bit : (b c : Bool) → tree_cmp (tree.Bit b) (tree.Bit c) ≡ bool_cmp b c
bit-bit b c = at_levels _ _ _ _ (tree.outs-Bit b) (tree.outs-Bit c)

pub place-place : (b c : ℕ) → tree_cmp (tree.Place b) (tree.Place c) ≡ nat_cmp b c
place-place b c = at_levels _ _ _ _ (tree.outs-Place b) (tree.outs-Place c)

pub seen-seen : (b c : Bool) (e f : StateTree) → tree_cmp (tree.Seen b e) (tree.Seen c f) ≡ ordering_then (bool_cmp b c) (tree_cmp e f)
seen-seen b c e f = at_levels _ _ _ _ (tree.outs-Seen b e) (tree.outs-Seen c f)

pub both-both : (e f g h : StateTree) → tree_cmp (tree.Both e f) (tree.Both g h) ≡ ordering_then (tree_cmp e g) (tree_cmp f h)
both-both e f g h = at_levels _ _ _ _ (tree.outs-Both e f) (tree.outs-Both g h)

pub flag-flag : (e f g h : StateTree) (b c : Bool) → tree_cmp (tree.Flag e f b) (tree.Flag g h c) ≡ ordering_then (tree_cmp e g) (ordering_then (tree_cmp f h) (bool_cmp b c))
flag-flag e f g h b c = at_levels _ _ _ _ (tree.outs-Flag e f b) (tree.outs-Flag g h c)

pub count-count : (e f : StateTree) (b c : ℕ) → tree_cmp (tree.Count e b) (tree.Count f c) ≡ ordering_then (tree_cmp e f) (nat_cmp b c)
count-count e f b c = at_levels _ _ _ _ (tree.outs-Count e b) (tree.outs-Count f c)

pub started-started : (e f : StateTree) (s t : List StateTree) → tree_cmp (tree.Started e s) (tree.Started f t) ≡ ordering_then (tree_cmp e f) (list_cmp tree_cmp s t)
started-started e f s t = at_levels _ _ _ _ (tree.outs-Started e s) (tree.outs-Started f t) ∙ ap (ordering_then (tree_cmp e f)) (list-by_folds s t)

pub pairs-pairs : (e f : StateTree) (s t : List (StateTree × StateTree)) → tree_cmp (tree.Pairs e s) (tree.Pairs f t) ≡ ordering_then (tree_cmp e f) (list_cmp pair_cmp s t)
pairs-pairs e f s t = at_levels _ _ _ _ (tree.outs-Pairs e s) (tree.outs-Pairs f t) ∙ ap (ordering_then (tree_cmp e f)) (paired s t)

pub chained-chained : (s t : List StateTree) → tree_cmp (tree.Chained s) (tree.Chained t) ≡ list_cmp tree_cmp s t
chained-chained s t = at_levels _ _ _ _ (tree.outs-Chained s) (tree.outs-Chained t) ∙ list-by_folds s t

pub waiting-waiting : (e f g h : StateTree) (s t : List StateTree) → tree_cmp (tree.Waiting e f s) (tree.Waiting g h t) ≡ ordering_then (tree_cmp e g) (ordering_then (tree_cmp f h) (list_cmp tree_cmp s t))
waiting-waiting e f g h s t = at_levels _ _ _ _ (tree.outs-Waiting e f s) (tree.outs-Waiting g h t) ∙ ap (λ o. ordering_then (tree_cmp e g) (ordering_then (tree_cmp f h) o)) (list-by_folds s t)

pub masked-masked : (e f : StateTree) (b c : Bool) → tree_cmp (tree.Masked e b) (tree.Masked f c) ≡ ordering_then (tree_cmp e f) (bool_cmp b c)
masked-masked e f b c = at_levels _ _ _ _ (tree.outs-Masked e b) (tree.outs-Masked f c)

pub ruleset orders = (the_lemmas, opened, bit-bit, place-place, seen-seen, both-both, flag-flag, count-count, started-started, pairs-pairs, chained-chained, waiting-waiting, masked-masked)

empty_less : {A B : Type 0} (cmp : A → B → Ordering) (ys : List B) → 0 < length ys → Less ≡ list_cmp cmp [] ys
empty_less cmp [] h = absurd (omega arith)
empty_less cmp (y ∷ ys) h = refl

-- at the end of the shorter list
pub shorter : {A B : Type 0} (cmp : A → B → Ordering) (xs : List A) (ys : List B) (i : ℕ) → length xs ≤ i → i < length ys → Less ≡ list_cmp cmp (drop i xs) (drop i ys)
shorter cmp xs ys i over within =
    let left : 0 < length (drop i ys) = omega (arith, length-drop i ys) in
    empty_less cmp (drop i ys) left ∙ ap (λ l. list_cmp cmp l (drop i ys)) (sym (drop_all i xs over))
