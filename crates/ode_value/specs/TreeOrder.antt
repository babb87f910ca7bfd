-- The order of the trees of one expression, and sets of them as lists in rising order.
use Rattle.std.specs.Prelude.{List, [], ◌∷◌, Bool}
use Rattle.std.specs.declared.cmp.Ordering.{Ordering}
use Rattle.std.specs.declared.cmp.Ordering.TheVariants.{Less, Equal, Greater}
use Rattle.std.specs.Ordering.{nat_cmp, bool_cmp, ordering_then, is_eq}
use Rattle.ode_value.specs.declared.tree.StateTree.{StateTree, out-StateTree, fold-StateTree}
use Rattle.ode_value.specs.declared.tree.StateTree.TheOpen as tree

-- lists at their first difference, a prefix before the longer list
abbrev pub list_cmp : {A B : Type 0} → (A → B → Ordering) → List A → List B → Ordering
list_cmp cmp [] [] = Equal
list_cmp cmp [] (y ∷ ys) = Less
list_cmp cmp (x ∷ xs) [] = Greater
list_cmp cmp (x ∷ xs) (y ∷ ys) = ordering_then (cmp x y) (list_cmp cmp xs ys)

-- part by part, by one level of each; trees of one expression have one form
abbrev pub tree_cmp_of : tree.StateTree-F (StateTree → Ordering) → tree.StateTree-F StateTree → Ordering
tree_cmp_of (tree.Bit b) (tree.Bit c) = bool_cmp b c
tree_cmp_of (tree.Place m) (tree.Place n) = nat_cmp m n
tree_cmp_of (tree.Seen b e) (tree.Seen c f) = ordering_then (bool_cmp b c) (e f)
tree_cmp_of (tree.Both e f) (tree.Both g h) = ordering_then (e g) (f h)
tree_cmp_of (tree.Flag e f b) (tree.Flag g h c) = ordering_then (e g) (ordering_then (f h) (bool_cmp b c))
tree_cmp_of (tree.Count e m) (tree.Count f n) = ordering_then (e f) (nat_cmp m n)
tree_cmp_of (tree.Started e s) (tree.Started f t) = ordering_then (e f) (list_cmp (λ x y. x y) s t)
tree_cmp_of (tree.Pairs e s) (tree.Pairs f t) = ordering_then (e f) (list_cmp (λ x y. ordering_then (x.0 y.0) (x.1 y.1)) s t)
tree_cmp_of (tree.Chained s) (tree.Chained t) = list_cmp (λ x y. x y) s t
tree_cmp_of (tree.Waiting e f s) (tree.Waiting g h t) = ordering_then (e g) (ordering_then (f h) (list_cmp (λ x y. x y) s t))
tree_cmp_of (tree.Masked e b) (tree.Masked f c) = ordering_then (e f) (bool_cmp b c)
tree_cmp_of _ _ = Less

unfoldable pub tree_cmp : StateTree → StateTree → Ordering
tree_cmp = fold-StateTree (StateTree → Ordering) (λ s t. tree_cmp_of s (out-StateTree t))

abbrev pub pair_cmp : StateTree × StateTree → StateTree × StateTree → Ordering
pair_cmp x y = ordering_then (tree_cmp x.0 y.0) (tree_cmp x.1 y.1)

abbrev pub same_tree : StateTree → StateTree → Bool
same_tree s t = is_eq (tree_cmp s t)

-- a set with one more member, in its place
abbrev pub placed : {A : Type 0} → Ordering → A → A → List A → List A → List A
placed Less x y ys rest = x ∷ y ∷ ys
placed Equal x y ys rest = y ∷ ys
placed Greater x y ys rest = y ∷ rest

abbrev pub joined : {A : Type 0} → (A → A → Ordering) → A → List A → List A
joined cmp x [] = x ∷ []
joined cmp x (y ∷ ys) = placed (cmp x y) x y ys (joined cmp x ys)

-- a set with each of these
abbrev pub all_joined : {A : Type 0} → (A → A → Ordering) → List A → List A → List A
all_joined cmp set [] = set
all_joined cmp set (x ∷ xs) = all_joined cmp (joined cmp x set) xs
