-- Trees that compare as equal are equal, and what is in a set with one more member.
use Rattle.std.proofs.Common.{◌≡◌, ℕ, Bool, true, false, List, [], ◌∷◌, refl, ap, sym, ◌∙◌, subst}
use Rattle.std.specs.Prelude.{◌||◌, ◌&&◌, cond, filter, map}
use Rattle.std.specs.List.{list_any}
use Rattle.std.specs.declared.cmp.Ordering.{Ordering}
use Rattle.std.specs.declared.cmp.Ordering.TheVariants.{Less, Equal, Greater}
use Rattle.std.specs.Ordering.{nat_cmp, bool_cmp, ordering_then, is_eq}
use Rattle.std.specs.Cmp.{nat_cmp_is}
use Rattle.std.specs.FinMap.{nat_cmp-IsAntisymmetric}
use Rattle.std.proofs.Math.Bool.{or-false, or_self_left}
use Rattle.ode_value.specs.declared.tree.StateTree.{StateTree, out-StateTree, roll-StateTree, roll-out-StateTree, out-roll-StateTree, fold-roll-StateTree, map-StateTree, ind-StateTree}
use Rattle.ode_value.specs.declared.tree.StateTree.TheOpen.{StateTree-F, Bit, Place, Seen, Both, Flag, Count, Started, Pairs, Chained, Waiting, Masked}
use Rattle.ode_value.specs.TreeOrder.{list_cmp, tree_cmp_of, tree_cmp, same_tree, placed, joined, all_joined, pair_cmp}

-- equal in two parts is equal in both
then-equal : (a b : Ordering) → ordering_then a b ≡ Equal → (a ≡ Equal) × (b ≡ Equal)
then-equal Less b h = cc
then-equal Equal b h = (refl, h)
then-equal Greater b h = cc

bool-equal : (a b : Bool) → bool_cmp a b ≡ Equal → a ≡ b
bool-equal false false h = refl
bool-equal false true h = cc
bool-equal true false h = cc
bool-equal true true h = refl

-- lists whose members compare as equal only where they are equal
list-equal : {X Y A B : Type 0} (cmp : A → B → Ordering) (to : Y → A) (mid : X → Y) (view : X → B) → ((x : X) (y : B) → cmp (to (mid x)) y ≡ Equal → view x ≡ y) → (xs : List X) (ys : List B) → list_cmp cmp (map to (map mid xs)) ys ≡ Equal → map view xs ≡ ys
list-equal cmp to mid view eq [] [] h = refl
list-equal cmp to mid view eq [] (y ∷ ys) h = cc
list-equal cmp to mid view eq (x ∷ xs) [] h = cc
list-equal cmp to mid view eq (x ∷ xs) (y ∷ ys) h =
    let both = then-equal (cmp (to (mid x)) y) (list_cmp cmp (map to (map mid xs)) ys) h in
    ap (λ z. z ∷ map view xs) (eq x y both.0) ∙ ap (λ zs. y ∷ zs) (list-equal cmp to mid view eq xs ys both.1)

-- what an induction shows of a tree
abbrev Tells : StateTree → Type 0
Tells s = (t : StateTree) → tree_cmp s t ≡ Equal → s ≡ t

abbrev Told : Type 0
Told = (s : StateTree) × Tells s

tree_cmp-roll : (d : StateTree-F StateTree) (t : StateTree) → tree_cmp (roll-StateTree d) t ≡ tree_cmp_of (map-StateTree StateTree (StateTree → Ordering) tree_cmp d) (out-StateTree t)
unfolding tree_cmp
tree_cmp-roll d t = ap (λ f. f t) (fold-roll-StateTree (StateTree → Ordering) (λ s u. tree_cmp_of s (out-StateTree u)) d)

nat-equal : (a b : ℕ) → nat_cmp a b ≡ Equal → a ≡ b
nat-equal a b h = nat_cmp-IsAntisymmetric a b h

-- the tree of a pair of a tree and what is shown of it
abbrev tree_of : Told → StateTree
tree_of x = x.0

abbrev trees_of : Told × Told → StateTree × StateTree
trees_of x = (x.0.0, x.1.0)

pair-equal : (x : Told × Told) (y : StateTree × StateTree) → ordering_then (tree_cmp x.0.0 y.0) (tree_cmp x.1.0 y.1) ≡ Equal → trees_of x ≡ y
pair-equal x y h =
    let both = then-equal (tree_cmp x.0.0 y.0) (tree_cmp x.1.0 y.1) h in
    let first = x.0.1 y.0 both.0 in
    let second = x.1.1 y.1 both.1 in
    λ i. (first i, second i)

trees-equal : (s : List Told) (t : List StateTree) → list_cmp (λ (x : (StateTree → Ordering)) (y : StateTree). x y) (map tree_cmp (map tree_of s)) t ≡ Equal → map tree_of s ≡ t
trees-equal s t h = list-equal (λ (x : (StateTree → Ordering)) (y : StateTree). x y) tree_cmp tree_of tree_of (λ x y q. x.1 y q) s t h

level-equal : (y : StateTree-F Told) (d : StateTree-F StateTree) → tree_cmp_of (map-StateTree StateTree (StateTree → Ordering) tree_cmp (map-StateTree Told StateTree tree_of y)) d ≡ Equal → map-StateTree Told StateTree tree_of y ≡ d
level-equal (Bit b) (Bit c) h = ap Bit (bool-equal b c h)
level-equal (Place b) (Place c) h = ap Place (nat-equal b c h)
level-equal (Seen b e) (Seen c f) h =
    let p = then-equal (bool_cmp b c) (tree_cmp e.0 f) h in
    ap (λ x. Seen x e.0) (bool-equal b c p.0) ∙ ap (Seen c) (e.1 f p.1)
level-equal (Both e f) (Both g k) h =
    let p = then-equal (tree_cmp e.0 g) (tree_cmp f.0 k) h in
    ap (λ x. Both x f.0) (e.1 g p.0) ∙ ap (Both g) (f.1 k p.1)
level-equal (Flag e f b) (Flag g k c) h =
    let p = then-equal (tree_cmp e.0 g) (ordering_then (tree_cmp f.0 k) (bool_cmp b c)) h in
    let q = then-equal (tree_cmp f.0 k) (bool_cmp b c) p.1 in
    ap (λ x. Flag x f.0 b) (e.1 g p.0) ∙ ap (λ x. Flag g x b) (f.1 k q.0) ∙ ap (Flag g k) (bool-equal b c q.1)
level-equal (Count e b) (Count f c) h =
    let p = then-equal (tree_cmp e.0 f) (nat_cmp b c) h in
    ap (λ x. Count x b) (e.1 f p.0) ∙ ap (Count f) (nat-equal b c p.1)
level-equal (Started e s) (Started f t) h =
    let p = then-equal (tree_cmp e.0 f) (list_cmp (λ x y. x y) (map tree_cmp (map tree_of s)) t) h in
    ap (λ x. Started x (map tree_of s)) (e.1 f p.0) ∙ ap (Started f) (trees-equal s t p.1)
level-equal (Pairs e s) (Pairs f t) h =
    let p = then-equal (tree_cmp e.0 f) (list_cmp (λ x y. ordering_then (x.0 y.0) (x.1 y.1)) (map (λ x. (tree_cmp x.0, tree_cmp x.1)) (map trees_of s)) t) h in
    let rest = list-equal (λ (x : (StateTree → Ordering) × (StateTree → Ordering)) (y : StateTree × StateTree). ordering_then (x.0 y.0) (x.1 y.1)) (λ x. (tree_cmp x.0, tree_cmp x.1)) trees_of trees_of pair-equal s t p.1 in
    ap (λ x. Pairs x (map trees_of s)) (e.1 f p.0) ∙ ap (Pairs f) rest
level-equal (Chained s) (Chained t) h = ap Chained (trees-equal s t h)
level-equal (Waiting e f s) (Waiting g k t) h =
    let p = then-equal (tree_cmp e.0 g) (ordering_then (tree_cmp f.0 k) (list_cmp (λ x y. x y) (map tree_cmp (map tree_of s)) t)) h in
    let q = then-equal (tree_cmp f.0 k) (list_cmp (λ x y. x y) (map tree_cmp (map tree_of s)) t) p.1 in
    ap (λ x. Waiting x f.0 (map tree_of s)) (e.1 g p.0) ∙ ap (λ x. Waiting g x (map tree_of s)) (f.1 k q.0) ∙ ap (Waiting g k) (trees-equal s t q.1)
level-equal (Masked e b) (Masked f c) h =
    let p = then-equal (tree_cmp e.0 f) (bool_cmp b c) h in
    ap (λ x. Masked x b) (e.1 f p.0) ∙ ap (Masked f) (bool-equal b c p.1)
level-equal _ _ h = cc

pub tree-equal : (s t : StateTree) → tree_cmp s t ≡ Equal → s ≡ t
tree-equal = ind-StateTree Tells (λ x y q. subst (λ d. Tells (roll-StateTree d)) q (here y)) where
  here : (y : StateTree-F Told) → Tells (roll-StateTree (map-StateTree Told StateTree tree_of y))
  here y t h =
      let d = map-StateTree Told StateTree tree_of y in
      ap roll-StateTree (level-equal y (out-StateTree t) (sym (tree_cmp-roll d t) ∙ h)) ∙ roll-out-StateTree t

swapped : (a b c : Bool) → (b || (a || c)) ≡ (a || (b || c))
swapped false false c = refl
swapped false true c = refl
swapped true false c = refl
swapped true true c = refl

-- a test passes on a set with one more member where it passes on that, or on the set
pub any-joined : {A : Type 0} (cmp : A → A → Ordering) → ((x y : A) → cmp x y ≡ Equal → x ≡ y) → (q : A → Bool) (x : A) (ys : List A) → list_any q (joined cmp x ys) ≡ (q x || list_any q ys)
any-joined cmp eq q x [] = refl
any-joined cmp eq q x (y ∷ ys) = by_order (any-joined cmp eq q x ys) (cmp x y) refl where
  by_order : list_any q (joined cmp x ys) ≡ (q x || list_any q ys) → (o : Ordering) → cmp x y ≡ o → list_any q (placed o x y ys (joined cmp x ys)) ≡ (q x || (q y || list_any q ys))
  by_order rest Less h = refl
  by_order rest Equal h = rw (eq x y h) (sym (or_self_left (q y) (list_any q ys)))
  by_order rest Greater h = ap (λ b. q y || b) rest ∙ swapped (q x) (q y) (list_any q ys)

regrouped : (a b c : Bool) → ((a || b) || c) ≡ (b || (a || c))
regrouped false b c = refl
regrouped true false c = refl
regrouped true true c = refl

pub any-all_joined : {A : Type 0} (cmp : A → A → Ordering) → ((x y : A) → cmp x y ≡ Equal → x ≡ y) → (q : A → Bool) (set xs : List A) → list_any q (all_joined cmp set xs) ≡ (list_any q set || list_any q xs)
any-all_joined cmp eq q set [] = sym (or-false (list_any q set))
any-all_joined cmp eq q set (x ∷ xs) =
    any-all_joined cmp eq q (joined cmp x set) xs
    ∙ ap (λ b. b || list_any q xs) (any-joined cmp eq q x set)
    ∙ regrouped (q x) (list_any q set) (list_any q xs)

pub any-map : {A B : Type 0} (q : B → Bool) (next : A → B) (xs : List A) → list_any q (map next xs) ≡ list_any (λ x. q (next x)) xs
any-map q next [] = refl
any-map q next (x ∷ xs) = ap (λ b. q (next x) || b) (any-map q next xs)

kept-or : {A : Type 0} (q : A → Bool) (x : A) (t : Bool) (ys : List A) (b : Bool) → list_any q ys ≡ b → list_any q (cond t (x ∷ ys) ys) ≡ ((t && q x) || b)
kept-or q x true ys b h = ap (λ c. q x || c) h
kept-or q x false ys b h = h

pub any-filter : {A : Type 0} (p q : A → Bool) (xs : List A) → list_any q (filter p xs) ≡ list_any (λ x. p x && q x) xs
any-filter p q [] = refl
any-filter p q (x ∷ xs) = kept-or q x (p x) (filter p xs) (list_any (λ y. p y && q y) xs) (any-filter p q xs)

pub pairs-equal : (x y : StateTree × StateTree) → pair_cmp x y ≡ Equal → x ≡ y
pairs-equal x y h =
    let both = then-equal (tree_cmp x.0 y.0) (tree_cmp x.1 y.1) h in
    let first = tree-equal x.0 y.0 both.0 in
    let second = tree-equal x.1 y.1 both.1 in
    λ i. (first i, second i)

-- ---- each tree is the same as itself

bool-itself : (b : Bool) → bool_cmp b b ≡ Equal
bool-itself false = refl
bool-itself true = refl

nat-itself : (n : ℕ) → nat_cmp n n ≡ Equal
nat-itself n = sym (nat_cmp_is n n Equal refl)

both-equal : (a b : Ordering) → a ≡ Equal → b ≡ Equal → ordering_then a b ≡ Equal
both-equal Less b h k = cc
both-equal Equal b h k = k
both-equal Greater b h k = cc

abbrev Same : Type 0
Same = (s : StateTree) × (tree_cmp s s ≡ Equal)

abbrev same_of : Same → StateTree
same_of x = x.0

abbrev same_pair : Same × Same → StateTree × StateTree
same_pair x = (x.0.0, x.1.0)

list-itself : (xs : List Same) → list_cmp (λ (x : (StateTree → Ordering)) (y : StateTree). x y) (map tree_cmp (map same_of xs)) (map same_of xs) ≡ Equal
list-itself [] = refl
list-itself (x ∷ xs) = both-equal (tree_cmp x.0 x.0) (list_cmp (λ (f : (StateTree → Ordering)) (y : StateTree). f y) (map tree_cmp (map same_of xs)) (map same_of xs)) x.1 (list-itself xs)

pairs-itself : (xs : List (Same × Same))
    → list_cmp (λ (x : (StateTree → Ordering) × (StateTree → Ordering)) (y : StateTree × StateTree). ordering_then (x.0 y.0) (x.1 y.1)) (map (λ x. (tree_cmp x.0, tree_cmp x.1)) (map same_pair xs)) (map same_pair xs) ≡ Equal
pairs-itself [] = refl
pairs-itself (x ∷ xs) =
    both-equal (ordering_then (tree_cmp x.0.0 x.0.0) (tree_cmp x.1.0 x.1.0))
    (list_cmp (λ (f : (StateTree → Ordering) × (StateTree → Ordering)) (y : StateTree × StateTree). ordering_then (f.0 y.0) (f.1 y.1)) (map (λ y. (tree_cmp y.0, tree_cmp y.1)) (map same_pair xs)) (map same_pair xs))
    (both-equal (tree_cmp x.0.0 x.0.0) (tree_cmp x.1.0 x.1.0) x.0.1 x.1.1) (pairs-itself xs)

level-itself : (y : StateTree-F Same) → tree_cmp_of (map-StateTree StateTree (StateTree → Ordering) tree_cmp (map-StateTree Same StateTree same_of y)) (map-StateTree Same StateTree same_of y) ≡ Equal
level-itself (Bit b) = bool-itself b
level-itself (Place n) = nat-itself n
level-itself (Seen b e) = both-equal (bool_cmp b b) (tree_cmp e.0 e.0) (bool-itself b) e.1
level-itself (Both e f) = both-equal (tree_cmp e.0 e.0) (tree_cmp f.0 f.0) e.1 f.1
level-itself (Flag e f b) = both-equal (tree_cmp e.0 e.0) (ordering_then (tree_cmp f.0 f.0) (bool_cmp b b)) e.1 (both-equal (tree_cmp f.0 f.0) (bool_cmp b b) f.1 (bool-itself b))
level-itself (Count e n) = both-equal (tree_cmp e.0 e.0) (nat_cmp n n) e.1 (nat-itself n)
level-itself (Started e s) = both-equal (tree_cmp e.0 e.0) (list_cmp (λ (x : (StateTree → Ordering)) (y : StateTree). x y) (map tree_cmp (map same_of s)) (map same_of s)) e.1 (list-itself s)
level-itself (Pairs e s) =
    both-equal (tree_cmp e.0 e.0)
    (list_cmp (λ (x : (StateTree → Ordering) × (StateTree → Ordering)) (y : StateTree × StateTree). ordering_then (x.0 y.0) (x.1 y.1)) (map (λ x. (tree_cmp x.0, tree_cmp x.1)) (map same_pair s)) (map same_pair s))
    e.1 (pairs-itself s)
level-itself (Chained s) = list-itself s
level-itself (Waiting e f s) =
    let own = list_cmp (λ (x : (StateTree → Ordering)) (y : StateTree). x y) (map tree_cmp (map same_of s)) (map same_of s) in
    both-equal (tree_cmp e.0 e.0) (ordering_then (tree_cmp f.0 f.0) own) e.1 (both-equal (tree_cmp f.0 f.0) own f.1 (list-itself s))
level-itself (Masked e b) = both-equal (tree_cmp e.0 e.0) (bool_cmp b b) e.1 (bool-itself b)

pub tree-itself : (s : StateTree) → tree_cmp s s ≡ Equal
tree-itself = ind-StateTree (λ s. tree_cmp s s ≡ Equal) (λ x y q. subst (λ d. tree_cmp (roll-StateTree d) (roll-StateTree d) ≡ Equal) q (here y)) where
  here : (y : StateTree-F Same) → tree_cmp (roll-StateTree (map-StateTree Same StateTree same_of y)) (roll-StateTree (map-StateTree Same StateTree same_of y)) ≡ Equal
  here y =
      let d = map-StateTree Same StateTree same_of y in
      tree_cmp-roll d (roll-StateTree d) ∙ ap (tree_cmp_of (map-StateTree StateTree (StateTree → Ordering) tree_cmp d)) (out-roll-StateTree d) ∙ level-itself y

pub same_tree-itself : (s : StateTree) → same_tree s s ≡ true
same_tree-itself s = ap is_eq (tree-itself s)

is_equal : (o : Ordering) → is_eq o ≡ true → o ≡ Equal
is_equal Less h = cc
is_equal Equal h = refl
is_equal Greater h = cc

pub same_tree-equal : (s t : StateTree) → same_tree s t ≡ true → s ≡ t
same_tree-equal s t h = tree-equal s t (is_equal (tree_cmp s t) h)
