-- How the list of trees grows.
use Rattle.std.proofs.Common.{◌≡◌, ℕ, zero, suc, ◌+◌, ◌<◌, ◌≤◌, Bool, true, false, cond, List, [], ◌∷◌, ◌++◌, length, map, refl, ap, sym, ◌∙◌, subst, arith, length-append, append_assoc, Some, None}
use Rattle.std.specs.Prelude.{fold, flat_map, nat_le}
use Rattle.std.specs.List.{list_any}
use Rattle.std.proofs.lemmas.Bool.Decides.{nat_tests}
use Rattle.std.proofs.lemmas.List.{append-nil}
use Rattle.ode_value.specs.Limits.{state_limit}
use Rattle.ode_value.specs.declared.event.EventExpr.{EventExpr}
use Rattle.ode_value.specs.declared.tree.StateTree.{StateTree}
use Rattle.ode_value.specs.Marks.{Mark, spelled}
use Rattle.ode_value.specs.TreeCount.{with_tree, grow_by, grown_by, count_by_steps, count_over, counted}
use Rattle.ode_value.specs.TreeOrder.{same_tree}
use Rattle.ode_value.specs.Trees.{first_tree, next_tree}
use Rattle.ode_trees.specs.ListMachines.{each_step, grow_listed, grown_listed, listed_count}
use Rattle.ode_trees.proofs.ListMachineLaws.{next-spelled}

pub leb-above : (m n : ℕ) → n < m → nat_le m n ≡ false
leb-above m n h = grind (arith, nat_tests)

pub leb-within : (m n : ℕ) → m ≤ n → nat_le m n ≡ true
leb-within m n h = grind (arith, nat_tests)

-- ---- a longer list begins with the shorter one

abbrev pub Begins : List StateTree → List StateTree → Type 0
Begins xs ys = (rest : List StateTree) × (ys ≡ xs ++ rest)

pub begins-with_tree : (trees : List StateTree) (s : StateTree) → Begins trees (with_tree trees s)
begins-with_tree trees s = by_test (list_any (same_tree s) trees) where
  by_test : (t : Bool) → Begins trees (cond t trees (trees ++ s ∷ []))
  by_test true = ([], sym (append-nil trees))
  by_test false = (s ∷ [], refl)

pub begins-more : (xs ys zs : List StateTree) → Begins xs ys → Begins ys zs → Begins xs zs
begins-more xs ys zs p q = (p.0 ++ q.0, q.1 ∙ ap (λ l. l ++ q.0) p.1 ∙ append_assoc xs p.0 q.0)

pub begins-fold : (trees new : List StateTree) → Begins trees (fold with_tree trees new)
begins-fold trees [] = ([], sym (append-nil trees))
begins-fold trees (s ∷ new) = begins-more trees (with_tree trees s) (fold with_tree (with_tree trees s) new) (begins-with_tree trees s) (begins-fold (with_tree trees s) new)

pub begins-longer : (xs ys : List StateTree) → Begins xs ys → length xs ≤ length ys
begins-longer xs ys p = let e : length ys ≡ length xs + length p.0 = ap length p.1 ∙ length-append xs p.0 in omega arith

-- ---- the list after more rounds

pub grown-next : (e : EventExpr) (lists : List (List Bool)) (n : ℕ) → grown_listed e lists (suc n) ≡ grow_listed e lists (grown_listed e lists n)
unfolding grown_listed
grown-next e lists n = refl

pub grown-first : (e : EventExpr) (lists : List (List Bool)) → grown_listed e lists 0 ≡ first_tree e ∷ []
unfolding grown_listed
grown-first e lists = refl

longer-next : (e : EventExpr) (lists : List (List Bool)) (n : ℕ) → length (grown_listed e lists n) ≤ length (grown_listed e lists (suc n))
longer-next e lists n =
    subst (λ l. length (grown_listed e lists n) ≤ length l) (sym (grown-next e lists n))
    (begins-longer (grown_listed e lists n) (grow_listed e lists (grown_listed e lists n)) (begins-fold (grown_listed e lists n) (flat_map (each_step e lists) (grown_listed e lists n))))

pub longer : (e : EventExpr) (lists : List (List Bool)) (n more : ℕ) → length (grown_listed e lists n) ≤ length (grown_listed e lists (n + more))
longer e lists n zero = let same : n ≡ n + 0 = omega arith in subst (λ k. length (grown_listed e lists n) ≤ length (grown_listed e lists k)) same (omega arith)
longer e lists n (suc more) =
    let before = longer e lists n more in
    let step = longer-next e lists (n + more) in
    let same : suc (n + more) ≡ n + suc more = omega arith in
    subst (λ k. length (grown_listed e lists n) ≤ length (grown_listed e lists k)) same (omega (arith, before, step))

pub last-round : (e : EventExpr) (lists : List (List Bool)) → length (grown_listed e lists state_limit) ≡ listed_count e lists
unfolding listed_count
last-round e lists = refl

pub beyond : (n : ℕ) → state_limit < n → counted n ≡ None
beyond n above = ap (λ t. cond t (Some n) None) (leb-above n state_limit above)

-- ---- lists that spell marks

pub each-marks : (e : EventExpr) (ms : List Mark) (s : StateTree) → each_step e (map (spelled e) ms) s ≡ map (λ step. step s) (map (next_tree e) ms)
each-marks e [] s = refl
each-marks e (m ∷ ms) s = λ i. next-spelled e m i s ∷ each-marks e ms s i

grow-marks : (e : EventExpr) (ms : List Mark) (trees : List StateTree) → grow_listed e (map (spelled e) ms) trees ≡ grow_by (map (next_tree e) ms) trees
grow-marks e ms trees = λ i. fold with_tree trees (flat_map (λ s. each-marks e ms s i) trees)

grown-marks : (e : EventExpr) (ms : List Mark) (n : ℕ) → grown_listed e (map (spelled e) ms) n ≡ grown_by (map (next_tree e) ms) (first_tree e) n
unfolding grown_listed grown_by
grown-marks e ms zero = refl
grown-marks e ms (suc n) = grow-marks e ms (grown_listed e (map (spelled e) ms) n) ∙ ap (grow_by (map (next_tree e) ms)) (grown-marks e ms n)

pub count-marks : (e : EventExpr) (lists : List (List Bool)) (ms : List Mark) → lists ≡ map (spelled e) ms → listed_count e lists ≡ count_over e ms
unfolding listed_count count_by_steps
count-marks e lists ms h = ap (listed_count e) h ∙ ap length (grown-marks e ms state_limit)
