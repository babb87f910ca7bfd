-- Trees that words of marks reach, each with a number, and the numbers of the trees after it.
use Rattle.std.specs.Prelude.{true, ◌≡◌, ℕ, ◌<◌, ◌≤◌, List, map, flat_map, fold, length, take, Option, Some, None}
use Rattle.std.specs.Cmp.Lexicographic.{slice_cmp}
use Rattle.std.specs.List.{list_any, slice_get}
use Rattle.std.specs.Map.{lookup}
use Rattle.std.specs.Option.{is_some}
use Rattle.std.specs.Ordering.{is_eq, nat_cmp}
use Rattle.ode_value.specs.Limits.{state_limit}
use Rattle.ode_value.specs.declared.event.EventExpr.{EventExpr}
use Rattle.ode_value.specs.declared.tree.StateTree.{StateTree}
use Rattle.ode_value.specs.Marks.{Mark}
use Rattle.ode_value.specs.TreeCount.{with_tree, count_over}
use Rattle.ode_value.specs.TreeOrder.{same_tree}
use Rattle.ode_value.specs.Trees.{first_tree, next_tree}
use Rattle.ode_trees.specs.Codes.{code}
use Rattle.ode_trees.specs.declared.growth.Reached.{Reached}

-- the numbers stand for these trees
abbrev pub Leads : List StateTree → List ℕ → List StateTree → Type 0
Leads trees next steps = map (slice_get trees) next ≡ map Some steps

-- each of the trees stands under its code
abbrev pub Covers : {K : Type 0} → List StateTree → List (K × ℕ) → (K → List ℕ) → Type 0
Covers trees entries code_of =
    (s : StateTree) → list_any (same_tree s) trees ≡ true → is_some (lookup (λ k. is_eq (slice_cmp nat_cmp (code s) (code_of k))) entries) ≡ true

-- the first tree, and what these steps of these trees give, each once
abbrev pub made_from : List StateTree → (StateTree → List StateTree) → List StateTree → List StateTree
made_from firsts steps trees = fold with_tree firsts (flat_map steps trees)

-- The list has what steps of its first q trees give, in their order, and a tree of these stands there before its own steps.
pub record IsMade (firsts : List StateTree) (steps : StateTree → List StateTree) (q : ℕ) (trees : List StateTree) : Type 0 where
  pub made : trees ≡ made_from firsts steps (take q trees)
  pub before : (k : ℕ) → k < q → k < length (made_from firsts steps (take k trees))

-- the trees after one, by each of these marks
abbrev pub steps_by : EventExpr → List Mark → StateTree → List StateTree
steps_by e ms s = map (λ m. next_tree e m s) ms

-- The trees that words of these marks reach, from the first one on, and for each the numbers of the trees after it by each mark.
pub record IsReached (e : EventExpr) (ms : List Mark) (r : Reached) : Type 0 where
  pub count : length r.trees ≡ count_over e ms
  pub few : length r.trees ≤ state_limit
  pub first : slice_get r.trees 0 ≡ Some (first_tree e)
  pub next : Leads r.trees r.next (flat_map (steps_by e ms) r.trees)

-- the trees, where there are few
abbrev pub IsAnswer : EventExpr → List Mark → Option Reached → Type 0
IsAnswer e ms None = state_limit < count_over e ms
IsAnswer e ms (Some r) = IsReached e ms r
