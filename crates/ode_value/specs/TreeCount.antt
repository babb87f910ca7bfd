-- How many trees of states an event expression has. The count serves for the limit alone.
use Rattle.std.specs.Prelude.{ℕ, zero, suc, nat_le, cond, List, [], ◌∷◌, ◌++◌, map, flat_map, fold, length, Option, Some, None}
use Rattle.std.specs.List.{list_any, range_with_len}
use Rattle.ode_value.specs.declared.event.EventExpr.{EventExpr}
use Rattle.ode_value.specs.declared.tree.StateTree.{StateTree}
use Rattle.ode_value.specs.Limits.{state_limit}
use Rattle.ode_value.specs.Marks.{Mark}
use Rattle.ode_value.specs.Symbols.{symbol_count, symbol_mark}
use Rattle.ode_value.specs.TreeOrder.{same_tree}
use Rattle.ode_value.specs.Trees.{first_tree, next_tree}

-- the list, followed by the tree where it isn't in it
abbrev pub with_tree : List StateTree → StateTree → List StateTree
with_tree trees s = cond (list_any (same_tree s) trees) trees (trees ++ s ∷ [])

-- the list, followed by each tree that one of these steps of one of its members gives, each once
abbrev pub grow_by : List (StateTree → StateTree) → List StateTree → List StateTree
grow_by steps trees = fold with_tree trees (flat_map (λ s. map (λ step. step s) steps) trees)

-- the list of the first tree alone, grown so many times
unfoldable pub grown_by : List (StateTree → StateTree) → StateTree → ℕ → List StateTree
grown_by steps first zero = first ∷ []
grown_by steps first (suc n) = grow_by steps (grown_by steps first n)

unfoldable pub count_by_steps : List (StateTree → StateTree) → StateTree → ℕ
count_by_steps steps first = length (grown_by steps first state_limit)

-- the count over these marks
abbrev pub count_over : EventExpr → List Mark → ℕ
count_over e ms = count_by_steps (map (next_tree e) ms) (first_tree e)

-- the marks of the symbols, and the count over them
abbrev pub symbol_marks : EventExpr → List Mark
symbol_marks e = map (symbol_mark e) (range_with_len 0 (symbol_count e))

abbrev pub tree_count : EventExpr → ℕ
tree_count e = count_over e (symbol_marks e)

-- a count up to the limit on states
abbrev pub counted : ℕ → Option ℕ
counted n = cond (nat_le n state_limit) (Some n) None
