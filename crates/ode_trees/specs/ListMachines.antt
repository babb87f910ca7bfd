-- The machines of event expressions, reading lists of truths: whether each leaf holds, in the order of the text, and then whether each
-- mask on a composite event does.
use Rattle.std.specs.Prelude.{ℕ, zero, suc, ◌+◌, min, ◌||◌, not, Bool, true, false, cond, List, [], ◌∷◌, length, map, filter, flat_map, fold, slice_index_or}
use Rattle.std.specs.List.{list_any}
use Rattle.ode_value.specs.Limits.{state_limit}
use Rattle.ode_value.specs.declared.event.EventExpr.{EventExpr, fold-EventExpr}
use Rattle.ode_value.specs.declared.event.EventExpr.TheOpen as event
use Rattle.ode_value.specs.declared.tree.StateTree.{StateTree}
use Rattle.ode_value.specs.declared.tree.StateTree.TheVariants.{Bit, Place, Seen, Both, Flag, Count, Started, Pairs, Chained, Waiting, Masked}
use Rattle.ode_value.specs.Marks.{composite_masks, leaves}
use Rattle.ode_value.specs.TreeCount.{with_tree}
use Rattle.ode_value.specs.TreeOrder.{tree_cmp, pair_cmp, joined, all_joined}
use Rattle.ode_value.specs.Trees.{TreeMachine, machine_of, machine, first_tree, answers, left, right, bit, count, started, pairs, next_count, next_turn, with_first, is_spent}
use Rattle.ode_trees.specs.declared.cursor.Cursor.{Cursor}

-- a machine, how many leaves and masks it reads, and a step by their truths from two places on
pub record ListMachine : Type 0 where
  pub of : TreeMachine
  pub leaves : ℕ
  pub masks : ℕ
  pub next : Cursor → List Bool → StateTree → StateTree

-- the places behind those of a machine
abbrev pub past : ListMachine → Cursor → Cursor
past e at = record { leaf = at.leaf + e.leaves; mask = at.mask + e.masks }

abbrev pub both_next : ListMachine → ListMachine → Cursor → List Bool → StateTree → (StateTree → StateTree → StateTree) → StateTree
both_next e f at list s make = make (e.next at list (left s)) (f.next (past e at) list (right s))

abbrev pub started_next : ListMachine → Cursor → List Bool → List StateTree → List StateTree
started_next f at list set = all_joined tree_cmp [] (map (f.next at list) set)

abbrev pub waiting_next : ListMachine → Cursor → List Bool → Bool → List StateTree → List StateTree
waiting_next f at list spoilt set =
    let after = started_next f at list (filter (λ x. not (f.of.answer x)) set) in cond spoilt (filter f.of.answer after) after

abbrev pub pair_next : ListMachine → ListMachine → Cursor → List Bool → StateTree × StateTree → StateTree × StateTree
pair_next f g at list x = (f.next at list x.0, g.next (past f at) list x.1)

abbrev pub pairs_next : ListMachine → ListMachine → Cursor → List Bool → List (StateTree × StateTree) → List (StateTree × StateTree)
pairs_next f g at list set = all_joined pair_cmp [] (map (pair_next f g at list) (filter (λ x. not (is_spent f.of g.of x)) set))

abbrev pub made : TreeMachine → ℕ → ℕ → (Cursor → List Bool → StateTree → StateTree) → ListMachine
made of leaves masks next = record { of = of; leaves = leaves; masks = masks; next = next }

abbrev pub list_machine_of : event.EventExpr-F ListMachine → ListMachine
list_machine_of (event.Leaf kind mask) = made (machine_of (event.Leaf kind mask)) 1 0 (λ at list s. Bit (slice_index_or list at.leaf false))
list_machine_of event.Any = made (machine_of event.Any) 0 0 (λ at list s. Bit true)
list_machine_of event.First = made (machine_of event.First) 0 0 (λ at list s. Place (min (count s + 1) 2))
list_machine_of (event.Not e) = made (machine_of (event.Not e.of)) e.leaves e.masks (λ at list s. Seen true (e.next at list (left s)))
list_machine_of (event.And e f) = made (machine_of (event.And e.of f.of)) (e.leaves + f.leaves) (e.masks + f.masks) (λ at list s. both_next e f at list s Both)
list_machine_of (event.Or e f) = made (machine_of (event.Or e.of f.of)) (e.leaves + f.leaves) (e.masks + f.masks) (λ at list s. both_next e f at list s Both)
list_machine_of (event.Prior e f) =
    made (machine_of (event.Prior e.of f.of)) (e.leaves + f.leaves) (e.masks + f.masks)
    (λ at list s. both_next e f at list s (λ x y. Flag x y (bit s || e.of.answer (left s))))
list_machine_of (event.Sequence e f) =
    made (machine_of (event.Sequence e.of f.of)) (e.leaves + f.leaves) (e.masks + f.masks) (λ at list s. both_next e f at list s (λ x y. Flag x y (e.of.answer (left s))))
list_machine_of (event.Choose n e) =
    made (machine_of (event.Choose n e.of)) e.leaves e.masks (λ at list s. let x = e.next at list (left s) in Count x (next_count n (e.of.answer x) (count s)))
list_machine_of (event.Every n e) =
    made (machine_of (event.Every n e.of)) e.leaves e.masks (λ at list s. let x = e.next at list (left s) in Count x (next_turn n (e.of.answer x) (count s)))
list_machine_of (event.Relative e f) =
    made (machine_of (event.Relative e.of f.of)) (e.leaves + f.leaves) (e.masks + f.masks)
    (λ at list s. let x = e.next at list (left s) in Started x (with_first (e.of.answer x) (joined tree_cmp f.of.first) (started_next f (past e at) list (started s))))
list_machine_of (event.Fa e f g) =
    made (machine_of (event.Fa e.of f.of g.of)) (e.leaves + f.leaves + g.leaves) (e.masks + f.masks + g.masks)
    (λ at list s. let x = e.next at list (left s) in Pairs x (with_first (e.of.answer x) (joined pair_cmp (f.of.first, g.of.first)) (pairs_next f g (past e at) list (pairs s))))
list_machine_of (event.RelPlus e) =
    made (machine_of (event.RelPlus e.of)) e.leaves e.masks
    (λ at list s. let set = started_next e at list (started s) in Chained (with_first (list_any e.of.answer set) (joined tree_cmp e.of.first) set))
list_machine_of (event.Pipe e f) =
    made (machine_of (event.Pipe e.of f.of)) (e.leaves + f.leaves) (e.masks + f.masks)
    (λ at list s. let x = e.next at list (left s) in let y = f.next (past e at) list (right s) in
    cond (e.of.answer x) (Flag x y (f.of.answer y)) (Flag x (right s) false))
list_machine_of (event.FaAbs e f g) =
    made (machine_of (event.FaAbs e.of f.of g.of)) (e.leaves + f.leaves + g.leaves) (e.masks + f.masks + g.masks)
    (λ at list s. let x = e.next at list (left s) in let y = g.next (past f (past e at)) list (right s) in
    Waiting x y (with_first (e.of.answer x) (joined tree_cmp f.of.first) (waiting_next f (past e at) list (g.of.answer y) (started s))))
list_machine_of (event.Masked e mask) =
    made (machine_of (event.Masked e.of mask)) e.leaves (e.masks + 1)
    (λ at list s. Masked (e.next at list (left s)) (slice_index_or list (at.mask + e.masks) false))

unfoldable pub list_machine : EventExpr → ListMachine
list_machine = fold-EventExpr ListMachine list_machine_of

abbrev pub leaf_count : EventExpr → ℕ
leaf_count e = (list_machine e).leaves

abbrev pub mask_count : EventExpr → ℕ
mask_count e = (list_machine e).masks

abbrev pub next_listed : EventExpr → Cursor → List Bool → StateTree → StateTree
next_listed e = (list_machine e).next

-- a set of pairs, with those of these that aren't spent, after their steps
abbrev pub pairs_after : EventExpr → EventExpr → Cursor → List Bool → List (StateTree × StateTree) → List (StateTree × StateTree) → List (StateTree × StateTree)
pairs_after f g at list set xs = all_joined pair_cmp set (map (pair_next (list_machine f) (list_machine g) at list) (filter (λ x. not (is_spent (machine f) (machine g) x)) xs))

-- a set of trees, with those of these that don't answer, after their steps
abbrev pub unanswered_after : EventExpr → Cursor → List Bool → List StateTree → List StateTree → List StateTree
unanswered_after f at list set xs = all_joined tree_cmp set (map (next_listed f at list) (filter (λ x. not (answers f x)) xs))

-- the places in a list of all truths
abbrev pub start : EventExpr → Cursor
start e = record { leaf = 0; mask = leaf_count e }

-- how many truths there are of the leaves and masks of an expression
abbrev pub condition_count : EventExpr → ℕ
condition_count e = length (leaves e) + length (composite_masks e)

-- steps of one tree by each of these lists, and the list of trees grown by them
abbrev pub each_step : EventExpr → List (List Bool) → StateTree → List StateTree
each_step e lists s = map (λ list. next_listed e (start e) list s) lists

abbrev pub grow_listed : EventExpr → List (List Bool) → List StateTree → List StateTree
grow_listed e lists trees = fold with_tree trees (flat_map (each_step e lists) trees)

unfoldable pub grown_listed : EventExpr → List (List Bool) → ℕ → List StateTree
grown_listed e lists zero = first_tree e ∷ []
grown_listed e lists (suc n) = grow_listed e lists (grown_listed e lists n)

unfoldable pub listed_count : EventExpr → List (List Bool) → ℕ
listed_count e lists = length (grown_listed e lists state_limit)
