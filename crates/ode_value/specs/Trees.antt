-- The trees of states of an event expression: the first one, a step and the answer.
use Rattle.std.specs.Prelude.{ℕ, ◌+◌, ◌%◌, ◌==◌, min, ◌&&◌, ◌||◌, not, Bool, true, false, cond, List, [], ◌∷◌, map, filter, fold}
use Rattle.std.specs.List.{list_any}
use Rattle.ode_value.specs.declared.event.EventExpr.{EventExpr, fold-EventExpr}
use Rattle.ode_value.specs.declared.event.EventExpr.TheOpen as event
use Rattle.ode_value.specs.declared.tree.StateTree.{StateTree, out-StateTree}
use Rattle.ode_value.specs.declared.tree.StateTree.TheOpen as level
use Rattle.ode_value.specs.declared.tree.StateTree.TheVariants.{Bit, Place, Seen, Both, Flag, Count, Started, Pairs, Chained, Waiting, Masked}
use Rattle.ode_value.specs.Marks.{OfLeaf, OfEvent, Mark}
use Rattle.ode_value.specs.TreeOrder.{tree_cmp, pair_cmp, joined, all_joined}

-- ---- the parts of a tree; a tree of another form has itself, false, 0 or nothing in their place

abbrev pub Level : Type 0
Level = level.StateTree-F StateTree

abbrev pub left_of : StateTree → Level → StateTree
left_of s (level.Seen b e) = e
left_of s (level.Both e f) = e
left_of s (level.Flag e f b) = e
left_of s (level.Count e c) = e
left_of s (level.Started e set) = e
left_of s (level.Pairs e set) = e
left_of s (level.Waiting e g set) = e
left_of s (level.Masked e b) = e
left_of s _ = s

abbrev pub right_of : StateTree → Level → StateTree
right_of s (level.Both e f) = f
right_of s (level.Flag e f b) = f
right_of s (level.Waiting e g set) = g
right_of s _ = s

abbrev pub bit_of : Level → Bool
bit_of (level.Bit b) = b
bit_of (level.Seen b e) = b
bit_of (level.Flag e f b) = b
bit_of (level.Masked e b) = b
bit_of _ = false

abbrev pub count_of : Level → ℕ
count_of (level.Place c) = c
count_of (level.Count e c) = c
count_of _ = 0

abbrev pub started_of : Level → List StateTree
started_of (level.Started e set) = set
started_of (level.Chained set) = set
started_of (level.Waiting e g set) = set
started_of _ = []

abbrev pub pairs_of : Level → List (StateTree × StateTree)
pairs_of (level.Pairs e set) = set
pairs_of _ = []

unfoldable pub left : StateTree → StateTree
left s = left_of s (out-StateTree s)

unfoldable pub right : StateTree → StateTree
right s = right_of s (out-StateTree s)

unfoldable pub bit : StateTree → Bool
bit s = bit_of (out-StateTree s)

unfoldable pub count : StateTree → ℕ
count s = count_of (out-StateTree s)

unfoldable pub started : StateTree → List StateTree
started s = started_of (out-StateTree s)

unfoldable pub pairs : StateTree → List (StateTree × StateTree)
pairs s = pairs_of (out-StateTree s)

-- ---- the machines

-- the first tree, the tree after one more point, and the answer
pub record TreeMachine : Type 0 where
  pub first : StateTree
  pub next : Mark → StateTree → StateTree
  pub answer : StateTree → Bool

-- one more where there is an answer: at most n + 1, and modulo n
abbrev pub next_count : ℕ → Bool → ℕ → ℕ
next_count n answers c = cond answers (min (c + 1) (n + 1)) c

abbrev pub next_turn : ℕ → Bool → ℕ → ℕ
next_turn n answers c = cond answers ((c + 1) % n) c

-- both parts of a tree after a point
abbrev pub next_both : TreeMachine → TreeMachine → Mark → StateTree → (StateTree → StateTree → StateTree) → StateTree
next_both e f m s make = make (e.next m (left s)) (f.next m (right s))

-- where E answers after the point, a first tree joins
abbrev pub with_first : {A : Type 0} → Bool → (List A → List A) → List A → List A
with_first answers join set = cond answers (join set) set

-- a pair is spent where one of its trees answers
abbrev pub is_spent : TreeMachine → TreeMachine → StateTree × StateTree → Bool
is_spent f g x = f.answer x.0 || g.answer x.1

abbrev pub next_pair : TreeMachine → TreeMachine → Mark → StateTree × StateTree → StateTree × StateTree
next_pair f g m x = (f.next m x.0, g.next m x.1)

-- the set after a point: its members after their steps
abbrev pub next_started : TreeMachine → Mark → List StateTree → List StateTree
next_started f m set = all_joined tree_cmp [] (map (f.next m) set)

abbrev pub next_pairs : TreeMachine → TreeMachine → Mark → List (StateTree × StateTree) → List (StateTree × StateTree)
next_pairs f g m set = all_joined pair_cmp [] (map (next_pair f g m) (filter (λ x. not (is_spent f g x)) set))

-- of the set those that answer go and the others step; where G answers, those that don't answer now go too
abbrev pub next_waiting : TreeMachine → Mark → Bool → List StateTree → List StateTree
next_waiting f m spoilt set =
    let after = next_started f m (filter (λ x. not (f.answer x)) set) in cond spoilt (filter f.answer after) after

abbrev pub made : StateTree → (Mark → StateTree → StateTree) → (StateTree → Bool) → TreeMachine
made first next answer = record { first = first; next = next; answer = answer }

-- by one level of the expression: first, next, answer
abbrev pub machine_of : event.EventExpr-F TreeMachine → TreeMachine
machine_of (event.Leaf kind mask) = made (Bit false) (λ m s. Bit (m (OfLeaf kind mask))) bit
machine_of event.Any = made (Bit false) (λ m s. Bit true) bit
machine_of event.First = made (Place 0) (λ m s. Place (min (count s + 1) 2)) (λ s. count s == 1)
machine_of (event.Not e) = made (Seen false e.first) (λ m s. Seen true (e.next m (left s))) (λ s. bit s && not (e.answer (left s)))
machine_of (event.And e f) = made (Both e.first f.first) (λ m s. next_both e f m s Both) (λ s. e.answer (left s) && f.answer (right s))
machine_of (event.Or e f) = made (Both e.first f.first) (λ m s. next_both e f m s Both) (λ s. e.answer (left s) || f.answer (right s))
machine_of (event.Prior e f) =
    made (Flag e.first f.first false) (λ m s. next_both e f m s (λ x y. Flag x y (bit s || e.answer (left s)))) (λ s. bit s && f.answer (right s))
machine_of (event.Sequence e f) =
    made (Flag e.first f.first false) (λ m s. next_both e f m s (λ x y. Flag x y (e.answer (left s)))) (λ s. bit s && f.answer (right s))
machine_of (event.Choose n e) =
    made (Count e.first 0) (λ m s. let x = e.next m (left s) in Count x (next_count n (e.answer x) (count s))) (λ s. e.answer (left s) && (count s == n))
machine_of (event.Every n e) =
    made (Count e.first 0) (λ m s. let x = e.next m (left s) in Count x (next_turn n (e.answer x) (count s))) (λ s. e.answer (left s) && (count s == 0))
machine_of (event.Relative e f) =
    made (Started e.first [])
    (λ m s. let x = e.next m (left s) in Started x (with_first (e.answer x) (joined tree_cmp f.first) (next_started f m (started s))))
    (λ s. list_any f.answer (started s))
machine_of (event.Fa e f g) =
    made (Pairs e.first [])
    (λ m s. let x = e.next m (left s) in Pairs x (with_first (e.answer x) (joined pair_cmp (f.first, g.first)) (next_pairs f g m (pairs s))))
    (λ s. list_any (λ x. f.answer x.0) (pairs s))
machine_of (event.RelPlus e) =
    made (Chained (e.first ∷ []))
    (λ m s. let set = next_started e m (started s) in Chained (with_first (list_any e.answer set) (joined tree_cmp e.first) set))
    (λ s. list_any e.answer (started s))
machine_of (event.Pipe e f) =
    made (Flag e.first f.first false)
    (λ m s. let x = e.next m (left s) in let y = f.next m (right s) in cond (e.answer x) (Flag x y (f.answer y)) (Flag x (right s) false))
    bit
machine_of (event.FaAbs e f g) =
    made (Waiting e.first g.first [])
    (λ m s. next_both e g m s (λ x y. Waiting x y (with_first (e.answer x) (joined tree_cmp f.first) (next_waiting f m (g.answer y) (started s)))))
    (λ s. list_any f.answer (started s))
machine_of (event.Masked e mask) =
    made (Masked e.first false) (λ m s. Masked (e.next m (left s)) (m (OfEvent mask))) (λ s. e.answer (left s) && bit s)

unfoldable pub machine : EventExpr → TreeMachine
machine = fold-EventExpr TreeMachine machine_of

abbrev pub first_tree : EventExpr → StateTree
first_tree e = (machine e).first

abbrev pub next_tree : EventExpr → Mark → StateTree → StateTree
next_tree e = (machine e).next

abbrev pub answers : EventExpr → StateTree → Bool
answers e = (machine e).answer

-- the tree after a history
abbrev pub tree_after : EventExpr → List Mark → StateTree
tree_after e m = fold (λ s mark. next_tree e mark s) (first_tree e) m
