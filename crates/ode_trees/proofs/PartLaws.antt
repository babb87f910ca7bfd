-- The parts of a tree of each form.
use Rattle.std.proofs.Common.{◌≡◌, ℕ, Bool, List, ap}
use Rattle.ode_value.specs.declared.tree.StateTree.{StateTree}
use Rattle.ode_value.specs.declared.tree.StateTree.TheVariants as tree
use Rattle.ode_value.specs.Trees.{left_of, right_of, bit_of, count_of, started_of, pairs_of, pairs, left, right, bit, count, started}

pub left-Seen : (b : Bool) (e : StateTree) → left (tree.Seen b e) ≡ e
unfolding left
left-Seen b e = ap (left_of (tree.Seen b e)) (tree.outs-Seen b e)

pub bit-Seen : (b : Bool) (e : StateTree) → bit (tree.Seen b e) ≡ b
unfolding bit
bit-Seen b e = ap bit_of (tree.outs-Seen b e)

pub left-Both : (e f : StateTree) → left (tree.Both e f) ≡ e
unfolding left
left-Both e f = ap (left_of (tree.Both e f)) (tree.outs-Both e f)

pub right-Both : (e f : StateTree) → right (tree.Both e f) ≡ f
unfolding right
right-Both e f = ap (right_of (tree.Both e f)) (tree.outs-Both e f)

pub left-Flag : (e f : StateTree) (b : Bool) → left (tree.Flag e f b) ≡ e
unfolding left
left-Flag e f b = ap (left_of (tree.Flag e f b)) (tree.outs-Flag e f b)

pub right-Flag : (e f : StateTree) (b : Bool) → right (tree.Flag e f b) ≡ f
unfolding right
right-Flag e f b = ap (right_of (tree.Flag e f b)) (tree.outs-Flag e f b)

pub bit-Flag : (e f : StateTree) (b : Bool) → bit (tree.Flag e f b) ≡ b
unfolding bit
bit-Flag e f b = ap bit_of (tree.outs-Flag e f b)

pub left-Count : (e : StateTree) (c : ℕ) → left (tree.Count e c) ≡ e
unfolding left
left-Count e c = ap (left_of (tree.Count e c)) (tree.outs-Count e c)

pub count-Count : (e : StateTree) (c : ℕ) → count (tree.Count e c) ≡ c
unfolding count
count-Count e c = ap count_of (tree.outs-Count e c)

pub bit-Bit : (b : Bool) → bit (tree.Bit b) ≡ b
unfolding bit
bit-Bit b = ap bit_of (tree.outs-Bit b)

pub count-Place : (c : ℕ) → count (tree.Place c) ≡ c
unfolding count
count-Place c = ap count_of (tree.outs-Place c)

pub left-Started : (e : StateTree) (set : List StateTree) → left (tree.Started e set) ≡ e
unfolding left
left-Started e set = ap (left_of (tree.Started e set)) (tree.outs-Started e set)

pub started-Started : (e : StateTree) (set : List StateTree) → started (tree.Started e set) ≡ set
unfolding started
started-Started e set = ap started_of (tree.outs-Started e set)

pub left-Pairs : (e : StateTree) (set : List (StateTree × StateTree)) → left (tree.Pairs e set) ≡ e
unfolding left
left-Pairs e set = ap (left_of (tree.Pairs e set)) (tree.outs-Pairs e set)

pub pairs-Pairs : (e : StateTree) (set : List (StateTree × StateTree)) → pairs (tree.Pairs e set) ≡ set
unfolding pairs
pairs-Pairs e set = ap pairs_of (tree.outs-Pairs e set)

pub started-Chained : (set : List StateTree) → started (tree.Chained set) ≡ set
unfolding started
started-Chained set = ap started_of (tree.outs-Chained set)

pub left-Waiting : (e g : StateTree) (set : List StateTree) → left (tree.Waiting e g set) ≡ e
unfolding left
left-Waiting e g set = ap (left_of (tree.Waiting e g set)) (tree.outs-Waiting e g set)

pub right-Waiting : (e g : StateTree) (set : List StateTree) → right (tree.Waiting e g set) ≡ g
unfolding right
right-Waiting e g set = ap (right_of (tree.Waiting e g set)) (tree.outs-Waiting e g set)

pub started-Waiting : (e g : StateTree) (set : List StateTree) → started (tree.Waiting e g set) ≡ set
unfolding started
started-Waiting e g set = ap started_of (tree.outs-Waiting e g set)

pub left-Masked : (e : StateTree) (b : Bool) → left (tree.Masked e b) ≡ e
unfolding left
left-Masked e b = ap (left_of (tree.Masked e b)) (tree.outs-Masked e b)

pub bit-Masked : (e : StateTree) (b : Bool) → bit (tree.Masked e b) ≡ b
unfolding bit
bit-Masked e b = ap bit_of (tree.outs-Masked e b)
