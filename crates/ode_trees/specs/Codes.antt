-- Numbers that stand for a tree: those of equal trees are equal.
use Rattle.std.specs.Prelude.{ℕ, Bool, cond, List, [], ◌∷◌, ◌++◌, length, flat_map}
use Rattle.ode_value.specs.declared.tree.StateTree.{StateTree, fold-StateTree}
use Rattle.ode_value.specs.declared.tree.StateTree.TheOpen as level

abbrev pub bit_number : Bool → ℕ
bit_number b = cond b 1 0

-- the form of its root, a bool or a number there, and the numbers of its parts
abbrev pub code_of : level.StateTree-F (List ℕ) → List ℕ
code_of (level.Bit b) = 0 ∷ bit_number b ∷ []
code_of (level.Place n) = 1 ∷ n ∷ []
code_of (level.Seen b e) = 2 ∷ bit_number b ∷ e
code_of (level.Both e f) = 3 ∷ 0 ∷ (e ++ f)
code_of (level.Flag e f b) = 4 ∷ bit_number b ∷ (e ++ f)
code_of (level.Count e n) = 5 ∷ n ∷ e
code_of (level.Started e set) = 6 ∷ length set ∷ (e ++ flat_map (λ x. x) set)
code_of (level.Pairs e set) = 7 ∷ length set ∷ (e ++ flat_map (λ x. x.0 ++ x.1) set)
code_of (level.Chained set) = 8 ∷ length set ∷ flat_map (λ x. x) set
code_of (level.Waiting e f set) = 9 ∷ length set ∷ (e ++ (f ++ flat_map (λ x. x) set))
code_of (level.Masked e b) = 10 ∷ bit_number b ∷ e

unfoldable pub code : StateTree → List ℕ
code = fold-StateTree (List ℕ) code_of

abbrev pub pair_code : StateTree × StateTree → List ℕ
pair_code x = code x.0 ++ code x.1
