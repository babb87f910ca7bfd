-- The numbers of each form of tree, as clauses name it.
use Rattle.std.proofs.Common.{◌≡◌, ℕ, Bool, List, [], ◌∷◌, ◌++◌, append_assoc, length, map, refl, ap, sym, ◌∙◌}
use Rattle.std.specs.Prelude.{flat_map}
use Rattle.std.proofs.lemmas.List.{append-nil, length-map}
use Rattle.ode_value.specs.declared.tree.StateTree.{StateTree, roll-StateTree, fold-roll-StateTree, map-StateTree, the_lemmas}
use Rattle.ode_value.specs.declared.tree.StateTree.TheOpen as level
use Rattle.ode_value.specs.declared.tree.StateTree.TheVariants as tree
use Rattle.ode_trees.specs.Codes.{bit_number, code_of, code, pair_code}

code-roll : (d : level.StateTree-F StateTree) → code (roll-StateTree d) ≡ code_of (map-StateTree StateTree (List ℕ) code d)
unfolding code
code-roll d = fold-roll-StateTree (List ℕ) code_of d

pub code-Bit : (b : Bool) → code (tree.Bit b) ≡ 0 ∷ bit_number b ∷ []
code-Bit b = ap code (sym (tree.rolls-Bit b)) ∙ code-roll (level.Bit b)

pub code-Place : (n : ℕ) → code (tree.Place n) ≡ 1 ∷ n ∷ []
code-Place n = ap code (sym (tree.rolls-Place n)) ∙ code-roll (level.Place n)

pub code-Seen : (b : Bool) (e : StateTree) → code (tree.Seen b e) ≡ 2 ∷ bit_number b ∷ code e
code-Seen b e = ap code (sym (tree.rolls-Seen b e)) ∙ code-roll (level.Seen b e)

pub code-Both : (e f : StateTree) → code (tree.Both e f) ≡ 3 ∷ 0 ∷ (code e ++ code f)
code-Both e f = ap code (sym (tree.rolls-Both e f)) ∙ code-roll (level.Both e f)

pub code-Flag : (e f : StateTree) (b : Bool) → code (tree.Flag e f b) ≡ 4 ∷ bit_number b ∷ (code e ++ code f)
code-Flag e f b = ap code (sym (tree.rolls-Flag e f b)) ∙ code-roll (level.Flag e f b)

pub code-Count : (e : StateTree) (n : ℕ) → code (tree.Count e n) ≡ 5 ∷ n ∷ code e
code-Count e n = ap code (sym (tree.rolls-Count e n)) ∙ code-roll (level.Count e n)

pub codes-each : (set : List StateTree) → flat_map (λ x. x) (map code set) ≡ flat_map code set
codes-each [] = refl
codes-each (s ∷ set) = ap (λ l. code s ++ l) (codes-each set)

codes-pairs : (set : List (StateTree × StateTree)) → flat_map (λ (x : List ℕ × List ℕ). x.0 ++ x.1) (map (λ (x : StateTree × StateTree). (code x.0, code x.1)) set) ≡ flat_map pair_code set
codes-pairs [] = refl
codes-pairs (x ∷ set) = ap (λ l. (code x.0 ++ code x.1) ++ l) (codes-pairs set)

pub code-Started : (e : StateTree) (set : List StateTree) → code (tree.Started e set) ≡ 6 ∷ length set ∷ (code e ++ flat_map code set)
code-Started e set =
    ap code (sym (tree.rolls-Started e set)) ∙ code-roll (level.Started e set)
    ∙ (λ i. 6 ∷ length-map set code i ∷ (code e ++ codes-each set i))

pub code-Pairs : (e : StateTree) (set : List (StateTree × StateTree)) → code (tree.Pairs e set) ≡ 7 ∷ length set ∷ (code e ++ flat_map pair_code set)
code-Pairs e set =
    ap code (sym (tree.rolls-Pairs e set)) ∙ code-roll (level.Pairs e set)
    ∙ (λ i. 7 ∷ length-map {B = List ℕ × List ℕ} set (λ (x : StateTree × StateTree). (code x.0, code x.1)) i ∷ (code e ++ codes-pairs set i))

pub code-Chained : (set : List StateTree) → code (tree.Chained set) ≡ 8 ∷ length set ∷ flat_map code set
code-Chained set =
    ap code (sym (tree.rolls-Chained set)) ∙ code-roll (level.Chained set)
    ∙ (λ i. 8 ∷ length-map set code i ∷ codes-each set i)

pub code-Waiting : (e f : StateTree) (set : List StateTree) → code (tree.Waiting e f set) ≡ 9 ∷ length set ∷ (code e ++ (code f ++ flat_map code set))
code-Waiting e f set =
    ap code (sym (tree.rolls-Waiting e f set)) ∙ code-roll (level.Waiting e f set)
    ∙ (λ i. 9 ∷ length-map set code i ∷ (code e ++ (code f ++ codes-each set i)))

pub code-Masked : (e : StateTree) (b : Bool) → code (tree.Masked e b) ≡ 10 ∷ bit_number b ∷ code e
code-Masked e b = ap code (sym (tree.rolls-Masked e b)) ∙ code-roll (level.Masked e b)

pub ruleset codes = (the_lemmas, append_assoc, append-nil, code-Bit, code-Place, code-Seen, code-Both, code-Flag, code-Count, code-Started, code-Pairs, code-Chained, code-Waiting, code-Masked)
