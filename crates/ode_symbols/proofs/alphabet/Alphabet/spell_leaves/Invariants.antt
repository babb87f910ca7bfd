use Rattle.std.proofs.Common.{◌≡◌, ◌++◌, map, take}
use Rattle.ode_value.specs.Marks.{Leaf, OfLeaf}
use Rattle.ode_value.specs.Symbols.{mark_among}
use Rattle.ode_symbols.proofs.alphabet.Alphabet.spell_leaves.Given as goal

-- the leaves so far
abbrev pub invariant-loop-leaf : goal.invariant-loop-leaf
invariant-loop-leaf l = l.mark ≡ l.initial.mark ++ map (λ (x : Leaf). mark_among l.self l.symbol (OfLeaf x.0 x.1)) (take l.leaf-index l.leaf-items)
