use Rattle.std.proofs.Common.{◌≡◌, ◌++◌, map, take}
use Rattle.ode_value.specs.Marks.{OfEvent}
use Rattle.ode_value.specs.Symbols.{mark_among}
use Rattle.ode_symbols.proofs.alphabet.Alphabet.spell_masks.Given as goal

-- the masks so far
abbrev pub invariant-loop-mask : goal.invariant-loop-mask
invariant-loop-mask l = l.mark ≡ l.initial.mark ++ map (λ x. mark_among l.self l.symbol (OfEvent x)) (take l.mask-index l.mask-items)
