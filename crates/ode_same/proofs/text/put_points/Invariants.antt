use Rattle.std.proofs.Common.{◌≡◌, ◌++◌, drop}
use Rattle.ode_same.specs.Texts.{points_text}
use Rattle.ode_same.proofs.text.put_points.Given as goal

-- the points so far, and those of the rest of the word, are all
abbrev pub invariant-loop-symbol : goal.invariant-loop-symbol
invariant-loop-symbol l = l.out.items ++ points_text l.a (drop l.symbol-index l.word) ≡ l.fn.out.items ++ points_text l.a l.word
