use Rattle.std.proofs.Common.{◌≡◌, length}
use Rattle.ode_grammar.specs.Reading.{made_at_end}
use Rattle.ode_syntax.specs.Trees.{trees}
use Rattle.ode_syntax.proofs.reader.finish.Given as goal

abbrev pub invariant-loop-item : goal.invariant-loop-item
invariant-loop-item l = made_at_end trees l.items l.made ≡ made_at_end trees l.fn.items l.fn.made

abbrev pub decreases-loop-item : goal.decreases-loop-item
decreases-loop-item l = length l.items
