use Rattle.std.proofs.Common.{◌≡◌, Some, take, map}
use Rattle.ode_grammar.specs.Grammar.{items_of}
use Rattle.ode_grammar.specs.Reading.{run}
use Rattle.ode_syntax.specs.Kept.{spelled}
use Rattle.ode_syntax.specs.Trees.{trees, no_trees}
use Rattle.ode_syntax.proofs.reader.read_into.Given as goal

-- what is made of the tokens so far
abbrev pub invariant-loop-at : goal.invariant-loop-at
invariant-loop-at l =
    run trees (items_of l.fn.start) no_trees (take l.at (map (spelled l.fn.place l.fn.text) l.fn.tokens)) ≡ Some (l.items, l.made)
