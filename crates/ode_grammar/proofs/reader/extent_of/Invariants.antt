use Rattle.std.proofs.Common.{◌≡◌, Some, take}
use Rattle.ode_grammar.specs.Grammar.{items_of}
use Rattle.ode_grammar.specs.Reading.{reached}
use Rattle.ode_grammar.proofs.reader.extent_of.Given as goal

-- what is still to come behind the tokens so far
abbrev pub invariant-loop-end : goal.invariant-loop-end
invariant-loop-end l = reached (items_of l.fn.start) (take l.end l.tokens) ≡ Some l.items
