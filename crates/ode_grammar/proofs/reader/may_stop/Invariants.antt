use Rattle.std.proofs.Common.{◌≡◌, length}
use Rattle.ode_grammar.specs.Reading.{may_stop}
use Rattle.ode_grammar.proofs.reader.may_stop.Given as goal

abbrev pub invariant-loop-item : goal.invariant-loop-item
invariant-loop-item l = may_stop l.items ≡ may_stop l.fn.items

abbrev pub decreases-loop-item : goal.decreases-loop-item
decreases-loop-item l = length l.items
