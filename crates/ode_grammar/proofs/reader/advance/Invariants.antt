use Rattle.std.proofs.Common.{◌≡◌, length}
use Rattle.ode_grammar.specs.Reading.{next, may_stop}
use Rattle.ode_grammar.proofs.reader.advance.Given as goal

-- what may come behind the token is the same, and whether it may stop
abbrev pub invariant-loop-item : goal.invariant-loop-item
invariant-loop-item l = record {
  next : next l.items l.token ≡ next l.fn.items l.token;
  stop : may_stop l.items ≡ may_stop l.fn.items;
}

abbrev pub decreases-loop-item : goal.decreases-loop-item
decreases-loop-item l = length l.items
