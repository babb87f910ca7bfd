use Rattle.std.proofs.Common.{◌≡◌, length}
use Rattle.ode_grammar.specs.Reading.{next, made_after}
use Rattle.ode_heights.specs.Heights.{heights}
use Rattle.ode_heights.specs.Lowest.{lowest}
use Rattle.ode_heights.proofs.deep.advance.Given as goal

abbrev pub invariant-loop-item : goal.invariant-loop-item
invariant-loop-item l = record {
  next : next l.items l.token ≡ next l.fn.items l.token;
  made : made_after heights l.items l.made l.token ≡ made_after heights l.fn.items l.fn.made l.token;
  low : lowest l.items l.made ≡ lowest l.fn.items l.fn.made;
}

abbrev pub decreases-loop-item : goal.decreases-loop-item
decreases-loop-item l = length l.items
