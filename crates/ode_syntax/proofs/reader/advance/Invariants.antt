use Rattle.std.proofs.Common.{◌≡◌, length}
use Rattle.ode_grammar.specs.Reading.{next, made_after}
use Rattle.ode_syntax.specs.Trees.{trees}
use Rattle.ode_syntax.proofs.reader.advance.Given as goal

-- what may come behind the token is the same, and what is made
abbrev pub invariant-loop-item : goal.invariant-loop-item
invariant-loop-item l = record {
  next : next l.items l.terminal ≡ next l.fn.items l.terminal;
  made : made_after trees l.items l.made (record { terminal = l.terminal; kind = l.kind; bytes = l.bytes })
      ≡ made_after trees l.fn.items l.fn.made (record { terminal = l.terminal; kind = l.kind; bytes = l.bytes });
}

abbrev pub decreases-loop-item : goal.decreases-loop-item
decreases-loop-item l = length l.items
