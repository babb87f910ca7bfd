use Rattle.std.proofs.Common.{◌≡◌, ◌++◌, drop}
use Rattle.ode_dump.specs.Order.{joined}
use Rattle.ode_dump.proofs.order.put_all.Given as goal

abbrev pub invariant-loop-line : goal.invariant-loop-line
invariant-loop-line l = l.text.items ++ joined (drop l.line-index l.lines) ≡ l.fn.text.items ++ joined l.lines
