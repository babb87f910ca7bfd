use Rattle.std.proofs.Common.{◌≡◌, ◌++◌, drop}
use Rattle.ode_dump.specs.Order.{joined, of_kind}
use Rattle.ode_dump.proofs.order.put_kind.Given as goal

abbrev pub invariant-loop-line : goal.invariant-loop-line
invariant-loop-line l = l.text.items ++ joined (of_kind l.kind (drop l.line-index l.lines)) ≡ l.fn.text.items ++ joined (of_kind l.kind l.lines)
