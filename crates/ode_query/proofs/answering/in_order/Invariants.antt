use Rattle.std.proofs.Common.{◌≡◌, List, map}
use Rattle.ode_query.proofs.answering.in_order.Given as goal
use Rattle.ode_query.specs.declared.row.Row.{Row}
use Rattle.ode_value.specs.declared.value.Value.{Value}

abbrev pub invariant-loop-row : goal.invariant-loop-row
invariant-loop-row l = l.ordered ≡ map (λ (r : List Value × Row). r.1) l.yielded
