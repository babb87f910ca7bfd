use Rattle.std.proofs.Common.{refl}
use Rattle.ode_value.specs.Limits.{change_limit, value_limit}
use Rattle.ode_value.proofs.machine.changes_are_tested_in_order.Goals as goal

pub returns-clause-size : goal.returns-clause-size
unfolding value_limit
returns-clause-size c x = refl

pub returns-clause-space : goal.returns-clause-space
unfolding change_limit value_limit
returns-clause-space c w = refl
