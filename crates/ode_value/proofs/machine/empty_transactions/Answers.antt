use Rattle.std.proofs.Common.{refl}
use Rattle.ode_value.specs.Completing.{completes, tests_all, weighs, goes_round}
use Rattle.ode_value.specs.Draining.{drain}
use Rattle.ode_value.specs.Limits.{budget_limit, cascade_limit}
use Rattle.ode_value.specs.Settling.{posted, transaction}
use Rattle.ode_value.specs.Weights.{weight}
use Rattle.ode_value.proofs.machine.empty_transactions.Goals as goal

pub returns-clause-settled : goal.returns-clause-settled
unfolding transaction posted completes tests_all weighs goes_round weight budget_limit cascade_limit
returns-clause-settled c = refl

pub returns-clause-drained : goal.returns-clause-drained
unfolding drain
returns-clause-drained c = refl
