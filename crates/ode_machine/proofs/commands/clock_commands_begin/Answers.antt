use Rattle.std.proofs.Common.{refl}
use Rattle.ode_value.specs.Completing.{completes, tests_all, weighs, goes_round}
use Rattle.ode_value.specs.Draining.{drain}
use Rattle.ode_value.specs.Limits.{budget_limit, cascade_limit, drain_limit}
use Rattle.ode_value.specs.Settling.{posted, transaction}
use Rattle.ode_value.specs.Weights.{weight}
use Rattle.ode_machine.proofs.commands.clock_commands_begin.Goals as goal

pub returns-clause-moves : goal.returns-clause-moves
unfolding transaction posted completes tests_all weighs goes_round weight budget_limit cascade_limit drain drain_limit
returns-clause-moves c t = refl
