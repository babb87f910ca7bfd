use Rattle.std.proofs.Common.{refl}
use Rattle.ode_value.specs.Limits.{change_limit, generation_limit, queue_limit}
use Rattle.ode_value.proofs.machine.dropped_firings.Goals as goal

pub returns-clause-dropped : goal.returns-clause-dropped
unfolding generation_limit
returns-clause-dropped c w f = refl

pub returns-clause-waits : goal.returns-clause-waits
unfolding generation_limit change_limit queue_limit
returns-clause-waits c f = refl
