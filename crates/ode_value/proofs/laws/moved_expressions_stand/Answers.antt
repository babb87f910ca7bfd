use Rattle.ode_value.proofs.MovingLaws.{plain-stays, moved-alike}
use Rattle.ode_value.proofs.laws.moved_expressions_stand.Goals as goal

pub returns-clause-value : goal.returns-clause-value
returns-clause-value c = λ new at x slots. plain-stays at new slots x

pub returns-clause-same : goal.returns-clause-same
returns-clause-same c = moved-alike
