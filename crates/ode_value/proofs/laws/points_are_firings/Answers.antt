use Rattle.ode_value.proofs.LocalPoints.{points-firing}
use Rattle.ode_value.proofs.laws.points_are_firings.Goals as goal

pub returns : goal.returns
returns c = points-firing
