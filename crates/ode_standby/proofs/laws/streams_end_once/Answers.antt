use Rattle.ode_standby.proofs.Endings.{one_ending}
use Rattle.ode_standby.proofs.laws.streams_end_once.Goals as goal

pub returns : goal.returns
returns call = one_ending
