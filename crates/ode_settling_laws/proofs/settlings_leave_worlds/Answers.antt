use Rattle.ode_settling_laws.proofs.SettledLaws.{settled_held}
use Rattle.ode_settling_laws.proofs.settlings_leave_worlds.Goals as goal

pub returns : goal.returns
returns c = settled_held
