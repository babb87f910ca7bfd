use Rattle.ode_change_laws.proofs.StandingStill.{stands-anew}
use Rattle.ode_change_laws.proofs.laws.changed_worlds_are_stood_for.Goals as goal

pub returns : goal.returns
returns c = stands-anew
