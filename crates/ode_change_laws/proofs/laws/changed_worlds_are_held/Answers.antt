use Rattle.ode_change_laws.proofs.HeldStill.{holds-anew}
use Rattle.ode_change_laws.proofs.laws.changed_worlds_are_held.Goals as goal

pub returns : goal.returns
returns c = holds-anew
