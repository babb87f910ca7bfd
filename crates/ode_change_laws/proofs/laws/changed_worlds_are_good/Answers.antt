use Rattle.ode_change_laws.proofs.GoodStill.{good-anew}
use Rattle.ode_change_laws.proofs.laws.changed_worlds_are_good.Goals as goal

pub returns : goal.returns
returns c = good-anew
