use Rattle.ode_change_laws.proofs.WeighsStill.{weighs-anew}
use Rattle.ode_change_laws.proofs.laws.changed_worlds_weigh_more.Goals as goal

pub returns : goal.returns
returns c = weighs-anew
