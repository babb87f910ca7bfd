use Rattle.ode_laws.proofs.GoodNumbers.{good_numbered}
use Rattle.ode_laws.proofs.alike.good_worlds_are_numbered.Goals as goal

pub returns : goal.returns
returns c = good_numbered
