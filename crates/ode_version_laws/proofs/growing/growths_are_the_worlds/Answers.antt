use Rattle.ode_version_laws.proofs.GrowthLaws.{grows_law}
use Rattle.ode_version_laws.proofs.growing.growths_are_the_worlds.Goals as goal

pub returns : goal.returns
returns c = grows_law
