use Rattle.ode_version_laws.proofs.GrowthLaws.{before_law}
use Rattle.ode_version_laws.proofs.growing.changed_objects_weighed_less.Goals as goal

pub returns : goal.returns
returns c = before_law
