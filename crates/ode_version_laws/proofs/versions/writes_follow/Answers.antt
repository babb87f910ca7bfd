use Rattle.ode_version_laws.proofs.WriteLaws.{writes_law}
use Rattle.ode_version_laws.proofs.versions.writes_follow.Goals as goal

pub returns : goal.returns
returns c = writes_law
