use Rattle.ode_version_laws.proofs.DeriveLaws.{derives_law}
use Rattle.ode_version_laws.proofs.versions.derivations_follow.Goals as goal

pub returns : goal.returns
returns c = derives_law
