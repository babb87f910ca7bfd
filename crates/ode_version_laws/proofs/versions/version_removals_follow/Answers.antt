use Rattle.ode_version_laws.proofs.DropLaws.{drops_law}
use Rattle.ode_version_laws.proofs.versions.version_removals_follow.Goals as goal

pub returns : goal.returns
returns c = drops_law
