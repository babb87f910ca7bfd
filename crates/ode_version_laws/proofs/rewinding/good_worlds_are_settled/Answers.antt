use Rattle.ode_version_laws.proofs.SettledLaws.{settled_law, versions_law}
use Rattle.ode_version_laws.proofs.rewinding.good_worlds_are_settled.Goals as goal

pub returns-clause-settled : goal.returns-clause-settled
returns-clause-settled c = settled_law

pub returns-clause-versions : goal.returns-clause-versions
returns-clause-versions c = versions_law
