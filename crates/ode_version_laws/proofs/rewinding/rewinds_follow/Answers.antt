use Rattle.ode_version_laws.proofs.RewindLaws.{remembers_law, rewinds_law}
use Rattle.ode_version_laws.proofs.RewoundVersions.{rewound_versions}
use Rattle.ode_version_laws.proofs.rewinding.rewinds_follow.Goals as goal

pub returns-clause-stands : goal.returns-clause-stands
returns-clause-stands c = rewinds_law

pub returns-clause-remembers : goal.returns-clause-remembers
returns-clause-remembers c = remembers_law

pub returns-clause-versions : goal.returns-clause-versions
returns-clause-versions c = rewound_versions
