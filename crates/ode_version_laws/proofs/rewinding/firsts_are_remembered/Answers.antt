use Rattle.ode_version_laws.proofs.RememberLaws.{changed_law, read_law, remembers_none}
use Rattle.ode_version_laws.proofs.rewinding.firsts_are_remembered.Goals as goal

pub returns-clause-begun : goal.returns-clause-begun
returns-clause-begun c = remembers_none

pub returns-clause-changed : goal.returns-clause-changed
returns-clause-changed c = changed_law

pub returns-clause-read : goal.returns-clause-read
returns-clause-read c = read_law
