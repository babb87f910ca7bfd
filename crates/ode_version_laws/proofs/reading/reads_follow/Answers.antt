use Rattle.ode_version_laws.proofs.ReadLaws.{fields_law, heads_law, numbers_law}
use Rattle.ode_version_laws.proofs.reading.reads_follow.Goals as goal

pub returns-clause-object : goal.returns-clause-object
returns-clause-object c = heads_law

pub returns-clause-number : goal.returns-clause-number
returns-clause-number c = numbers_law

pub returns-clause-field : goal.returns-clause-field
returns-clause-field c = fields_law
