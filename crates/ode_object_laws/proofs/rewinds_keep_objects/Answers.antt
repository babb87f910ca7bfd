use Rattle.ode_object_laws.proofs.FirstLaws.{left_numbers, left_triggers}
use Rattle.ode_object_laws.proofs.rewinds_keep_objects.Goals as goal

pub returns-clause-numbers : goal.returns-clause-numbers
returns-clause-numbers c = left_numbers

pub returns-clause-triggers : goal.returns-clause-triggers
returns-clause-triggers c = left_triggers
