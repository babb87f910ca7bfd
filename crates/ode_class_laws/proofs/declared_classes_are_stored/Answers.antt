use Rattle.ode_class_laws.proofs.StoredLaws.{class_stored, own_is}
use Rattle.ode_class_laws.proofs.declared_classes_are_stored.Goals as goal

pub returns-clause-own : goal.returns-clause-own
returns-clause-own c = own_is

pub returns-clause-rows : goal.returns-clause-rows
returns-clause-rows c = class_stored
