use Rattle.ode_class_laws.proofs.HeldLaws.{class_held}
use Rattle.ode_class_laws.proofs.declared_classes_are_held.Goals as goal

pub returns : goal.returns
returns c = class_held
