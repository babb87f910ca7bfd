use Rattle.ode_declared_laws.proofs.Weighing.{class_weighs}
use Rattle.ode_declared_laws.proofs.classes_weigh_their_records.Goals as goal

pub returns : goal.returns
returns c = class_weighs
