use Rattle.ode_object_laws.proofs.TriggerLaws.{good_triggers}
use Rattle.ode_object_laws.proofs.good_worlds_have_triggers.Goals as goal

pub returns : goal.returns
returns c = good_triggers
