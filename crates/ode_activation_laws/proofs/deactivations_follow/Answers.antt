use Rattle.ode_activation_laws.proofs.OffLaws.{went_off}
use Rattle.ode_activation_laws.proofs.deactivations_follow.Goals as goal

pub returns : goal.returns
returns c = went_off
