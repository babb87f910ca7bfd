use Rattle.ode_formed_laws.proofs.FormedLaws.{formed_begun}
use Rattle.ode_formed_laws.proofs.overlays_begin_formed.Goals as goal

pub returns : goal.returns
returns c = formed_begun
