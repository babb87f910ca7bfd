use Rattle.ode_instants.proofs.InstantTexts.{text_again}
use Rattle.ode_instants.proofs.laws.printed_instants_are_read.Goals as goal

pub returns : goal.returns
returns c = text_again
