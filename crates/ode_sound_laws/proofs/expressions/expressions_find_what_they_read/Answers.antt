use Rattle.ode_sound_laws.proofs.FaultLaws.{nulls_alone}
use Rattle.ode_sound_laws.proofs.expressions.expressions_find_what_they_read.Goals as goal

pub returns : goal.returns
returns c b at frame h e s typed is = nulls_alone e b at frame h s typed is
