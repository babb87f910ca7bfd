use Rattle.ode_sound_laws.proofs.ExprLaws.{expr_fits}
use Rattle.ode_sound_laws.proofs.expressions.expressions_fit.Goals as goal

pub returns : goal.returns
returns c b at frame h e s typed v is = expr_fits e b at frame h s typed v is
