use Rattle.ode_overlay_laws.proofs.TouchLaws.{touched_law}
use Rattle.ode_overlay_laws.proofs.objects.touches_follow.Goals as goal

pub returns : goal.returns
returns c = touched_law
