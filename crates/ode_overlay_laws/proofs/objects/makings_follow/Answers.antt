use Rattle.ode_overlay_laws.proofs.MakingLaws.{made_law}
use Rattle.ode_overlay_laws.proofs.objects.makings_follow.Goals as goal

pub returns : goal.returns
returns c = λ tables class fields x y stands fresh. made_law tables class fields x y stands fresh
