use Rattle.ode_overlay_laws.proofs.ObjectLaws.{removed}
use Rattle.ode_overlay_laws.proofs.objects.removals_follow.Goals as goal

pub returns : goal.returns
returns c = removed
