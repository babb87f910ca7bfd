use Rattle.ode_view_laws.proofs.ActLaws.{touch_shows}
use Rattle.ode_view_laws.proofs.objects.touches_show.Goals as goal

pub returns : goal.returns
returns c = touch_shows
