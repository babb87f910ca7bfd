use Rattle.ode_view_laws.proofs.ActLaws.{create_shows}
use Rattle.ode_view_laws.proofs.objects.makings_show.Goals as goal

pub returns : goal.returns
returns c = create_shows
