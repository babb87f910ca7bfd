use Rattle.ode_view_laws.proofs.ActLaws.{remove_shows}
use Rattle.ode_view_laws.proofs.objects.removals_show.Goals as goal

pub returns : goal.returns
returns c = remove_shows
