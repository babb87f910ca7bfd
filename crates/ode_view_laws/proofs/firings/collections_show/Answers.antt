use Rattle.ode_view_laws.proofs.ActLaws.{collect_shows}
use Rattle.ode_view_laws.proofs.firings.collections_show.Goals as goal

pub returns : goal.returns
returns c = collect_shows
