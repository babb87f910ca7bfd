use Rattle.ode_overlay_laws.proofs.CollectLaws.{collects_law}
use Rattle.ode_overlay_laws.proofs.collecting.firings_are_collected.Goals as goal

pub returns : goal.returns
returns c = collects_law
