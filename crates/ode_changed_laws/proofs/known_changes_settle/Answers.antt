use Rattle.ode_changed_laws.proofs.SettledChanges.{changes-settle}
use Rattle.ode_changed_laws.proofs.known_changes_settle.Goals as goal

pub returns : goal.returns
returns c = changes-settle
