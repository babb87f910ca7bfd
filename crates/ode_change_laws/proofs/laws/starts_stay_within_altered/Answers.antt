use Rattle.ode_change_laws.proofs.MovedTables.{within-altered}
use Rattle.ode_change_laws.proofs.laws.starts_stay_within_altered.Goals as goal

pub returns : goal.returns
returns c = within-altered
