use Rattle.ode_change_laws.proofs.MovedTables.{means-moved}
use Rattle.ode_change_laws.proofs.laws.tables_mean_moved_events.Goals as goal

pub returns : goal.returns
returns c = means-moved
