use Rattle.ode_change_laws.proofs.MovedTables.{fires-moved}
use Rattle.ode_change_laws.proofs.laws.moved_events_fire.Goals as goal

pub returns : goal.returns
returns c = fires-moved
