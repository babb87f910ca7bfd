use Rattle.ode_change_laws.proofs.MovedTables.{stands-altered}
use Rattle.ode_change_laws.proofs.laws.numbers_stand_for_altered_views.Goals as goal

pub returns : goal.returns
returns c tables w new at h start state = stands-altered new at tables w h start state
