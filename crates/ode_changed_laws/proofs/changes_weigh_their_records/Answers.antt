use Rattle.ode_changed_laws.proofs.Weighing.{changes-weigh}
use Rattle.ode_changed_laws.proofs.changes_weigh_their_records.Goals as goal

pub returns : goal.returns
returns c = changes-weigh
