use Rattle.ode_change_laws.proofs.RowsStill.{rows-still}
use Rattle.ode_change_laws.proofs.laws.changed_worlds_keep_records.Goals as goal

pub returns : goal.returns
returns c = rows-still
