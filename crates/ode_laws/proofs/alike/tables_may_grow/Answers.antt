use Rattle.ode_laws.proofs.AlikeTables.{alike_by}
use Rattle.ode_laws.proofs.alike.tables_may_grow.Goals as goal

pub returns : goal.returns
returns c = alike_by
