use Rattle.ode_areas.proofs.Above.{rows_above}
use Rattle.ode_areas.proofs.keeping.AreasKeep.rows_from.Goals as goal

pub returns-clause-above : goal.returns-clause-above
returns-clause-above g c = rows_above c.in_ok-rows_from.field-0 c.args.self.now.map c.args.key c.in_ok-rows_from.ensures
