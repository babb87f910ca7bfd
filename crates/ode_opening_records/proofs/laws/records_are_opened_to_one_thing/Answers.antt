use Rattle.ode_opening_records.proofs.Once.{one_thing}
use Rattle.ode_opening_records.proofs.laws.records_are_opened_to_one_thing.Goals as goal

pub returns : goal.returns
returns c = λ first l entries opened other one two. one_thing c.tables_come_to_one_thing.ensures first l entries opened other one two
