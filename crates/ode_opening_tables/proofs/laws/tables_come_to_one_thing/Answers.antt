use Rattle.ode_opening_tables.proofs.Once.{one_thing}
use Rattle.ode_opening_tables.proofs.laws.tables_come_to_one_thing.Goals as goal

pub returns : goal.returns
returns c = λ entries triggers found other one two. one_thing c.one_table_is_stored.ensures entries triggers found other one two
