use Rattle.ode_opening_tables.proofs.StoredOnce.{stored_once}
use Rattle.ode_opening_tables.proofs.laws.one_table_is_stored.Goals as goal

pub returns : goal.returns
returns c = λ entries class place t u one whole other complete. stored_once entries class place t u one whole other complete
