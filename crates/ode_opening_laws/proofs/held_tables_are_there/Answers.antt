use Rattle.ode_opening_laws.proofs.There.{tables_are_there}
use Rattle.ode_opening_laws.proofs.held_tables_are_there.Goals as goal

pub returns : goal.returns
returns c = λ entries tables added ds held. tables_are_there entries tables added ds held
