use Rattle.ode_arising_laws.proofs.GoingLaws.{initial_taken, named_taken}
use Rattle.ode_arising_laws.proofs.triggers_are_taken.Goals as goal

pub returns-clause-named : goal.returns-clause-named
returns-clause-named c = named_taken

pub returns-clause-initial : goal.returns-clause-initial
returns-clause-initial c = initial_taken
