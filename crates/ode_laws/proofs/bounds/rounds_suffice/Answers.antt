use Rattle.ode_value.specs.Pasts.{lists, numbers}
use Rattle.ode_laws.proofs.BoundLaws as laws
use Rattle.ode_laws.proofs.bounds.rounds_suffice.Goals as goal

pub returns-clause-lists : goal.returns-clause-lists
returns-clause-lists c = laws.rounds_suffice lists

pub returns-clause-numbers : goal.returns-clause-numbers
returns-clause-numbers c tables = laws.rounds_suffice (numbers tables)
