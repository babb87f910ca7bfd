use Rattle.ode_value.specs.Pasts.{lists}
use Rattle.ode_laws.proofs.BoundLaws.{begun_bounded, statements_bounded, completion_bounded}
use Rattle.ode_laws.proofs.bounds.transactions_stay_bounded.Goals as goal

pub returns-clause-begun : goal.returns-clause-begun
returns-clause-begun c = begun_bounded

pub returns-clause-statement : goal.returns-clause-statement
returns-clause-statement c = statements_bounded lists

pub returns-clause-completion : goal.returns-clause-completion
returns-clause-completion c = completion_bounded lists
