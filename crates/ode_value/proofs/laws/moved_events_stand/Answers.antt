use Rattle.ode_value.proofs.MovedEvents.{count-stays, symbol-stays}
use Rattle.ode_value.proofs.laws.moved_events_stand.Goals as goal

pub returns-clause-count : goal.returns-clause-count
returns-clause-count c = count-stays

pub returns-clause-symbol : goal.returns-clause-symbol
returns-clause-symbol c = symbol-stays
