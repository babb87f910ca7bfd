use Rattle.ode_queue_laws.proofs.StaysStable.{runs_stay_stable, runs_stay_ordered}
use Rattle.ode_queue_laws.proofs.stops.references_are_stable_over_stops.Goals as goal

pub returns-clause-stable : goal.returns-clause-stable
returns-clause-stable c = runs_stay_stable

pub returns-clause-ordered : goal.returns-clause-ordered
returns-clause-ordered c = runs_stay_ordered
