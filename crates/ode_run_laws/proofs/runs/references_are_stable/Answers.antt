use Rattle.ode_run_laws.proofs.FollowRuns.{runs_stable, runs_ordered}
use Rattle.ode_run_laws.proofs.GoodOrders.{good_ordered}
use Rattle.ode_run_laws.proofs.runs.references_are_stable.Goals as goal

pub returns-clause-stable : goal.returns-clause-stable
returns-clause-stable c = runs_stable

pub returns-clause-ordered : goal.returns-clause-ordered
returns-clause-ordered c = runs_ordered

pub returns-clause-good : goal.returns-clause-good
returns-clause-good c = good_ordered
