use Rattle.ode_laws.proofs.AlikeSettling.{begun_runs, next_runs, statements_run, touches_run, points_run, firings_run, completions_run}
use Rattle.ode_laws.proofs.alike.acts_run_alike.Goals as goal

pub returns-clause-begun : goal.returns-clause-begun
returns-clause-begun c = begun_runs

pub returns-clause-next : goal.returns-clause-next
returns-clause-next c tables a f b g are more = next_runs tables a b are f g more

pub returns-clause-statement : goal.returns-clause-statement
returns-clause-statement c = statements_run

pub returns-clause-touch : goal.returns-clause-touch
returns-clause-touch c = touches_run

pub returns-clause-point : goal.returns-clause-point
returns-clause-point c = points_run

pub returns-clause-firing : goal.returns-clause-firing
returns-clause-firing c = firings_run

pub returns-clause-completion : goal.returns-clause-completion
returns-clause-completion c = completions_run
