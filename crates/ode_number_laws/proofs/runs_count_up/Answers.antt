use Rattle.ode_number_laws.proofs.Steps.{run_counts}
use Rattle.ode_number_laws.proofs.runs_count_up.Goals as goal

pub returns : goal.returns
returns call = λ l w script. run_counts l w script
