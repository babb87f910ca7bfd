use Rattle.ode_run_laws.proofs.JoinLaws.{text_begins}
use Rattle.ode_run_laws.proofs.runs.texts_begin_with_earlier_ones.Goals as goal

pub returns : goal.returns
returns c = text_begins
