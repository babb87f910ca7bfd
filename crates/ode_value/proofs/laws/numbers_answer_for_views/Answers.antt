use Rattle.ode_value.proofs.PastLaws.{step_fires, whole_fires}
use Rattle.ode_value.proofs.laws.numbers_answer_for_views.Goals as goal

pub returns-clause-point : goal.returns-clause-point
returns-clause-point c = step_fires

pub returns-clause-whole_point : goal.returns-clause-whole_point
returns-clause-whole_point c tables w means is h start state p = whole_fires tables w means h start state p is
