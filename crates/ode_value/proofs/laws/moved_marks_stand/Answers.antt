use Rattle.ode_value.proofs.MovedMarks.{symbols-spelled, points-spelled}
use Rattle.ode_value.proofs.laws.moved_marks_stand.Goals as goal

pub returns-clause-symbol : goal.returns-clause-symbol
returns-clause-symbol c = symbols-spelled

pub returns-clause-point : goal.returns-clause-point
returns-clause-point c = points-spelled
