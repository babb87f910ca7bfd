use Rattle.ode_value.proofs.PastLaws.{begin_stands, step_stands, whole_stands, back_stands}
use Rattle.ode_value.proofs.laws.numbers_stand_for_views.Goals as goal

pub returns-clause-first : goal.returns-clause-first
returns-clause-first c = begin_stands

pub returns-clause-point : goal.returns-clause-point
returns-clause-point c = step_stands

pub returns-clause-whole_point : goal.returns-clause-whole_point
returns-clause-whole_point c = whole_stands

pub returns-clause-abort : goal.returns-clause-abort
returns-clause-abort c = back_stands
