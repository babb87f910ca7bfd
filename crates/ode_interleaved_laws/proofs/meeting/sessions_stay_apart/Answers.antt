use Rattle.ode_interleaved_laws.proofs.FinishLaws.{finish_well}
use Rattle.ode_interleaved_laws.proofs.GoingLaws.{none_open}
use Rattle.ode_interleaved_laws.proofs.StepLaws.{less_left, place_open, stays_apart}
use Rattle.ode_interleaved_laws.proofs.meeting.sessions_stay_apart.Goals as goal

pub returns-clause-start : goal.returns-clause-start
returns-clause-start c = none_open

pub returns-clause-step : goal.returns-clause-step
returns-clause-step c m n s now settled is text e = stays_apart m is n s now settled text e

pub returns-clause-finish : goal.returns-clause-finish
returns-clause-finish c m is = finish_well m.sessions m is

pub returns-clause-numbers : goal.returns-clause-numbers
returns-clause-numbers c m n o is e = less_left m is n (place_open m is n o e)
