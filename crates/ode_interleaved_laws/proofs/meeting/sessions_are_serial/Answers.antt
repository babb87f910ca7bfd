use Rattle.ode_interleaved_laws.proofs.FinishLaws.{finish_serial}
use Rattle.ode_interleaved_laws.proofs.SerialLaws.{is_serial}
use Rattle.ode_interleaved_laws.proofs.meeting.sessions_are_serial.Goals as goal

pub returns-clause-step : goal.returns-clause-step
returns-clause-step c m n s now first settled is e = is_serial m is n s now first settled e

pub returns-clause-finish : goal.returns-clause-finish
returns-clause-finish c m is = finish_serial m.sessions m is
