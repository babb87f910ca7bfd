use Rattle.ode_interleaved_laws.proofs.BusyLaws.{busy_is}
use Rattle.ode_interleaved_laws.proofs.meeting.holders_are_open.Goals as goal

pub returns : goal.returns
returns c m n other s what is e = busy_is m is n other s what e
