use Rattle.ode_interleaved_laws.proofs.FinishLaws.{one_may_end}
use Rattle.ode_interleaved_laws.proofs.meeting.endings_are_never_held_by_all.Goals as goal

pub returns : goal.returns
returns c m o more is are = one_may_end m is o more are
