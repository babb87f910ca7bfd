use Rattle.ode_standby.proofs.NextLaws.{next_course}
use Rattle.ode_standby.proofs.PieceLaws.{stops_join, taken_join}
use Rattle.ode_standby.proofs.laws.pieces_are_one_stream.Goals as goal

pub returns-clause-taken : goal.returns-clause-taken
returns-clause-taken call = λ most c d e came rest piece left taken next. taken_join most c d came rest piece taken e left next

pub returns-clause-stopped : goal.returns-clause-stopped
returns-clause-stopped call = λ most c d e came rest piece error taken stopped. stops_join most c d came rest piece taken e error stopped

pub returns-clause-next : goal.returns-clause-next
returns-clause-next call = λ most c d bytes rest known taken. next_course most c d taken.frames taken.split.form known taken.ends
