use Rattle.std.proofs.Common.{sym}
use Rattle.ode_timer.proofs.DateLaws.{days_closed}
use Rattle.ode_timer.proofs.calendar.days_before.Goals as goal

pub returns-clause-value : goal.returns-clause-value
returns-clause-value c = sym (days_closed c.args.year)
