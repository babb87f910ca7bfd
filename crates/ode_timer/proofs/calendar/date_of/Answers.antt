use Rattle.ode_timer.proofs.DateLaws.{short_text}
use Rattle.ode_timer.proofs.calendar.date_of.Goals as goal

pub returns-then-text-ne-INSTANT_BYTES-clause-date : goal.returns-then-text-ne-INSTANT_BYTES-clause-date
returns-then-text-ne-INSTANT_BYTES-clause-date c = short_text c.args.text.now (λ h. c.if-text-ne-INSTANT_BYTES.true h)
