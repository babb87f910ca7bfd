use Rattle.ode_asksyn.proofs.ReadingLaws.{query_is_read}
use Rattle.ode_asksyn.proofs.reading.read_query.Goals as goal

pub returns-in-Ok : goal.returns-in-Ok
returns-in-Ok c = query_is_read c.args.text.now c.in-Ok.query c.in-Ok.ensures.ok
