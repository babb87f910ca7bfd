use Rattle.ode_asksyn.proofs.ReadingLaws.{comparison_is_read}
use Rattle.ode_asksyn.proofs.reading.read_comparison.Goals as goal

pub returns-in-Ok : goal.returns-in-Ok
returns-in-Ok c = comparison_is_read c.args.text.now c.in-Ok.comparison c.in-Ok.ensures.ok
