use Rattle.ode_ship.proofs.Frames.{short_frame}
use Rattle.ode_standby.proofs.applying.take_frame.Goals as goal

pub stage-requires-clause-short : goal.stage-requires-clause-short
stage-requires-clause-short g c = short_frame (c.args.shipped.now.number, c.args.shipped.now.batch) c.requires.form
