use Rattle.ode_machine.specs.Sessions.{opened}
use Rattle.ode_engine.proofs.SessionLaws.{aborted_well}
use Rattle.ode_engine.proofs.commanding.abort.Goals as goal

pub returns-clause-serves : goal.returns-clause-serves
returns-clause-serves g c w t session runs = c.settle.ensures.serves (opened w t) t session.well runs (aborted_well w session.well t session.came c.args.why)

pub returns-clause-logs : goal.returns-clause-logs
returns-clause-logs g c w t entries session runs disk = c.settle.ensures.logs (opened w t) t entries session.well runs (aborted_well w session.well t session.came c.args.why) disk
