use Rattle.ode_language.specs.Languages.{ode}
use Rattle.ode_machine.specs.Commands.{carried}
use Rattle.ode_machine.specs.Sessions.{closed}
use Rattle.ode_value.specs.declared.statement.Statement.TheVariants as statement
use Rattle.ode_engine.proofs.FaultLaws.{undamaged_by}
use Rattle.ode_engine.proofs.ServeLaws.{behind_serves, quiet_by, rest_now, stopped_serves, told_by, told_on}
use Rattle.ode_engine.proofs.SessionLaws.{room}
use Rattle.ode_transact.proofs.LogLaws.{disk_looks}
use Rattle.ode_engine.proofs.commanding.simple.Goals as goal

pub returns-in-Err-clause-serves : goal.returns-in-Err-clause-serves
returns-in-Err-clause-serves g c w well rests left text =
    stopped_serves g.H.Host.view g.K.Keep.holds g.K.Keep.live g.K.Keep.means ode g.met.K.Keep.stands g.met.H.Host.text_stands c.args.output.now c.args.output.now (closed w) (carried ode (closed w) (statement.Simple c.args.s.now)) _ c.args.host.now c.begin.new.host (rest_now g.H.Host.view g.K.Keep.holds g.K.Keep.live ode w c.args.rest c.args.host.now well rests)
    c.in-Err.ensures.looks (undamaged_by _ _ c.in-Err.ensures.undamaged (λ never. never ode w rests tt (room w left)))

pub returns-in-Err-clause-leaves : goal.returns-in-Err-clause-leaves
returns-in-Err-clause-leaves g c =
    told_by _ _ _ _ (λ is. cc (is)) (λ is. cc (is)) (λ is. c.in-Err.ensures.silent (cc (is))) c.in-Err.ensures.looks c.in-Err.ensures.cause

pub returns-in-Ok-clause-serves : goal.returns-in-Ok-clause-serves
returns-in-Ok-clause-serves g c w well rests left text =
    behind_serves g.H.Host.view g.K.Keep.holds g.K.Keep.live g.K.Keep.means ode g.met.K.Keep.stands g.met.H.Host.text_stands c.args.output.now c.simple_begun.new.output (closed w) (carried ode (closed w) (statement.Simple c.args.s.now)) _ c.args.host.now c.begin.new.host c.simple_begun.new.host (rest_now g.H.Host.view g.K.Keep.holds g.K.Keep.live ode w c.args.rest c.args.host.now well rests)
    c.in-Ok.ensures.looks (c.simple_begun.ensures.serves w well (c.in-Ok.ensures.begun ode w rests tt) left text)

pub returns-in-Ok-clause-leaves : goal.returns-in-Ok-clause-leaves
returns-in-Ok-clause-leaves g c = told_on _ _ _ _ _ (quiet_by _ _ _ (λ is. cc (is)) c.in-Ok.ensures.looks c.in-Ok.ensures.cause).1 c.simple_begun.ensures.leaves

pub returns-in-Ok-clause-logs : goal.returns-in-Ok-clause-logs
returns-in-Ok-clause-logs g c w entries well rests left text disk =
    c.simple_begun.ensures.logs w entries well (c.in-Ok.ensures.begun ode w rests tt) left text (disk_looks g.K.Keep.means entries (g.H.Host.view c.args.host.now) (g.H.Host.view c.begin.new.host) c.in-Ok.ensures.looks disk)
