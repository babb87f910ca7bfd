use Rattle.std.proofs.Common.{refl}
use Rattle.ode_language.specs.Languages.{ode}
use Rattle.ode_machine.specs.Commands.{carried}
use Rattle.ode_machine.specs.Sessions.{closed}
use Rattle.ode_value.specs.declared.statement.Statement.TheVariants as statement
use Rattle.ode_engine.proofs.FaultLaws.{undamaged_by}
use Rattle.ode_engine.proofs.RunLaws.{begun_serves}
use Rattle.ode_engine.proofs.ServeLaws.{quiet_by, rest_now, stopped_serves, told_by, told_none}
use Rattle.ode_engine.proofs.SessionLaws.{room}
use Rattle.ode_engine.proofs.commanding.leave_open.Goals as goal

pub returns-in-Err-clause-serves : goal.returns-in-Err-clause-serves
returns-in-Err-clause-serves g c w output well rests left =
    stopped_serves g.H.Host.view g.K.Keep.holds g.K.Keep.live g.K.Keep.means ode g.met.K.Keep.stands g.met.H.Host.text_stands output output (closed w) (carried ode (closed w) statement.Begin) _ c.args.host.now c.begin.new.host (rest_now g.H.Host.view g.K.Keep.holds g.K.Keep.live ode w c.args.rest c.args.host.now well rests)
    c.in-Err.ensures.looks (undamaged_by _ _ c.in-Err.ensures.undamaged (λ never. never ode w rests tt (room w left)))

pub returns-in-Err-clause-leaves : goal.returns-in-Err-clause-leaves
returns-in-Err-clause-leaves g c =
    told_by _ _ _ _ (λ is. cc (is)) (λ is. cc (is)) (λ is. c.in-Err.ensures.silent (cc (is))) c.in-Err.ensures.looks c.in-Err.ensures.cause

pub returns-in-Ok-clause-serves : goal.returns-in-Ok-clause-serves
returns-in-Ok-clause-serves g c w output well rests left =
    begun_serves g.H.Host.view g.K.Keep.holds g.K.Keep.live g.K.Keep.means g.met.K.Keep.stands g.met.H.Host.text_stands output output refl w _ c.args.host.now c.begin.new.host well left (rest_now g.H.Host.view g.K.Keep.holds g.K.Keep.live ode w c.args.rest c.args.host.now well rests) c.in-Ok.ensures.looks (c.in-Ok.ensures.begun ode w rests tt)

pub returns-in-Ok-clause-leaves : goal.returns-in-Ok-clause-leaves
returns-in-Ok-clause-leaves g c = told_none _ _ _ (quiet_by _ _ _ (λ is. cc (is)) c.in-Ok.ensures.looks c.in-Ok.ensures.cause)
