use Rattle.ode_clock.proofs.WellLaws.{clock_settles_well, last_is_well}
use Rattle.ode_clock.specs.Clocking.{clock_settled}
use Rattle.ode_host.proofs.Calls.{host_calls_as}
use Rattle.ode_machine.specs.Refusals.{ticks_in}
use Rattle.ode_language.specs.Languages.{ode}
use Rattle.ode_engine.proofs.ClockLaws.{clocked_serves, refused_clock_serves, unclocked_serves}
use Rattle.ode_engine.proofs.FaultLaws.{undamaged_by}
use Rattle.ode_engine.proofs.ServeLaws.{rest_now}
use Rattle.ode_engine.proofs.KeptLaws.{clocked_kept, refused_clock_kept}
use Rattle.ode_engine.proofs.commanding.clock.Goals as goal

pub returns-in-Err-clause-serves : goal.returns-in-Err-clause-serves
returns-in-Err-clause-serves g c w well rests left =
    unclocked_serves g.H.Host.view g.K.Keep.holds g.K.Keep.live g.K.Keep.means g.met.K.Keep.stands g.met.H.Host.text_stands c.args.output.now c.set_clock.new.output w c.in-Err.error c.args.host.now c.set_clock.new.host (rest_now g.H.Host.view g.K.Keep.holds g.K.Keep.live ode w c.args.rest c.args.host.now well rests) (ticks_in ode w.bones c.args.text.now)
    (λ t is said more told. c.in-Err.ensures.any_moment w t said more well left rests is told)
    (λ why is. c.in-Err.ensures.declined w why rests is)
    (undamaged_by _ _ c.in-Err.ensures.undamaged (λ never. never w well left rests))

pub returns-in-Err-clause-leaves : goal.returns-in-Err-clause-leaves
returns-in-Err-clause-leaves g c = host_calls_as _ _ _ _ _ _ (λ is. cc (is)) (λ is. cc (is)) (λ is. cc (is)) (λ is. cc (is)) c.in-Err.ensures.leaves

pub returns-in-Ok-found-clause-serves : goal.returns-in-Ok-found-clause-serves
returns-in-Ok-found-clause-serves g c w well rests left =
    clocked_serves g.H.Host.view g.K.Keep.holds g.K.Keep.live g.K.Keep.means g.met.K.Keep.stands g.met.H.Host.text_stands c.args.output.now c.set_clock.new.output w c.in-Ok-found.settled c.in-Ok.rest c.args.host.now c.set_clock.new.host _ _ (ticks_in ode w.bones c.args.text.now)
    (rw c.in-Ok-found.is at (c.in-Ok.ensures.done w well left rests))
    (rw c.in-Ok-found.is at (c.in-Ok.ensures.counts w well left rests))
    (λ t is. last_is_well w (clock_settled w t) well (clock_settles_well w well left c.args.text.now t is))
    (λ t is said more told. c.in-Ok.ensures.any_moment w t said more well left rests is told)

pub returns-in-Err-found-clause-serves : goal.returns-in-Err-found-clause-serves
returns-in-Err-found-clause-serves g c w well rests left =
    refused_clock_serves g.H.Host.view g.K.Keep.holds g.K.Keep.live g.K.Keep.means g.met.K.Keep.stands g.met.H.Host.text_stands c.args.output.now c.set_clock.new.output w c.in-Err-found.why c.in-Ok.rest c.args.host.now c.set_clock.new.host _ _ well (rest_now g.H.Host.view g.K.Keep.holds g.K.Keep.live ode w c.args.rest c.args.host.now well rests) (ticks_in ode w.bones c.args.text.now)
    (rw c.in-Err-found.is at (c.in-Ok.ensures.done w well left rests)) (rw c.in-Err-found.is at (c.in-Ok.ensures.counts w well left rests)) (rw c.in-Err-found.is at c.in-Ok.ensures.refused)

pub returns-in-Ok-found-clause-logs : goal.returns-in-Ok-found-clause-logs
returns-in-Ok-found-clause-logs g c w entries well rests left disk =
    clocked_kept g.K.Keep.means w entries c.args.log.now c.set_clock.new.log (g.H.Host.view c.args.host.now) (g.H.Host.view c.set_clock.new.host) c.in-Ok-found.settled _ (ticks_in ode w.bones c.args.text.now) (rw c.in-Ok-found.is at (c.in-Ok.ensures.logs w entries well left rests disk))

pub returns-in-Err-found-clause-logs : goal.returns-in-Err-found-clause-logs
returns-in-Err-found-clause-logs g c w entries well rests left disk =
    refused_clock_kept g.K.Keep.means w entries c.args.log.now c.set_clock.new.log (g.H.Host.view c.args.host.now) (g.H.Host.view c.set_clock.new.host) c.in-Err-found.why _ (ticks_in ode w.bones c.args.text.now) (rw c.in-Err-found.is at (c.in-Ok.ensures.logs w entries well left rests disk))
    (rw c.in-Err-found.is at c.in-Ok.ensures.refused) disk
