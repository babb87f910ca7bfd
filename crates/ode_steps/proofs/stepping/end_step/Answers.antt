use Rattle.std.proofs.Common.{false}
use Rattle.ode_engine.proofs.FaultLaws.{undamaged_by}
use Rattle.ode_engine.proofs.ServeLaws.{quiet_by, running_now, told_by, told_on}
use Rattle.ode_language.specs.Languages.{ode}
use Rattle.ode_machine.specs.Interleaving.{Ends, replies_to}
use Rattle.ode_steps.proofs.ServeLaws.{behind_serves, stopped_serves}
use Rattle.ode_transact.specs.Preparing.{ended_by}
use Rattle.ode_steps.proofs.stepping.end_step.Goals as goal

pub returns-in-Ok-clause-serves : goal.returns-in-Ok-clause-serves
returns-in-Ok-clause-serves g c m x is same runs well goes_on =
    behind_serves g.H.Host.view g.K.Keep.holds g.K.Keep.live g.K.Keep.means ode g.met.K.Keep.stands g.met.H.Host.text_stands m (replies_to m c.args.session false (Ends (ended_by c.args.ending x))) c.prepared_step.result c.prepared_step.new.sessions c.args.host.now c.prepare.new.host c.prepared_step.new.host (running_now g.H.Host.view g.K.Keep.holds g.K.Keep.live ode m.world c.args.ctx c.args.host.now x is.well runs) c.in-Ok.ensures.looks
    (c.prepared_step.ensures.serves m x c.args.ending is same (c.in-Ok.ensures.prepared ode m.world x runs) well goes_on)

pub returns-in-Ok-clause-leaves : goal.returns-in-Ok-clause-leaves
returns-in-Ok-clause-leaves g c =
    told_on _ _ _ _ _ (quiet_by _ _ _ (λ is. cc (is)) c.in-Ok.ensures.looks c.in-Ok.ensures.cause).1 c.prepared_step.ensures.leaves

pub returns-clause-serves : goal.returns-clause-serves
returns-clause-serves g c m x is same runs well goes_on =
    stopped_serves g.H.Host.view g.K.Keep.holds g.K.Keep.live g.K.Keep.means ode g.met.K.Keep.stands g.met.H.Host.text_stands m (replies_to m c.args.session false (Ends (ended_by c.args.ending x))) c.in-Err.error c.args.sessions.now c.args.host.now c.prepare.new.host (running_now g.H.Host.view g.K.Keep.holds g.K.Keep.live ode m.world c.args.ctx c.args.host.now x is.well runs) c.in-Err.ensures.looks (undamaged_by c.in-Err.error _ c.in-Err.ensures.undamaged (λ never. never ode m.world x runs))

pub returns-clause-leaves : goal.returns-clause-leaves
returns-clause-leaves g c =
    told_by _ _ _ _ (λ is. cc (is)) (λ is. cc (is)) (λ is. c.in-Err.ensures.silent (cc (is))) c.in-Err.ensures.looks c.in-Err.ensures.cause
