use Rattle.ode_host.proofs.Calls.{host_calls_as}
use Rattle.ode_language.specs.Languages.{ode}
use Rattle.ode_transact.specs.Working.{settled_by}
use Rattle.ode_engine.proofs.FaultLaws.{undamaged_by}
use Rattle.ode_engine.proofs.ServeLaws.{told_on, unsettled_serves}
use Rattle.ode_transact.proofs.LogLaws.{grown_then}
use Rattle.ode_engine.proofs.commanding.settle.Goals as goal

pub returns-in-Ok-clause-serves : goal.returns-in-Ok-clause-serves
returns-in-Ok-clause-serves g c session t well runs wells =
    c.settled.ensures.serves session (settled_by c.args.ending t) c.args.host.now c.args.output.now (c.in-Ok.ensures.printed ode session.world t runs) (c.in-Ok.ensures.counts ode session.world t runs)
    (λ said is. c.in-Ok.ensures.any_moment ode session.world t said well runs wells is) wells (c.in-Ok.ensures.done ode session.world t runs wells)

pub returns-in-Ok-clause-leaves : goal.returns-in-Ok-clause-leaves
returns-in-Ok-clause-leaves g c = told_on _ _ _ _ _ (host_calls_as _ _ _ _ _ _ (λ is. cc (is)) absurd (λ is. cc (is)) absurd c.in-Ok.ensures.leaves) c.settled.ensures.leaves

pub returns-in-Err-clause-serves : goal.returns-in-Err-clause-serves
returns-in-Err-clause-serves g c session t well runs wells =
    unsettled_serves g.H.Host.view g.K.Keep.holds g.K.Keep.live g.K.Keep.means ode g.met.K.Keep.stands g.met.H.Host.text_stands c.args.output.now c.end.new.output session (settled_by c.args.ending t) c.in-Err.error c.args.host.now c.end.new.host
    (λ said is. c.in-Err.ensures.any_moment ode session.world t said well runs wells is)
    (undamaged_by _ _ c.in-Err.ensures.undamaged (λ never. never ode session.world t runs wells))

pub returns-in-Err-clause-leaves : goal.returns-in-Err-clause-leaves
returns-in-Err-clause-leaves g c = host_calls_as _ _ _ _ _ _ (λ is. cc (is)) (λ is. cc (is)) (λ is. cc (is)) (λ is. cc (is)) c.in-Err.ensures.leaves

pub returns-in-Ok-clause-logs : goal.returns-in-Ok-clause-logs
returns-in-Ok-clause-logs g c session t entries well runs wells disk =
    c.settled.ensures.logs session.world (settled_by c.args.ending t) c.args.log.now entries wells (c.in-Ok.ensures.done ode session.world t runs wells) (c.in-Ok.ensures.logs ode session.world t entries runs wells disk)

pub returns-in-Ok-clause-grown : goal.returns-in-Ok-clause-grown
returns-in-Ok-clause-grown g c = grown_then c.args.log.now c.end.new.log c.settled.new.log c.end.ensures.grown c.settled.ensures.grown
