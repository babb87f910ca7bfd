use Rattle.ode_value.specs.Limits.{drain_limit}
use Rattle.ode_host.proofs.Calls.{host_calls_as}
use Rattle.ode_language.specs.Languages.{ode}
use Rattle.ode_engine.proofs.FaultLaws.{undamaged_by}
use Rattle.ode_engine.proofs.ServeLaws.{drained_serves, undrained_serves}
use Rattle.ode_engine.proofs.SessionLaws.{settled_session}
use Rattle.ode_transact.proofs.LogLaws.{logs_then}
use Rattle.ode_transact.specs.Logging.{behind}
use Rattle.std.proofs.Common.{[], ◌∷◌}
use Rattle.ode_value.specs.Draining.{drain}
use Rattle.ode_value.specs.Pasts.{lists}
use Rattle.ode_engine.proofs.commanding.settled.Goals as goal

pub returns-in-Ok-clause-serves : goal.returns-in-Ok-clause-serves
unfolding drain_limit
returns-in-Ok-clause-serves g c session s before start printed counts leaves wells rests =
    let drained = c.in-Ok.ensures.done ode s.0 wells rests in
    drained_serves g.H.Host.view g.K.Keep.holds g.K.Keep.live g.K.Keep.means ode g.met.K.Keep.stands g.met.H.Host.text_stands start c.drain.new.output c.args.output.now session s c.in-Ok.rest c.in-Ok.ran before c.args.host.now c.drain.new.host
    (record { printed = printed; counts = counts; any_moment = leaves })
    (λ said more is. c.in-Ok.ensures.any_moment ode s.0 said more wells rests is)
    drained.0.1 (settled_session s wells) drained.0.0 drained.1 (c.in-Ok.ensures.counts ode s.0 wells rests)

pub returns-in-Ok-clause-leaves : goal.returns-in-Ok-clause-leaves
returns-in-Ok-clause-leaves g c = host_calls_as _ _ _ _ _ _ (λ is. cc (is)) (λ is. cc (is)) (λ is. cc (is)) (λ is. cc (is)) c.in-Ok.ensures.leaves

pub returns-in-Err-clause-serves : goal.returns-in-Err-clause-serves
unfolding drain_limit
returns-in-Err-clause-serves g c session s before start printed counts leaves wells rests =
    undrained_serves g.H.Host.view g.K.Keep.holds g.K.Keep.live g.K.Keep.means ode g.met.K.Keep.stands g.met.H.Host.text_stands start c.drain.new.output c.args.output.now session s c.in-Err.error before c.args.host.now c.drain.new.host
    (record { printed = printed; counts = counts; any_moment = leaves })
    (λ said more is. c.in-Err.ensures.any_moment ode s.0 said more wells rests is)
    (undamaged_by _ _ c.in-Err.ensures.undamaged (λ never. never ode s.0 wells rests))

pub returns-in-Err-clause-leaves : goal.returns-in-Err-clause-leaves
returns-in-Err-clause-leaves g c = host_calls_as _ _ _ _ _ _ (λ is. cc (is)) (λ is. cc (is)) (λ is. cc (is)) (λ is. cc (is)) c.in-Err.ensures.leaves

pub returns-in-Ok-clause-logs : goal.returns-in-Ok-clause-logs
unfolding drain_limit
returns-in-Ok-clause-logs g c w s before entries wells rests first =
    logs_then g.K.Keep.means ode w entries (s ∷ []) (drain lists drain_limit s.0) before c.args.log.now c.drain.new.log (g.H.Host.view c.args.host.now) (g.H.Host.view c.drain.new.host) first
    (c.in-Ok.ensures.logs ode s.0 (behind entries first.news) wells rests first.disk)
