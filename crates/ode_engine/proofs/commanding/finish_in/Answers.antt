use Rattle.std.proofs.Common.{Ok, [], refl, subst, sym}
use Rattle.ode_host.proofs.Moments.{looks_none}
use Rattle.ode_language.specs.Languages.{ode}
use Rattle.ode_machine.specs.Commands.{finish}
use Rattle.ode_machine.specs.Sessions.{Session, closed, opened}
use Rattle.ode_engine.specs.Serving.{IsSession, Serves, settlings}
use Rattle.ode_engine.specs.declared.commanding.State.TheVariants as state
use Rattle.ode_engine.specs.declared.engine.Done.TheVariants as done
use Rattle.ode_engine.proofs.ServeLaws.{quiet_none, quiet_serves, rest_now, told_none}
use Rattle.ode_engine.proofs.SessionLaws.{closed_is, closed_session, opened_is}
use Rattle.ode_transact.proofs.LogLaws.{logs_none}
use Rattle.ode_transact.specs.Logging.{Logs}
use Rattle.std.specs.Prelude.{OnOk}
use Rattle.ode_engine.proofs.commanding.finish_in.Goals as goal

pub returns-in-Rest-clause-serves : goal.returns-in-Rest-clause-serves
returns-in-Rest-clause-serves g c session goes_on has =
    let stands = rw c.in-Rest.is at has in
    let v = closed session.world in
    subst (λ (s : Session). Serves g.H.Host.view g.K.Keep.holds g.K.Keep.live g.K.Keep.means ode s (Ok (finish s)) (Ok (state.Rest c.in-Rest.rest, done.Settled 0)) c.args.host.now c.args.host.now c.args.output.now c.args.output.now) (closed_is session stands.0)
    (quiet_serves g.H.Host.view g.K.Keep.holds g.K.Keep.live g.K.Keep.means ode g.met.K.Keep.stands g.met.H.Host.text_stands c.args.output.now c.args.output.now refl v (Ok (v, [])) (state.Rest c.in-Rest.rest) (done.Settled 0) c.args.host.now c.args.host.now (rest_now g.H.Host.view g.K.Keep.holds g.K.Keep.live ode session.world c.in-Rest.rest c.args.host.now goes_on.well stands.1) (looks_none (g.H.Host.view c.args.host.now)) refl refl
    (closed_session session.world goes_on.well) (refl, stands.1))

pub returns-in-Running-clause-serves : goal.returns-in-Running-clause-serves
returns-in-Running-clause-serves g c session goes_on has =
    let stands = rw c.in-Running.is at has in
    let is = opened_is session stands.0 stands.1 in
    let goes : IsSession ode (opened session.world stands.0) = subst (λ (s : Session). IsSession ode s) (sym is) goes_on in
    subst (λ (s : Session). Serves g.H.Host.view g.K.Keep.holds g.K.Keep.live g.K.Keep.means ode s (Ok (finish s)) c.abort.result c.args.host.now c.abort.new.host c.args.output.now c.abort.new.output) is (c.abort.ensures.serves session.world stands.0 goes stands.2)

pub returns-in-Rest-clause-leaves : goal.returns-in-Rest-clause-leaves
returns-in-Rest-clause-leaves g c = told_none _ _ _ (quiet_none (g.H.Host.view c.args.host.now))

pub returns-in-Rest-clause-logs : goal.returns-in-Rest-clause-logs
returns-in-Rest-clause-logs g c session entries goes_on has disk =
    let stands = rw c.in-Rest.is at has in
    subst (λ (s : Session). Logs g.K.Keep.means ode s.world entries (settlings (Ok (finish s))) c.args.log.now c.args.log.now (g.H.Host.view c.args.host.now)) (closed_is session stands.0) (logs_none g.K.Keep.means ode session.world entries c.args.log.now (g.H.Host.view c.args.host.now) disk)

pub returns-in-Running-clause-logs : goal.returns-in-Running-clause-logs
returns-in-Running-clause-logs g c session entries goes_on has disk =
    let stands = rw c.in-Running.is at has in
    let is = opened_is session stands.0 stands.1 in
    let goes : IsSession ode (opened session.world stands.0) = subst (λ (s : Session). IsSession ode s) (sym is) goes_on in
    subst (λ (s : Session). OnOk c.abort.result (Logs g.K.Keep.means ode s.world entries (settlings (Ok (finish s))) c.args.log.now c.abort.new.log (g.H.Host.view c.abort.new.host))) is
    (c.abort.ensures.logs session.world stands.0 entries goes stands.2 disk)
