use Rattle.std.proofs.Common.{Err, Ok, refl, subst, sym}
use Rattle.ode_host.proofs.Moments.{looks_none}
use Rattle.ode_language.specs.Languages.{ode}
use Rattle.ode_machine.specs.Commands.{changes}
use Rattle.ode_machine.specs.Sessions.{Session, opened}
use Rattle.ode_value.specs.declared.reason.Refusal.TheVariants as refusal
use Rattle.ode_engine.specs.Serving.{IsSession, Serves, settlings}
use Rattle.ode_engine.specs.declared.commanding.State.TheVariants as state
use Rattle.ode_engine.specs.declared.engine.Done.TheVariants as done
use Rattle.ode_engine.proofs.ServeLaws.{quiet_none, quiet_serves, running_now, told_none}
use Rattle.ode_engine.proofs.SessionLaws.{closed_is, opened_is}
use Rattle.ode_transact.proofs.LogLaws.{logs_none}
use Rattle.ode_transact.specs.Logging.{Logs}
use Rattle.std.specs.Prelude.{OnOk}
use Rattle.ode_engine.proofs.commanding.change_in.Goals as goal

pub returns-in-Rest-clause-serves : goal.returns-in-Rest-clause-serves
returns-in-Rest-clause-serves g c session goes_on has =
    let stands = rw c.in-Rest.is at has in
    subst (λ (s : Session). Serves g.H.Host.view g.K.Keep.holds g.K.Keep.live g.K.Keep.means ode s (changes ode s c.args.c.now) c.change_at_rest.result c.args.host.now c.change_at_rest.new.host c.args.output.now c.change_at_rest.new.output) (closed_is session stands.0)
    (c.change_at_rest.ensures.serves session.world goes_on.well stands.1)

pub returns-in-Running-clause-serves : goal.returns-in-Running-clause-serves
returns-in-Running-clause-serves g c session goes_on has =
    let stands = rw c.in-Running.is at has in
    let w = session.world in
    let is = opened_is session stands.0 stands.1 in
    let goes : IsSession ode (opened w stands.0) = subst (λ (s : Session). IsSession ode s) (sym is) goes_on in
    subst (λ (s : Session). Serves g.H.Host.view g.K.Keep.holds g.K.Keep.live g.K.Keep.means ode s (changes ode s c.args.c.now) (Ok (state.Running c.in-Running.ctx, done.Refused refusal.InTransaction)) c.args.host.now c.args.host.now c.args.output.now c.args.output.now) is
    (quiet_serves g.H.Host.view g.K.Keep.holds g.K.Keep.live g.K.Keep.means ode g.met.K.Keep.stands g.met.H.Host.text_stands c.args.output.now c.args.output.now refl (opened w stands.0) (Err refusal.InTransaction) (state.Running c.in-Running.ctx) (done.Refused refusal.InTransaction)
    c.args.host.now c.args.host.now (running_now g.H.Host.view g.K.Keep.holds g.K.Keep.live ode w c.in-Running.ctx c.args.host.now stands.0 goes_on.well stands.2) (looks_none (g.H.Host.view c.args.host.now)) refl refl goes (stands.0, refl, stands.2))

pub returns-in-Running-clause-leaves : goal.returns-in-Running-clause-leaves
returns-in-Running-clause-leaves g c = told_none _ _ _ (quiet_none (g.H.Host.view c.args.host.now))

pub returns-in-Rest-clause-logs : goal.returns-in-Rest-clause-logs
returns-in-Rest-clause-logs g c session entries goes_on has disk =
    let stands = rw c.in-Rest.is at has in
    subst (λ (s : Session). OnOk c.change_at_rest.result (Logs g.K.Keep.means ode s.world entries (settlings (changes ode s c.args.c.now)) c.args.log.now c.change_at_rest.new.log (g.H.Host.view c.change_at_rest.new.host))) (closed_is session stands.0)
    (c.change_at_rest.ensures.logs session.world entries goes_on.well stands.1 disk)

pub returns-in-Running-clause-logs : goal.returns-in-Running-clause-logs
returns-in-Running-clause-logs g c session entries goes_on has disk =
    let stands = rw c.in-Running.is at has in
    subst (λ (s : Session). Logs g.K.Keep.means ode s.world entries (settlings (changes ode s c.args.c.now)) c.args.log.now c.args.log.now (g.H.Host.view c.args.host.now)) (opened_is session stands.0 stands.1) (logs_none g.K.Keep.means ode session.world entries c.args.log.now (g.H.Host.view c.args.host.now) disk)
