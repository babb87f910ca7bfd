use Rattle.std.proofs.Common.{subst, sym}
use Rattle.ode_language.specs.Languages.{ode}
use Rattle.ode_machine.specs.Sessions.{Session, opened}
use Rattle.ode_engine.specs.Serving.{IsSession, Serves, answer_to, settlings}
use Rattle.ode_engine.proofs.SessionLaws.{closed_is, opened_is}
use Rattle.ode_transact.specs.Logging.{Logs}
use Rattle.std.specs.Prelude.{OnOk}
use Rattle.ode_engine.proofs.commanding.command_in.Goals as goal

pub returns-in-Rest-clause-serves : goal.returns-in-Rest-clause-serves
returns-in-Rest-clause-serves g c session goes_on has =
    let stands = rw c.in-Rest.is at has in
    subst (λ (s : Session). Serves g.H.Host.view g.K.Keep.holds g.K.Keep.live g.K.Keep.means ode s (answer_to ode s c.args.s.now) c.command_at_rest.result c.args.host.now c.command_at_rest.new.host c.args.output.now c.command_at_rest.new.output) (closed_is session stands.0) (c.command_at_rest.ensures.serves session.world goes_on.well stands.1)

pub returns-in-Running-clause-serves : goal.returns-in-Running-clause-serves
returns-in-Running-clause-serves g c session goes_on has =
    let stands = rw c.in-Running.is at has in
    let is = opened_is session stands.0 stands.1 in
    let goes : IsSession ode (opened session.world stands.0) = subst (λ (s : Session). IsSession ode s) (sym is) goes_on in
    subst (λ (s : Session). Serves g.H.Host.view g.K.Keep.holds g.K.Keep.live g.K.Keep.means ode s (answer_to ode s c.args.s.now) c.command_inside.result c.args.host.now c.command_inside.new.host c.args.output.now c.command_inside.new.output) is (c.command_inside.ensures.serves session.world stands.0 goes stands.2)

pub returns-in-Rest-clause-logs : goal.returns-in-Rest-clause-logs
returns-in-Rest-clause-logs g c session entries goes_on has disk =
    let stands = rw c.in-Rest.is at has in
    subst (λ (s : Session). OnOk c.command_at_rest.result (Logs g.K.Keep.means ode s.world entries (settlings (answer_to ode s c.args.s.now)) c.args.log.now c.command_at_rest.new.log (g.H.Host.view c.command_at_rest.new.host))) (closed_is session stands.0)
    (c.command_at_rest.ensures.logs session.world entries goes_on.well stands.1 disk)

pub returns-in-Running-clause-logs : goal.returns-in-Running-clause-logs
returns-in-Running-clause-logs g c session entries goes_on has disk =
    let stands = rw c.in-Running.is at has in
    let is = opened_is session stands.0 stands.1 in
    let goes : IsSession ode (opened session.world stands.0) = subst (λ (s : Session). IsSession ode s) (sym is) goes_on in
    subst (λ (s : Session). OnOk c.command_inside.result (Logs g.K.Keep.means ode s.world entries (settlings (answer_to ode s c.args.s.now)) c.args.log.now c.command_inside.new.log (g.H.Host.view c.command_inside.new.host))) is
    (c.command_inside.ensures.logs session.world stands.0 entries goes stands.2 disk)
