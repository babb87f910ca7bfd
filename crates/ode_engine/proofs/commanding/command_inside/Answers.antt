use Rattle.std.proofs.Common.{◌≡◌, ◌∙◌, [], Err, Ok, refl, subst, sym}
use Rattle.ode_language.specs.Texts.{HasText}
use Rattle.ode_host.proofs.Moments.{looks_none}
use Rattle.ode_language.specs.Languages.{ode}
use Rattle.ode_machine.specs.Commands.{Step}
use Rattle.ode_machine.specs.Sessions.{opened}
use Rattle.ode_value.specs.Answers.{Answer}
use Rattle.ode_value.specs.declared.statement.Statement.{Statement}
use Rattle.ode_value.specs.declared.statement.Statement.TheVariants as statement
use Rattle.ode_engine.specs.Serving.{Serves, answer_to, settlings}
use Rattle.ode_engine.specs.declared.commanding.State.TheVariants as state
use Rattle.ode_engine.specs.declared.engine.Done.TheVariants as done
use Rattle.ode_engine.proofs.PlaceLaws.{empty_inside, misplaced_inside, place_ok}
use Rattle.ode_engine.proofs.ServeLaws.{quiet_none, quiet_serves, running_now, told_none}
use Rattle.ode_transact.proofs.LogLaws.{logs_none}
use Rattle.ode_transact.specs.Logging.{Logs}
use Rattle.std.specs.Prelude.{OnOk}
use Rattle.ode_engine.proofs.commanding.command_inside.Goals as goal

pub returns-in-Err-clause-serves : goal.returns-in-Err-clause-serves
returns-in-Err-clause-serves g c w t session runs =
    subst (λ (a : Answer Step). Serves g.H.Host.view g.K.Keep.holds g.K.Keep.live g.K.Keep.means ode (opened w t) a (Ok (state.Running c.args.ctx, done.Refused c.in-Err.why)) c.args.host.now c.args.host.now c.args.output.now c.args.output.now) (sym (misplaced_inside w t c.args.s.now c.in-Err.why (sym c.place_of.ensures ∙ c.in-Err.is)))
    (quiet_serves g.H.Host.view g.K.Keep.holds g.K.Keep.live g.K.Keep.means ode g.met.K.Keep.stands g.met.H.Host.text_stands c.args.output.now c.args.output.now refl (opened w t) (Err c.in-Err.why) (state.Running c.args.ctx) (done.Refused c.in-Err.why) c.args.host.now c.args.host.now (running_now g.H.Host.view g.K.Keep.holds g.K.Keep.live ode w c.args.ctx c.args.host.now t session.well runs) (looks_none (g.H.Host.view c.args.host.now)) refl refl session (t, refl, runs))

pub returns-in-Commit-clause-serves : goal.returns-in-Commit-clause-serves
returns-in-Commit-clause-serves g c w t session runs =
    subst (λ (s : Statement). Serves g.H.Host.view g.K.Keep.holds g.K.Keep.live g.K.Keep.means ode (opened w t) (answer_to ode (opened w t) s) c.commit.result c.args.host.now c.commit.new.host c.args.output.now c.commit.new.output) (sym c.in-Commit.is) (c.commit.ensures.serves w t session runs)

pub returns-in-Abort-clause-serves : goal.returns-in-Abort-clause-serves
returns-in-Abort-clause-serves g c w t session runs =
    subst (λ (s : Statement). Serves g.H.Host.view g.K.Keep.holds g.K.Keep.live g.K.Keep.means ode (opened w t) (answer_to ode (opened w t) s) c.abort.result c.args.host.now c.abort.new.host c.args.output.now c.abort.new.output) (sym c.in-Abort.is) (c.abort.ensures.serves w t session runs)

pub returns-in-Simple-clause-serves : goal.returns-in-Simple-clause-serves
returns-in-Simple-clause-serves g c w t session runs =
    subst (λ (s : Statement). Serves g.H.Host.view g.K.Keep.holds g.K.Keep.live g.K.Keep.means ode (opened w t) (answer_to ode (opened w t) s) c.simple_inside.result c.args.host.now c.simple_inside.new.host c.args.output.now c.simple_inside.new.output) (sym c.in-Simple.is)
    (c.simple_inside.ensures.serves w t session runs (subst (HasText ode) c.in-Simple.is c.requires.text))

pub returns-in_default-s-clause-serves : goal.returns-in_default-s-clause-serves
returns-in_default-s-clause-serves g c w t session runs =
    let lone : c.args.s.now ≡ statement.Empty = empty_inside c.args.s.now (sym c.place_of.ensures ∙ place_ok c.place_of.result c.in_default.not-Err) c.in_default-s.not-Commit c.in_default-s.not-Abort c.in_default-s.not-Simple in
    subst (λ (s : Statement). Serves g.H.Host.view g.K.Keep.holds g.K.Keep.live g.K.Keep.means ode (opened w t) (answer_to ode (opened w t) s) (Ok (state.Running c.args.ctx, done.Settled 0)) c.args.host.now c.args.host.now c.args.output.now c.args.output.now) (sym lone)
    (quiet_serves g.H.Host.view g.K.Keep.holds g.K.Keep.live g.K.Keep.means ode g.met.K.Keep.stands g.met.H.Host.text_stands c.args.output.now c.args.output.now refl (opened w t) (Ok (opened w t, [])) (state.Running c.args.ctx) (done.Settled 0) c.args.host.now c.args.host.now
    (running_now g.H.Host.view g.K.Keep.holds g.K.Keep.live ode w c.args.ctx c.args.host.now t session.well runs) (looks_none (g.H.Host.view c.args.host.now)) refl refl session (t, refl, runs))

pub returns-in-Err-clause-leaves : goal.returns-in-Err-clause-leaves
returns-in-Err-clause-leaves g c = told_none _ _ _ (quiet_none (g.H.Host.view c.args.host.now))

pub returns-in_default-s-clause-leaves : goal.returns-in_default-s-clause-leaves
returns-in_default-s-clause-leaves g c = told_none _ _ _ (quiet_none (g.H.Host.view c.args.host.now))

pub returns-in-Err-clause-logs : goal.returns-in-Err-clause-logs
returns-in-Err-clause-logs g c w t entries session runs disk =
    subst (λ (a : Answer Step). Logs g.K.Keep.means ode w entries (settlings a) c.args.log.now c.args.log.now (g.H.Host.view c.args.host.now)) (sym (misplaced_inside w t c.args.s.now c.in-Err.why (sym c.place_of.ensures ∙ c.in-Err.is)))
    (logs_none g.K.Keep.means ode w entries c.args.log.now (g.H.Host.view c.args.host.now) disk)

pub returns-in-Commit-clause-logs : goal.returns-in-Commit-clause-logs
returns-in-Commit-clause-logs g c w t entries session runs disk =
    subst (λ (s : Statement). OnOk c.commit.result (Logs g.K.Keep.means ode w entries (settlings (answer_to ode (opened w t) s)) c.args.log.now c.commit.new.log (g.H.Host.view c.commit.new.host))) (sym c.in-Commit.is) (c.commit.ensures.logs w t entries session runs disk)

pub returns-in-Abort-clause-logs : goal.returns-in-Abort-clause-logs
returns-in-Abort-clause-logs g c w t entries session runs disk =
    subst (λ (s : Statement). OnOk c.abort.result (Logs g.K.Keep.means ode w entries (settlings (answer_to ode (opened w t) s)) c.args.log.now c.abort.new.log (g.H.Host.view c.abort.new.host))) (sym c.in-Abort.is) (c.abort.ensures.logs w t entries session runs disk)

pub returns-in-Simple-clause-logs : goal.returns-in-Simple-clause-logs
returns-in-Simple-clause-logs g c w t entries session runs disk =
    subst (λ (s : Statement). OnOk c.simple_inside.result (Logs g.K.Keep.means ode w entries (settlings (answer_to ode (opened w t) s)) c.args.log.now c.simple_inside.new.log (g.H.Host.view c.simple_inside.new.host))) (sym c.in-Simple.is) (c.simple_inside.ensures.logs w t entries session runs (subst (HasText ode) c.in-Simple.is c.requires.text) disk)

pub returns-in_default-s-clause-logs : goal.returns-in_default-s-clause-logs
returns-in_default-s-clause-logs g c w t entries session runs disk =
    let lone : c.args.s.now ≡ statement.Empty = empty_inside c.args.s.now (sym c.place_of.ensures ∙ place_ok c.place_of.result c.in_default.not-Err) c.in_default-s.not-Commit c.in_default-s.not-Abort c.in_default-s.not-Simple in
    subst (λ (s : Statement). Logs g.K.Keep.means ode w entries (settlings (answer_to ode (opened w t) s)) c.args.log.now c.args.log.now (g.H.Host.view c.args.host.now)) (sym lone) (logs_none g.K.Keep.means ode w entries c.args.log.now (g.H.Host.view c.args.host.now) disk)
