use Rattle.std.proofs.Common.{◌≡◌, ◌∙◌, [], Err, Ok, refl, subst, sym}
use Rattle.ode_host.proofs.Moments.{looks_none}
use Rattle.ode_language.specs.Languages.{ode}
use Rattle.ode_machine.specs.Commands.{Step}
use Rattle.ode_machine.specs.Refusals.{is_lone}
use Rattle.ode_machine.specs.Sessions.{closed}
use Rattle.ode_value.specs.Answers.{Answer}
use Rattle.ode_value.specs.declared.statement.Statement.{Statement}
use Rattle.ode_value.specs.declared.statement.Statement.TheVariants as statement
use Rattle.ode_engine.specs.Serving.{Serves, answer_to, settlings}
use Rattle.ode_engine.specs.declared.commanding.State.TheVariants as state
use Rattle.ode_engine.specs.declared.engine.Done.TheVariants as done
use Rattle.ode_engine.proofs.PlaceLaws.{lone_empty, misplaced_outside, no_lone, place_ok}
use Rattle.ode_engine.proofs.ServeLaws.{quiet_none, quiet_serves, rest_now, told_none}
use Rattle.ode_engine.proofs.SessionLaws.{closed_session}
use Rattle.ode_transact.proofs.LogLaws.{logs_none}
use Rattle.ode_transact.specs.Logging.{Logs}
use Rattle.ode_engine.proofs.commanding.command_at_rest.Goals as goal

pub returns-in-Err-clause-serves : goal.returns-in-Err-clause-serves
returns-in-Err-clause-serves g c w well rests =
    subst (λ (a : Answer Step). Serves g.H.Host.view g.K.Keep.holds g.K.Keep.live g.K.Keep.means ode (closed w) a (Ok (state.Rest c.args.rest, done.Refused c.in-Err.why)) c.args.host.now c.args.host.now c.args.output.now c.args.output.now) (sym (misplaced_outside w c.args.s.now c.in-Err.why (sym c.place_of.ensures ∙ c.in-Err.is)))
    (quiet_serves g.H.Host.view g.K.Keep.holds g.K.Keep.live g.K.Keep.means ode g.met.K.Keep.stands g.met.H.Host.text_stands c.args.output.now c.args.output.now refl (closed w) (Err c.in-Err.why) (state.Rest c.args.rest) (done.Refused c.in-Err.why) c.args.host.now c.args.host.now (rest_now g.H.Host.view g.K.Keep.holds g.K.Keep.live ode w c.args.rest c.args.host.now well rests) (looks_none (g.H.Host.view c.args.host.now)) refl refl (closed_session w well) (refl, rests))

pub returns-in-Err-clause-leaves : goal.returns-in-Err-clause-leaves
returns-in-Err-clause-leaves g c = told_none _ _ _ (quiet_none (g.H.Host.view c.args.host.now))

pub returns-then-not-takes_number-clause-serves : goal.returns-then-not-takes_number-clause-serves
returns-then-not-takes_number-clause-serves g c w well rests =
    let lone : c.args.s.now ≡ statement.Empty = lone_empty c.args.s.now (sym c.takes_number.ensures ∙ c.if-not-takes_number.true) in
    subst (λ (s : Statement). Serves g.H.Host.view g.K.Keep.holds g.K.Keep.live g.K.Keep.means ode (closed w) (answer_to ode (closed w) s) (Ok (state.Rest c.args.rest, done.Settled 0)) c.args.host.now c.args.host.now c.args.output.now c.args.output.now) (sym lone)
    (quiet_serves g.H.Host.view g.K.Keep.holds g.K.Keep.live g.K.Keep.means ode g.met.K.Keep.stands g.met.H.Host.text_stands c.args.output.now c.args.output.now refl (closed w) (Ok (closed w, [])) (state.Rest c.args.rest) (done.Settled 0)
    c.args.host.now c.args.host.now (rest_now g.H.Host.view g.K.Keep.holds g.K.Keep.live ode w c.args.rest c.args.host.now well rests) (looks_none (g.H.Host.view c.args.host.now)) refl refl (closed_session w well) (refl, rests))

pub returns-clause-serves : goal.returns-clause-serves
returns-clause-serves g c w well rests =
    c.numbered.ensures.serves w well rests (sym c.place_of.ensures ∙ place_ok c.place_of.result c.in_default.not-Err) (no_lone (is_lone c.args.s.now) (sym c.takes_number.ensures ∙ c.if-not-takes_number.false))

pub returns-in-Err-clause-logs : goal.returns-in-Err-clause-logs
returns-in-Err-clause-logs g c w entries well rests disk =
    subst (λ (a : Answer Step). Logs g.K.Keep.means ode w entries (settlings a) c.args.log.now c.args.log.now (g.H.Host.view c.args.host.now)) (sym (misplaced_outside w c.args.s.now c.in-Err.why (sym c.place_of.ensures ∙ c.in-Err.is)))
    (logs_none g.K.Keep.means ode w entries c.args.log.now (g.H.Host.view c.args.host.now) disk)

pub returns-then-not-takes_number-clause-logs : goal.returns-then-not-takes_number-clause-logs
returns-then-not-takes_number-clause-logs g c w entries well rests disk =
    let lone : c.args.s.now ≡ statement.Empty = lone_empty c.args.s.now (sym c.takes_number.ensures ∙ c.if-not-takes_number.true) in
    subst (λ (s : Statement). Logs g.K.Keep.means ode w entries (settlings (answer_to ode (closed w) s)) c.args.log.now c.args.log.now (g.H.Host.view c.args.host.now)) (sym lone) (logs_none g.K.Keep.means ode w entries c.args.log.now (g.H.Host.view c.args.host.now) disk)

pub returns-clause-logs : goal.returns-clause-logs
returns-clause-logs g c w entries well rests disk =
    c.numbered.ensures.logs w entries well rests (sym c.place_of.ensures ∙ place_ok c.place_of.result c.in_default.not-Err) (no_lone (is_lone c.args.s.now) (sym c.takes_number.ensures ∙ c.if-not-takes_number.false)) disk
