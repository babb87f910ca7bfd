use Rattle.std.proofs.Common.{◌≡◌, Ok, [], refl, subst, sym}
use Rattle.ode_again_laws.proofs.Numbered.{piece_numbers}
use Rattle.ode_language.specs.Texts.{HasText}
use Rattle.ode_host.proofs.Moments.{looks_none}
use Rattle.ode_language.specs.Languages.{ode}
use Rattle.ode_machine.specs.Commands.{carried}
use Rattle.ode_machine.specs.Sessions.{closed}
use Rattle.ode_value.specs.declared.statement.Statement.{Statement}
use Rattle.ode_value.specs.declared.statement.Statement.TheVariants as statement
use Rattle.ode_engine.specs.Serving.{Serves, settlings}
use Rattle.ode_engine.specs.declared.commanding.State.TheVariants as state
use Rattle.ode_engine.specs.declared.engine.Done.TheVariants as done
use Rattle.ode_engine.proofs.PlaceLaws.{empty_outside}
use Rattle.ode_engine.proofs.ServeLaws.{quiet_none, quiet_serves, rest_now, told_none}
use Rattle.ode_engine.proofs.SessionLaws.{closed_session}
use Rattle.ode_transact.proofs.LogLaws.{disk_looks, logs_none}
use Rattle.ode_engine.proofs.KeptLaws.{none_kept}
use Rattle.ode_transact.specs.Logging.{Logs}
use Rattle.std.specs.Prelude.{OnOk}
use Rattle.ode_engine.proofs.commanding.carry_out.Goals as goal

pub class-requires-clause-numbers : goal.class-requires-clause-numbers
class-requires-clause-numbers g c =
    let text : HasText ode (statement.Class c.in-Class.decl) = subst (HasText ode) c.in-Class.is c.requires.text in
    piece_numbers text.0 c.in-Class.decl text.1

pub returns-in-Begin-clause-serves : goal.returns-in-Begin-clause-serves
returns-in-Begin-clause-serves g c w well rests left place =
    subst (λ (s : Statement). Serves g.H.Host.view g.K.Keep.holds g.K.Keep.live g.K.Keep.means ode (closed w) (carried ode (closed w) s) c.leave_open.result c.args.host.now c.leave_open.new.host c.args.output.now c.args.output.now) (sym c.in-Begin.is) (c.leave_open.ensures.serves w c.args.output.now well rests left)

pub returns-in-Class-clause-serves : goal.returns-in-Class-clause-serves
returns-in-Class-clause-serves g c w well rests left place =
    subst (λ (s : Statement). Serves g.H.Host.view g.K.Keep.holds g.K.Keep.live g.K.Keep.means ode (closed w) (carried ode (closed w) s) c.class.result c.args.host.now c.class.new.host c.args.output.now c.class.new.output) (sym c.in-Class.is)
    (c.class.ensures.serves w well rests left (subst (HasText ode) c.in-Class.is c.requires.text))

pub returns-in-Clock-clause-serves : goal.returns-in-Clock-clause-serves
returns-in-Clock-clause-serves g c w well rests left place =
    subst (λ (s : Statement). Serves g.H.Host.view g.K.Keep.holds g.K.Keep.live g.K.Keep.means ode (closed w) (carried ode (closed w) s) c.clock.result c.args.host.now c.clock.new.host c.args.output.now c.clock.new.output) (sym c.in-Clock.is) (c.clock.ensures.serves w well rests left)

pub returns-in-Simple-clause-serves : goal.returns-in-Simple-clause-serves
returns-in-Simple-clause-serves g c w well rests left place =
    subst (λ (s : Statement). Serves g.H.Host.view g.K.Keep.holds g.K.Keep.live g.K.Keep.means ode (closed w) (carried ode (closed w) s) c.simple.result c.args.host.now c.simple.new.host c.args.output.now c.simple.new.output) (sym c.in-Simple.is)
    (c.simple.ensures.serves w well rests left (subst (HasText ode) c.in-Simple.is c.requires.text))

pub returns-in_default-clause-serves : goal.returns-in_default-clause-serves
returns-in_default-clause-serves g c w well rests left place =
    let lone : c.args.s.now ≡ statement.Empty = empty_outside c.args.s.now place c.in_default.not-Begin c.in_default.not-Class c.in_default.not-Clock c.in_default.not-Simple in
    subst (λ (s : Statement). Serves g.H.Host.view g.K.Keep.holds g.K.Keep.live g.K.Keep.means ode (closed w) (carried ode (closed w) s) (Ok (state.Rest c.args.rest, done.Settled 0)) c.args.host.now c.args.host.now c.args.output.now c.args.output.now) (sym lone)
    (quiet_serves g.H.Host.view g.K.Keep.holds g.K.Keep.live g.K.Keep.means ode g.met.K.Keep.stands g.met.H.Host.text_stands c.args.output.now c.args.output.now refl (closed w) (Ok (closed w, [])) (state.Rest c.args.rest) (done.Settled 0) c.args.host.now c.args.host.now
    (rest_now g.H.Host.view g.K.Keep.holds g.K.Keep.live ode w c.args.rest c.args.host.now well rests) (looks_none (g.H.Host.view c.args.host.now)) refl refl (closed_session w well) (refl, rests))

pub returns-in_default-clause-leaves : goal.returns-in_default-clause-leaves
returns-in_default-clause-leaves g c = told_none _ _ _ (quiet_none (g.H.Host.view c.args.host.now))

pub returns-in-Begin-clause-logs : goal.returns-in-Begin-clause-logs
returns-in-Begin-clause-logs g c w entries well rests left place disk =
    subst (λ (s : Statement). OnOk c.leave_open.result (Logs g.K.Keep.means ode w entries (settlings (carried ode (closed w) s)) c.args.log.now c.args.log.now (g.H.Host.view c.leave_open.new.host))) (sym c.in-Begin.is)
    (none_kept g.K.Keep.means c.leave_open.result w entries c.args.log.now (g.H.Host.view c.leave_open.new.host) (disk_looks g.K.Keep.means entries (g.H.Host.view c.args.host.now) (g.H.Host.view c.leave_open.new.host) c.leave_open.ensures.looks disk))

pub returns-in-Class-clause-logs : goal.returns-in-Class-clause-logs
returns-in-Class-clause-logs g c w entries well rests left place disk =
    subst (λ (s : Statement). OnOk c.class.result (Logs g.K.Keep.means ode w entries (settlings (carried ode (closed w) s)) c.args.log.now c.class.new.log (g.H.Host.view c.class.new.host))) (sym c.in-Class.is) (c.class.ensures.logs w entries well rests left (subst (HasText ode) c.in-Class.is c.requires.text) disk)

pub returns-in-Clock-clause-logs : goal.returns-in-Clock-clause-logs
returns-in-Clock-clause-logs g c w entries well rests left place disk =
    subst (λ (s : Statement). OnOk c.clock.result (Logs g.K.Keep.means ode w entries (settlings (carried ode (closed w) s)) c.args.log.now c.clock.new.log (g.H.Host.view c.clock.new.host))) (sym c.in-Clock.is) (c.clock.ensures.logs w entries well rests left disk)

pub returns-in-Simple-clause-logs : goal.returns-in-Simple-clause-logs
returns-in-Simple-clause-logs g c w entries well rests left place disk =
    subst (λ (s : Statement). OnOk c.simple.result (Logs g.K.Keep.means ode w entries (settlings (carried ode (closed w) s)) c.args.log.now c.simple.new.log (g.H.Host.view c.simple.new.host))) (sym c.in-Simple.is) (c.simple.ensures.logs w entries well rests left (subst (HasText ode) c.in-Simple.is c.requires.text) disk)

pub returns-in_default-clause-logs : goal.returns-in_default-clause-logs
returns-in_default-clause-logs g c w entries well rests left place disk =
    let lone : c.args.s.now ≡ statement.Empty = empty_outside c.args.s.now place c.in_default.not-Begin c.in_default.not-Class c.in_default.not-Clock c.in_default.not-Simple in
    subst (λ (s : Statement). Logs g.K.Keep.means ode w entries (settlings (carried ode (closed w) s)) c.args.log.now c.args.log.now (g.H.Host.view c.args.host.now)) (sym lone) (logs_none g.K.Keep.means ode w entries c.args.log.now (g.H.Host.view c.args.host.now) disk)
