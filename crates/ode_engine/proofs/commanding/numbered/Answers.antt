use Rattle.std.proofs.lemmas.Result.{err_from_is_err_and}
use Rattle.ode_value.specs.Limits.{number_limit}
use Rattle.std.proofs.Common.{◌<◌, ◌≤◌, Err, Ok, arith, refl, subst, sym}
use Rattle.ode_language.specs.Languages.{ode}
use Rattle.ode_machine.specs.Commands.{Step, carried}
use Rattle.ode_machine.specs.Sessions.{closed}
use Rattle.ode_value.specs.Answers.{Answer}
use Rattle.ode_value.specs.declared.reason.Refusal.TheVariants as refusal
use Rattle.ode_engine.specs.Serving.{Serves, answer_to, settlings}
use Rattle.ode_engine.specs.declared.commanding.State.TheVariants as state
use Rattle.ode_engine.specs.declared.engine.Done.TheVariants as done
use Rattle.ode_engine.proofs.PlaceLaws.{placed_outside, spent_outside}
use Rattle.ode_engine.proofs.FaultLaws.{undamaged_by}
use Rattle.ode_engine.proofs.ServeLaws.{behind_serves, quiet_by, quiet_serves, rest_now, stopped_serves, told_by, told_none, told_on}
use Rattle.ode_engine.proofs.SessionLaws.{closed_session}
use Rattle.ode_transact.proofs.LogLaws.{disk_looks, logs_none}
use Rattle.ode_transact.specs.Logging.{Logs}
use Rattle.std.specs.Prelude.{OnOk}
use Rattle.ode_engine.proofs.commanding.numbered.Goals as goal

pub returns-in_err-rest-clause-serves : goal.returns-in_err-rest-clause-serves
returns-in_err-rest-clause-serves g c w well rests place lone =
    let p = err_from_is_err_and c.from_residual.result c.from_residual.ensures.1 in
    rw (p.1, p.2) (stopped_serves g.H.Host.view g.K.Keep.holds g.K.Keep.live g.K.Keep.means ode g.met.K.Keep.stands g.met.H.Host.text_stands c.args.output.now c.args.output.now (closed w) (answer_to ode (closed w) c.args.s.now) _ c.args.host.now c.next_number.new.host (rest_now g.H.Host.view g.K.Keep.holds g.K.Keep.live ode w c.args.rest c.args.host.now well rests)
    c.in_err-rest.ensures.looks (undamaged_by _ _ c.in_err-rest.ensures.undamaged (λ never. never ode w rests)))

pub returns-then-number-ge-NUMBER_LIMIT-clause-serves : goal.returns-then-number-ge-NUMBER_LIMIT-clause-serves
returns-then-number-ge-NUMBER_LIMIT-clause-serves g c w well rests place lone =
    let next = c.in_ok-rest.ensures.is ode w rests in
    let none : number_limit ≤ w.bones.transaction = omega (arith, next.1, c.if-number-ge-NUMBER_LIMIT.true) in
    subst (λ (a : Answer Step). Serves g.H.Host.view g.K.Keep.holds g.K.Keep.live g.K.Keep.means ode (closed w) a (Ok (state.Rest c.in_ok-rest.rest, done.Refused refusal.NumbersSpent)) c.args.host.now c.next_number.new.host c.args.output.now c.args.output.now) (sym (spent_outside w c.args.s.now place lone none))
    (quiet_serves g.H.Host.view g.K.Keep.holds g.K.Keep.live g.K.Keep.means ode g.met.K.Keep.stands g.met.H.Host.text_stands c.args.output.now c.args.output.now refl (closed w) (Err refusal.NumbersSpent) (state.Rest c.in_ok-rest.rest) (done.Refused refusal.NumbersSpent) c.args.host.now c.next_number.new.host (rest_now g.H.Host.view g.K.Keep.holds g.K.Keep.live ode w c.args.rest c.args.host.now well rests)
    c.in_ok-rest.ensures.looks refl refl (closed_session w well) (refl, next.0))

pub returns-clause-serves : goal.returns-clause-serves
returns-clause-serves g c w well rests place lone =
    let next = c.in_ok-rest.ensures.is ode w rests in
    let less : w.bones.transaction < number_limit = omega (arith, next.1, c.if-number-ge-NUMBER_LIMIT.false) in
    subst (λ (a : Answer Step). Serves g.H.Host.view g.K.Keep.holds g.K.Keep.live g.K.Keep.means ode (closed w) a c.carry_out.result c.args.host.now c.carry_out.new.host c.args.output.now c.carry_out.new.output) (sym (placed_outside w c.args.s.now place less))
    (behind_serves g.H.Host.view g.K.Keep.holds g.K.Keep.live g.K.Keep.means ode g.met.K.Keep.stands g.met.H.Host.text_stands c.args.output.now c.carry_out.new.output (closed w) (carried ode (closed w) c.args.s.now) c.carry_out.result c.args.host.now c.next_number.new.host c.carry_out.new.host (rest_now g.H.Host.view g.K.Keep.holds g.K.Keep.live ode w c.args.rest c.args.host.now well rests)
    c.in_ok-rest.ensures.looks (c.carry_out.ensures.serves w well next.0 less place))

pub returns-in_err-rest-clause-leaves : goal.returns-in_err-rest-clause-leaves
returns-in_err-rest-clause-leaves g c =
    let p = err_from_is_err_and c.from_residual.result c.from_residual.ensures.1 in
    rw (p.1, p.2) (told_by _ _ _ _ (λ is. cc (is)) (λ is. cc (is)) (λ is. c.in_err-rest.ensures.silent (cc (is))) c.in_err-rest.ensures.looks c.in_err-rest.ensures.cause)

pub returns-then-number-ge-NUMBER_LIMIT-clause-leaves : goal.returns-then-number-ge-NUMBER_LIMIT-clause-leaves
returns-then-number-ge-NUMBER_LIMIT-clause-leaves g c = told_none _ _ _ (quiet_by _ _ _ (λ is. cc (is)) c.in_ok-rest.ensures.looks c.in_ok-rest.ensures.cause)

pub returns-clause-leaves : goal.returns-clause-leaves
returns-clause-leaves g c = told_on _ _ _ _ _ (quiet_by _ _ _ (λ is. cc (is)) c.in_ok-rest.ensures.looks c.in_ok-rest.ensures.cause).1 c.carry_out.ensures.leaves

pub returns-then-number-ge-NUMBER_LIMIT-clause-logs : goal.returns-then-number-ge-NUMBER_LIMIT-clause-logs
returns-then-number-ge-NUMBER_LIMIT-clause-logs g c w entries well rests place lone disk =
    let next = c.in_ok-rest.ensures.is ode w rests in
    let none : number_limit ≤ w.bones.transaction = omega (arith, next.1, c.if-number-ge-NUMBER_LIMIT.true) in
    subst (λ (a : Answer Step). Logs g.K.Keep.means ode w entries (settlings a) c.args.log.now c.args.log.now (g.H.Host.view c.next_number.new.host)) (sym (spent_outside w c.args.s.now place lone none))
    (logs_none g.K.Keep.means ode w entries c.args.log.now (g.H.Host.view c.next_number.new.host) (disk_looks g.K.Keep.means entries (g.H.Host.view c.args.host.now) (g.H.Host.view c.next_number.new.host) c.in_ok-rest.ensures.looks disk))

pub returns-clause-logs : goal.returns-clause-logs
returns-clause-logs g c w entries well rests place lone disk =
    let next = c.in_ok-rest.ensures.is ode w rests in
    let less : w.bones.transaction < number_limit = omega (arith, next.1, c.if-number-ge-NUMBER_LIMIT.false) in
    subst (λ (a : Answer Step). OnOk c.carry_out.result (Logs g.K.Keep.means ode w entries (settlings a) c.args.log.now c.carry_out.new.log (g.H.Host.view c.carry_out.new.host))) (sym (placed_outside w c.args.s.now place less))
    (c.carry_out.ensures.logs w entries well next.0 less place (disk_looks g.K.Keep.means entries (g.H.Host.view c.args.host.now) (g.H.Host.view c.next_number.new.host) c.in_ok-rest.ensures.looks disk))
