use Rattle.std.proofs.lemmas.Result.{err_from_is_err_and}
use Rattle.ode_value.specs.Limits.{number_limit}
use Rattle.std.proofs.Common.{◌<◌, ◌≤◌, Err, Ok, arith, refl, subst, sym}
use Rattle.ode_language.specs.Languages.{ode}
use Rattle.ode_machine.specs.Commands.{Step, changes}
use Rattle.ode_machine.specs.Sessions.{closed}
use Rattle.ode_value.specs.Answers.{Answer}
use Rattle.ode_value.specs.declared.reason.Refusal.TheVariants as refusal
use Rattle.ode_engine.specs.Serving.{Serves, answer_to_change, settlings}
use Rattle.ode_engine.specs.declared.commanding.State.TheVariants as state
use Rattle.ode_engine.specs.declared.engine.Done.TheVariants as done
use Rattle.ode_engine.proofs.PlaceLaws.{placed_change_is, spent_change}
use Rattle.ode_engine.proofs.FaultLaws.{undamaged_by}
use Rattle.ode_engine.proofs.ServeLaws.{behind_serves, quiet_by, quiet_serves, rest_now, stopped_serves, told_by, told_none, told_on}
use Rattle.ode_engine.proofs.SessionLaws.{closed_session}
use Rattle.ode_transact.proofs.LogLaws.{disk_looks, logs_none}
use Rattle.ode_transact.specs.Logging.{Logs}
use Rattle.std.specs.Prelude.{OnOk}
use Rattle.ode_engine.proofs.commanding.change_at_rest.Goals as goal

pub returns-in_err-rest-clause-serves : goal.returns-in_err-rest-clause-serves
returns-in_err-rest-clause-serves g c w well rests =
    let p = err_from_is_err_and c.from_residual.result c.from_residual.ensures.1 in
    rw (p.1, p.2) (stopped_serves g.H.Host.view g.K.Keep.holds g.K.Keep.live g.K.Keep.means ode g.met.K.Keep.stands g.met.H.Host.text_stands c.args.output.now c.args.output.now (closed w) (changes ode (closed w) c.args.c.now) _ c.args.host.now c.next_number.new.host (rest_now g.H.Host.view g.K.Keep.holds g.K.Keep.live ode w c.args.rest c.args.host.now well rests)
    c.in_err-rest.ensures.looks (undamaged_by _ _ c.in_err-rest.ensures.undamaged (λ never. never ode w rests)))

pub returns-then-next-ge-NUMBER_LIMIT-clause-serves : goal.returns-then-next-ge-NUMBER_LIMIT-clause-serves
returns-then-next-ge-NUMBER_LIMIT-clause-serves g c w well rests =
    let next = c.in_ok-rest.ensures.is ode w rests in
    let none : number_limit ≤ w.bones.transaction = omega (arith, next.1, c.if-next-ge-NUMBER_LIMIT.true) in
    subst (λ (a : Answer Step). Serves g.H.Host.view g.K.Keep.holds g.K.Keep.live g.K.Keep.means ode (closed w) a (Ok (state.Rest c.in_ok-rest.rest, done.Refused refusal.NumbersSpent)) c.args.host.now c.next_number.new.host c.args.output.now c.args.output.now) (sym (spent_change w c.args.c.now none))
    (quiet_serves g.H.Host.view g.K.Keep.holds g.K.Keep.live g.K.Keep.means ode g.met.K.Keep.stands g.met.H.Host.text_stands c.args.output.now c.args.output.now refl (closed w) (Err refusal.NumbersSpent) (state.Rest c.in_ok-rest.rest) (done.Refused refusal.NumbersSpent) c.args.host.now c.next_number.new.host (rest_now g.H.Host.view g.K.Keep.holds g.K.Keep.live ode w c.args.rest c.args.host.now well rests)
    c.in_ok-rest.ensures.looks refl refl (closed_session w well) (refl, next.0))

pub returns-clause-serves : goal.returns-clause-serves
returns-clause-serves g c w well rests =
    let next = c.in_ok-rest.ensures.is ode w rests in
    let less : w.bones.transaction < number_limit = omega (arith, next.1, c.if-next-ge-NUMBER_LIMIT.false) in
    subst (λ (a : Answer Step). Serves g.H.Host.view g.K.Keep.holds g.K.Keep.live g.K.Keep.means ode (closed w) a c.change_numbered.result c.args.host.now c.change_numbered.new.host c.args.output.now c.change_numbered.new.output) (sym (placed_change_is w c.args.c.now less))
    (behind_serves g.H.Host.view g.K.Keep.holds g.K.Keep.live g.K.Keep.means ode g.met.K.Keep.stands g.met.H.Host.text_stands c.args.output.now c.change_numbered.new.output (closed w) (answer_to_change ode w c.args.c.now) c.change_numbered.result c.args.host.now c.next_number.new.host c.change_numbered.new.host (rest_now g.H.Host.view g.K.Keep.holds g.K.Keep.live ode w c.args.rest c.args.host.now well rests)
    c.in_ok-rest.ensures.looks (c.change_numbered.ensures.serves w well next.0 less))

pub returns-in_err-rest-clause-leaves : goal.returns-in_err-rest-clause-leaves
returns-in_err-rest-clause-leaves g c =
    let p = err_from_is_err_and c.from_residual.result c.from_residual.ensures.1 in
    rw (p.1, p.2) (told_by _ _ _ _ (λ is. cc (is)) (λ is. cc (is)) (λ is. c.in_err-rest.ensures.silent (cc (is))) c.in_err-rest.ensures.looks c.in_err-rest.ensures.cause)

pub returns-then-next-ge-NUMBER_LIMIT-clause-leaves : goal.returns-then-next-ge-NUMBER_LIMIT-clause-leaves
returns-then-next-ge-NUMBER_LIMIT-clause-leaves g c = told_none _ _ _ (quiet_by _ _ _ (λ is. cc (is)) c.in_ok-rest.ensures.looks c.in_ok-rest.ensures.cause)

pub returns-clause-leaves : goal.returns-clause-leaves
returns-clause-leaves g c = told_on _ _ _ _ _ (quiet_by _ _ _ (λ is. cc (is)) c.in_ok-rest.ensures.looks c.in_ok-rest.ensures.cause).1 c.change_numbered.ensures.leaves

pub returns-then-next-ge-NUMBER_LIMIT-clause-logs : goal.returns-then-next-ge-NUMBER_LIMIT-clause-logs
returns-then-next-ge-NUMBER_LIMIT-clause-logs g c w entries well rests disk =
    let next = c.in_ok-rest.ensures.is ode w rests in
    let none : number_limit ≤ w.bones.transaction = omega (arith, next.1, c.if-next-ge-NUMBER_LIMIT.true) in
    subst (λ (a : Answer Step). Logs g.K.Keep.means ode w entries (settlings a) c.args.log.now c.args.log.now (g.H.Host.view c.next_number.new.host)) (sym (spent_change w c.args.c.now none))
    (logs_none g.K.Keep.means ode w entries c.args.log.now (g.H.Host.view c.next_number.new.host) (disk_looks g.K.Keep.means entries (g.H.Host.view c.args.host.now) (g.H.Host.view c.next_number.new.host) c.in_ok-rest.ensures.looks disk))

pub returns-clause-logs : goal.returns-clause-logs
returns-clause-logs g c w entries well rests disk =
    let next = c.in_ok-rest.ensures.is ode w rests in
    let less : w.bones.transaction < number_limit = omega (arith, next.1, c.if-next-ge-NUMBER_LIMIT.false) in
    subst (λ (a : Answer Step). OnOk c.change_numbered.result (Logs g.K.Keep.means ode w entries (settlings a) c.args.log.now c.change_numbered.new.log (g.H.Host.view c.change_numbered.new.host))) (sym (placed_change_is w c.args.c.now less))
    (c.change_numbered.ensures.logs w entries well next.0 less (disk_looks g.K.Keep.means entries (g.H.Host.view c.args.host.now) (g.H.Host.view c.next_number.new.host) c.in_ok-rest.ensures.looks disk))
