use Rattle.std.proofs.Common.{◌≡◌, ◌∙◌, [], Ok, None, false, ap, subst, sym}
use Rattle.ode_engine.proofs.FaultLaws.{undamaged_by}
use Rattle.ode_engine.proofs.ServeLaws.{quiet_by, rest_now, told_by, told_none}
use Rattle.ode_holders.specs.Opens.{opens_as}
use Rattle.ode_host.proofs.Calls.{host_calls_as}
use Rattle.ode_interleaved_laws.specs.Meeting.{IsInterleaved}
use Rattle.ode_language.specs.Languages.{ode}
use Rattle.ode_machine.specs.Interleaving.{Stays, Trial, others_of, replies_to, tries, with_open, Open}
use Rattle.ode_steps.proofs.AnswerLaws.{stays_serves, turned_serves}
use Rattle.ode_steps.proofs.OpenedLaws.{fresh}
use Rattle.ode_steps.proofs.ServeLaws.{stopped_serves}
use Rattle.ode_steps.specs.Serving.{Serves, after_reply}
use Rattle.std.proofs.lemmas.Result.{err_from_is_err_and}
use Rattle.ode_interleaved_laws.proofs.OpenLaws.{others_none}
use Rattle.ode_steps.proofs.NumberLaws.{begin_spent, begin_stays, none_needed}
use Rattle.ode_steps.specs.declared.answer.Answer.TheVariants as answer
use Rattle.ode_transact.specs.declared.error.EngineError.TheVariants as error
use Rattle.ode_value.specs.Transactions.{Script, begun}
use Rattle.ode_value.specs.declared.reason.Refusal.TheVariants as refusal
use Rattle.ode_value.specs.declared.statement.Statement.TheVariants as statement
use Rattle.ode_steps.proofs.stepping.begin_step.Goals as goal

pub returns-in_err-rest-clause-serves : goal.returns-in_err-rest-clause-serves
returns-in_err-rest-clause-serves g c m here closed goes_on =
    let p = err_from_is_err_and c.from_residual.result c.from_residual.ensures.1 in
    rw (p.1, p.2) (stopped_serves g.H.Host.view g.K.Keep.holds g.K.Keep.live g.K.Keep.means ode g.met.K.Keep.stands g.met.H.Host.text_stands m (replies_to m c.args.session false (tries ode m None statement.Begin)) _ _ c.args.host.now c.has_number.new.host (rest_now g.H.Host.view g.K.Keep.holds g.K.Keep.live ode m.world c.args.rest c.args.host.now here.goes_on.well here.rests) c.in_err-rest.ensures.looks (undamaged_by _ _ c.in_err-rest.ensures.undamaged (λ never. never m (rw c.as_slice.ensures here))))

pub returns-in_err-rest-clause-leaves : goal.returns-in_err-rest-clause-leaves
returns-in_err-rest-clause-leaves g c =
    let p = err_from_is_err_and c.from_residual.result c.from_residual.ensures.1 in
    rw (p.1, p.2) (told_by _ _ _ _ (λ is. cc (is)) (λ is. cc (is)) (λ is. c.in_err-rest.ensures.silent (cc (is))) c.in_err-rest.ensures.looks c.in_err-rest.ensures.cause)

pub returns-then-not-left-clause-serves : goal.returns-then-not-left-clause-serves
returns-then-not-left-clause-serves g c m here closed goes_on =
    let so = rw c.as_slice.ensures at (c.in_ok-rest.ensures.is m (rw c.as_slice.ensures here)) in
    subst (λ (t : Trial). Serves g.H.Host.view g.K.Keep.holds g.K.Keep.live g.K.Keep.means ode m (replies_to m c.args.session false t) (Ok (c.in_ok-rest.rest, answer.Refused refusal.NumbersSpent)) c.args.sessions.now c.args.host.now c.has_number.new.host) (sym (begin_spent m (sym so.1 ∙ c.if-not-left.true)))
    (turned_serves g.H.Host.view g.K.Keep.holds g.K.Keep.live g.K.Keep.means g.met.K.Keep.stands g.met.H.Host.text_stands m c.args.session c.in_ok-rest.rest c.args.sessions.now c.args.host.now c.has_number.new.host (rest_now g.H.Host.view g.K.Keep.holds g.K.Keep.live ode m.world c.args.rest c.args.host.now here.goes_on.well here.rests) c.in_ok-rest.ensures.looks false refusal.NumbersSpent (begun Script m.world) (none_needed (others_of c.args.session m.sessions)) so.0)

pub returns-then-not-left-clause-leaves : goal.returns-then-not-left-clause-leaves
returns-then-not-left-clause-leaves g c =
    told_none _ _ _ (quiet_by _ _ _ (λ is. cc (is)) c.in_ok-rest.ensures.looks c.in_ok-rest.ensures.cause)

pub returns-in-Err-clause-serves : goal.returns-in-Err-clause-serves
returns-in-Err-clause-serves g c m here closed goes_on =
    stopped_serves g.H.Host.view g.K.Keep.holds g.K.Keep.live g.K.Keep.means ode g.met.K.Keep.stands g.met.H.Host.text_stands m (replies_to m c.args.session false (tries ode m None statement.Begin)) error.Memory c.put.new.sessions c.args.host.now c.has_number.new.host (rest_now g.H.Host.view g.K.Keep.holds g.K.Keep.live ode m.world c.args.rest c.args.host.now here.goes_on.well here.rests) c.in_ok-rest.ensures.looks tt

pub returns-in-Err-clause-leaves : goal.returns-in-Err-clause-leaves
returns-in-Err-clause-leaves g c =
    host_calls_as ⊥ ⊥ _ _ _ _ absurd (λ is. cc (is)) absurd (λ is. cc (is)) (quiet_by _ _ _ (λ is. cc (is)) c.in_ok-rest.ensures.looks c.in_ok-rest.ensures.cause).1

pub returns-in-Ok-clause-serves : goal.returns-in-Ok-clause-serves
returns-in-Ok-clause-serves g c m here closed goes_on =
    let so = rw c.as_slice.ensures at (c.in_ok-rest.ensures.is m (rw c.as_slice.ensures here)) in
    let t : tries ode m None statement.Begin ≡ Stays [] (begun Script m.world) = begin_stays m (sym so.1 ∙ c.if-not-left.false) in
    subst (λ (u : Trial). Serves g.H.Host.view g.K.Keep.holds g.K.Keep.live g.K.Keep.means ode m (replies_to m c.args.session false u) (Ok (c.in_ok-rest.rest, answer.Accepted)) c.put.new.sessions c.args.host.now c.has_number.new.host) (sym t)
    (stays_serves g.H.Host.view g.K.Keep.holds g.K.Keep.live g.K.Keep.means g.met.K.Keep.stands g.met.H.Host.text_stands m c.args.session c.in_ok-rest.rest c.put.new.sessions c.args.host.now c.has_number.new.host (rest_now g.H.Host.view g.K.Keep.holds g.K.Keep.live ode m.world c.args.rest c.args.host.now here.goes_on.well here.rests) c.in_ok-rest.ensures.looks [] (begun Script m.world)
    (c.in-Ok.ensures ∙ ap (λ (o : Open). with_open o (opens_as c.args.sessions.now)) c.fresh.ensures ∙ ap (with_open (fresh c.args.session)) (here.same ∙ sym (others_none c.args.session m.sessions closed)))
    (none_needed (others_of c.args.session m.sessions)) (subst (λ (u : Trial). IsInterleaved ode (after_reply m (replies_to m c.args.session false u))) t goes_on) so.0.rests)

pub returns-in-Ok-clause-leaves : goal.returns-in-Ok-clause-leaves
returns-in-Ok-clause-leaves g c =
    told_none _ _ _ (quiet_by _ _ _ (λ is. cc (is)) c.in_ok-rest.ensures.looks c.in_ok-rest.ensures.cause)
