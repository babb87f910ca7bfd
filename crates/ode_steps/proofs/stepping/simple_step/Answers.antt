use Rattle.std.proofs.Common.{◌≡◌, ◌∙◌, [], Ok, false, ap, subst, sym}
use Rattle.ode_engine.proofs.FaultLaws.{undamaged_by}
use Rattle.ode_engine.proofs.ServeLaws.{quiet_by, rest_now, told_by, told_none, told_on}
use Rattle.ode_holders.specs.Opens.{opens_as}
use Rattle.ode_language.specs.Languages.{ode}
use Rattle.ode_machine.specs.Interleaving.{Trial, replies_to, session_of, tries, view, literal_objects}
use Rattle.ode_steps.proofs.AnswerLaws.{turned_serves}
use Rattle.ode_steps.proofs.ServeLaws.{behind_serves, stopped_serves}
use Rattle.ode_steps.specs.Serving.{Serves}
use Rattle.std.proofs.lemmas.Result.{err_from_is_err_and}
use Rattle.ode_value.specs.Transactions.{looking}
use Rattle.ode_steps.proofs.NumberLaws.{none_holder, over_is, simple_spent, some_other, spent_is}
use Rattle.ode_steps.proofs.OpenedLaws.{open_is}
use Rattle.ode_steps.specs.declared.answer.Answer.TheVariants as answer
use Rattle.ode_value.specs.declared.reason.Refusal.TheVariants as refusal
use Rattle.ode_value.specs.declared.statement.Statement.TheVariants as statement
use Rattle.ode_steps.proofs.stepping.simple_step.Goals as goal

pub returns-in_err-rest-clause-serves : goal.returns-in_err-rest-clause-serves
returns-in_err-rest-clause-serves g c m here goes_on =
    let p = err_from_is_err_and c.from_residual.result c.from_residual.ensures.1 in
    rw (p.1, p.2) (stopped_serves g.H.Host.view g.K.Keep.holds g.K.Keep.live g.K.Keep.means ode g.met.K.Keep.stands g.met.H.Host.text_stands m (replies_to m c.args.session false (tries ode m (session_of c.args.session m.sessions) (statement.Simple c.args.s.now))) _ _ c.args.host.now c.has_number.new.host (rest_now g.H.Host.view g.K.Keep.holds g.K.Keep.live ode m.world c.args.rest c.args.host.now here.goes_on.well here.rests) c.in_err-rest.ensures.looks (undamaged_by _ _ c.in_err-rest.ensures.undamaged (λ never. never m (rw c.as_slice.ensures here))))

pub returns-in_err-rest-clause-leaves : goal.returns-in_err-rest-clause-leaves
returns-in_err-rest-clause-leaves g c =
    let p = err_from_is_err_and c.from_residual.result c.from_residual.ensures.1 in
    rw (p.1, p.2) (told_by _ _ _ _ (λ is. cc (is)) (λ is. cc (is)) (λ is. c.in_err-rest.ensures.silent (cc (is))) c.in_err-rest.ensures.looks c.in_err-rest.ensures.cause)

pub returns-then-is_over-clause-serves : goal.returns-then-is_over-clause-serves
returns-then-is_over-clause-serves g c m here goes_on =
    let so = rw c.as_slice.ensures at (c.in_ok-rest.ensures.is m (rw c.as_slice.ensures here)) in
    let over = over_is c.args.sessions.now c.is_spent-spent.result (sym (rw c.as_slice-3.ensures at c.is_over.ensures) ∙ c.if-is_over.true) in
    let none : m.sessions ≡ [] = sym here.same ∙ ap opens_as over.1 in
    subst (λ (t : Trial). Serves g.H.Host.view g.K.Keep.holds g.K.Keep.live g.K.Keep.means ode m (replies_to m c.args.session false t) (Ok (c.in_ok-rest.rest, answer.Refused refusal.NumbersSpent)) c.args.sessions.now c.args.host.now c.has_number.new.host) (sym (simple_spent m c.args.session c.args.s.now c.is_spent-spent.result (c.is_spent-spent.ensures ∙ spent_is m c.args.session c.args.s.now c.is_open.result c.in_ok-rest.left (open_is c.args.session c.args.sessions.now m.sessions here.same c.is_open.result (rw c.as_slice-2.ensures at c.is_open.ensures)) so.1) over.0))
    (turned_serves g.H.Host.view g.K.Keep.holds g.K.Keep.live g.K.Keep.means g.met.K.Keep.stands g.met.H.Host.text_stands m c.args.session c.in_ok-rest.rest c.args.sessions.now c.args.host.now c.has_number.new.host (rest_now g.H.Host.view g.K.Keep.holds g.K.Keep.live ode m.world c.args.rest c.args.host.now here.goes_on.well here.rests) c.in_ok-rest.ensures.looks false refusal.NumbersSpent (looking (literal_objects ode c.args.s.now) (view m.world (session_of c.args.session m.sessions))) (none_holder m c.args.session false _ none) so.0)

pub returns-then-is_over-clause-leaves : goal.returns-then-is_over-clause-leaves
returns-then-is_over-clause-leaves g c =
    told_none _ _ _ (quiet_by _ _ _ (λ is. cc (is)) c.in_ok-rest.ensures.looks c.in_ok-rest.ensures.cause)

pub returns-clause-serves : goal.returns-clause-serves
returns-clause-serves g c m here goes_on =
    let so = rw c.as_slice.ensures at (c.in_ok-rest.ensures.is m (rw c.as_slice.ensures here)) in
    behind_serves g.H.Host.view g.K.Keep.holds g.K.Keep.live g.K.Keep.means ode g.met.K.Keep.stands g.met.H.Host.text_stands m (replies_to m c.args.session false (tries ode m (session_of c.args.session m.sessions) (statement.Simple c.args.s.now))) c.simple_tried.result c.simple_tried.new.sessions c.args.host.now c.has_number.new.host c.simple_tried.new.host (rest_now g.H.Host.view g.K.Keep.holds g.K.Keep.live ode m.world c.args.rest c.args.host.now here.goes_on.well here.rests) c.in_ok-rest.ensures.looks
    (c.simple_tried.ensures.serves m so.0 (c.is_spent-spent.ensures ∙ spent_is m c.args.session c.args.s.now c.is_open.result c.in_ok-rest.left (open_is c.args.session c.args.sessions.now m.sessions here.same c.is_open.result (rw c.as_slice-2.ensures at c.is_open.ensures)) so.1) (some_other m c.args.sessions.now c.is_spent-spent.result here.same (sym (rw c.as_slice-3.ensures at c.is_over.ensures) ∙ c.if-is_over.false)) goes_on)

pub returns-clause-leaves : goal.returns-clause-leaves
returns-clause-leaves g c =
    told_on _ _ _ _ _ (quiet_by _ _ _ (λ is. cc (is)) c.in_ok-rest.ensures.looks c.in_ok-rest.ensures.cause).1 c.simple_tried.ensures.leaves
