use Rattle.std.proofs.Common.{◌≡◌, ◌∙◌, Ok, ap, refl, subst, sym}
use Rattle.ode_engine.proofs.ServeLaws.{quiet_none, rest_now, told_none}
use Rattle.ode_host.proofs.Moments.{looks_none}
use Rattle.ode_interleaved_laws.specs.Meeting.{IsInterleaved}
use Rattle.ode_language.specs.Languages.{ode}
use Rattle.ode_machine.specs.Interleaving.{Refuses, Reply, replies_to, session_of, tries, in_place, is_alone, step}
use Rattle.ode_steps.proofs.ServeLaws.{quiet_serves}
use Rattle.ode_steps.specs.Serving.{Serves, after_reply}
use Rattle.ode_machine.specs.Refusals.{place_of}
use Rattle.ode_steps.proofs.PlacedLaws.{placed_as}
use Rattle.ode_steps.proofs.ReplyLaws.{goes_on_behind}
use Rattle.ode_steps.specs.declared.answer.Answer.TheVariants as answer
use Rattle.ode_value.specs.Answers.{Answer}
use Rattle.std.specs.Prelude.{is_some}
use Rattle.ode_steps.proofs.stepping.step_in.Goals as goal

pub returns-in-Err-clause-serves : goal.returns-in-Err-clause-serves
returns-in-Err-clause-serves g c m here =
    subst (λ (a : Answer (Unit {0})). Serves g.H.Host.view g.K.Keep.holds g.K.Keep.live g.K.Keep.means ode m (in_place a (replies_to m c.args.session (is_alone c.args.s.now) (tries ode m (session_of c.args.session m.sessions) c.args.s.now))) (Ok (c.args.rest, answer.Refused c.in-Err.why)) c.args.sessions.now c.args.host.now c.args.host.now) (sym (placed_as c.args.session c.args.sessions.now m.sessions c.args.s.now c.is_open.result here.same (rw c.as_slice.ensures at c.is_open.ensures) ∙ sym c.place_of.ensures ∙ c.in-Err.is))
    (quiet_serves g.H.Host.view g.K.Keep.holds g.K.Keep.live g.K.Keep.means ode g.met.K.Keep.stands g.met.H.Host.text_stands m (Refuses c.in-Err.why) c.args.rest (answer.Refused c.in-Err.why) c.args.sessions.now c.args.host.now c.args.host.now (rest_now g.H.Host.view g.K.Keep.holds g.K.Keep.live ode m.world c.args.rest c.args.host.now here.goes_on.well here.rests) (looks_none (g.H.Host.view c.args.host.now)) refl refl here)

pub returns-in-Err-clause-leaves : goal.returns-in-Err-clause-leaves
returns-in-Err-clause-leaves g c =
    told_none _ _ _ (quiet_none (g.H.Host.view c.args.host.now))

pub returns-in-Ok-clause-serves : goal.returns-in-Ok-clause-serves
returns-in-Ok-clause-serves g c m here =
    let n = c.args.session in
    let placed : place_of c.args.s.now (is_some (session_of n m.sessions)) ≡ Ok tt = (placed_as c.args.session c.args.sessions.now m.sessions c.args.s.now c.is_open.result here.same (rw c.as_slice.ensures at c.is_open.ensures) ∙ sym c.place_of.ensures ∙ c.in-Ok.is) in
    let same : step ode m n c.args.s.now ≡ replies_to m n (is_alone c.args.s.now) (tries ode m (session_of n m.sessions) c.args.s.now) =
    ap (λ (a : Answer (Unit {0})). in_place a (replies_to m n (is_alone c.args.s.now) (tries ode m (session_of n m.sessions) c.args.s.now))) placed in
    let goes_on = goes_on_behind m here.goes_on n (step ode m n c.args.s.now) (λ now settled is. c.sessions_stay_apart.ensures.step m n c.args.s.now now settled here.goes_on c.requires.text is) in
    subst (λ (reply : Reply). Serves g.H.Host.view g.K.Keep.holds g.K.Keep.live g.K.Keep.means ode m reply c.step_placed.result c.step_placed.new.sessions c.args.host.now c.step_placed.new.host) (sym same)
    (c.step_placed.ensures.serves m here placed (subst (λ (reply : Reply). IsInterleaved ode (after_reply m reply)) same goes_on))
