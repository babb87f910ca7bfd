use Rattle.std.proofs.Common.{◌∙◌, false, subst, sym}
use Rattle.ode_engine.proofs.ServeLaws.{running_now}
use Rattle.ode_holders.specs.Opens.{opens_as}
use Rattle.ode_host.proofs.Moments.{looks_none}
use Rattle.ode_language.specs.Languages.{ode}
use Rattle.ode_machine.specs.Interleaving.{Turns}
use Rattle.ode_steps.proofs.AnswerLaws.{put_off_serves, turned_serves}
use Rattle.ode_steps.proofs.BackLaws.{runs_back}
use Rattle.ode_steps.proofs.ReplyLaws.{found_is}
use Rattle.ode_transact.specs.Resting.{IsAtRest}
use Rattle.ode_steps.proofs.stepping.refuse_step.Goals as goal

pub returns-in-Some-clause-serves : goal.returns-in-Some-clause-serves
returns-in-Some-clause-serves g c m x host is same runs =
    put_off_serves g.H.Host.view g.K.Keep.holds g.K.Keep.live g.K.Keep.means g.met.K.Keep.stands g.met.H.Host.text_stands m c.args.session c.put_back.result c.args.sessions.now host host (running_now g.H.Host.view g.K.Keep.holds g.K.Keep.live ode m.world c.args.ctx host x is.well runs) (looks_none (g.H.Host.view host)) false (Turns c.args.why x) _ (found_is c.holder.result c.args.ctx.overlay.footprint x.footprint (opens_as c.args.sessions.now) m.sessions c.args.session c.holder.ensures runs.runs.footprint same ∙ c.in-Some.is)
    (record { goes_on = is; rests = (subst (λ o. IsAtRest g.H.Host.view g.K.Keep.holds g.K.Keep.live ode m.world o host) (sym c.put_back.ensures) (runs_back g.H.Host.view g.K.Keep.holds g.K.Keep.live ode m.world c.args.ctx host x runs)); same = same })

pub returns-in-None-clause-serves : goal.returns-in-None-clause-serves
returns-in-None-clause-serves g c m x host is same runs =
    turned_serves g.H.Host.view g.K.Keep.holds g.K.Keep.live g.K.Keep.means g.met.K.Keep.stands g.met.H.Host.text_stands m c.args.session c.put_back-in-None.result c.args.sessions.now host host (running_now g.H.Host.view g.K.Keep.holds g.K.Keep.live ode m.world c.args.ctx host x is.well runs) (looks_none (g.H.Host.view host)) false c.args.why x (found_is c.holder.result c.args.ctx.overlay.footprint x.footprint (opens_as c.args.sessions.now) m.sessions c.args.session c.holder.ensures runs.runs.footprint same ∙ c.in-None.is)
    (record { goes_on = is; rests = (subst (λ o. IsAtRest g.H.Host.view g.K.Keep.holds g.K.Keep.live ode m.world o host) (sym c.put_back-in-None.ensures) (runs_back g.H.Host.view g.K.Keep.holds g.K.Keep.live ode m.world c.args.ctx host x runs)); same = same })
