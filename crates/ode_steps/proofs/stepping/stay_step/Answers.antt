use Rattle.std.proofs.Common.{◌∙◌, ◌++◌, ◌∷◌, [], false, subst, sym}
use Rattle.ode_engine.proofs.ServeLaws.{running_now}
use Rattle.ode_holders.specs.Opens.{opens_as, taken_as}
use Rattle.ode_holders.specs.Rising.{AreRising}
use Rattle.ode_host.proofs.Moments.{looks_none}
use Rattle.ode_language.specs.Languages.{ode}
use Rattle.ode_machine.specs.Interleaving.{Stays, replies_to, session_of}
use Rattle.ode_steps.proofs.AnswerLaws.{put_off_serves, stays_serves}
use Rattle.ode_steps.proofs.BackLaws.{runs_back}
use Rattle.ode_steps.proofs.ReplyLaws.{found_is, stays_open}
use Rattle.ode_steps.proofs.ServeLaws.{stopped_serves}
use Rattle.ode_transact.specs.Resting.{IsAtRest}
use Rattle.ode_transact.specs.declared.error.EngineError.TheVariants as error
use Rattle.ode_interleaved_laws.specs.Serial.{taken_of}
use Rattle.ode_steps.proofs.stepping.stay_step.Goals as goal

pub returns-in-Some-clause-serves : goal.returns-in-Some-clause-serves
returns-in-Some-clause-serves g c m x host is same runs goes_on =
    put_off_serves g.H.Host.view g.K.Keep.holds g.K.Keep.live g.K.Keep.means g.met.K.Keep.stands g.met.H.Host.text_stands m c.args.session c.put_back.result c.args.sessions.now host host (running_now g.H.Host.view g.K.Keep.holds g.K.Keep.live ode m.world c.args.ctx host x is.well runs) (looks_none (g.H.Host.view host)) false (Stays (taken_of (session_of c.args.session m.sessions) ++ taken_as c.args.taken ∷ []) x) _ (found_is c.holder.result c.args.ctx.overlay.footprint x.footprint (opens_as c.args.sessions.now) m.sessions c.args.session (rw c.as_slice.ensures at c.holder.ensures) runs.runs.footprint same ∙ c.in-Some.is)
    (record { goes_on = is; rests = (subst (λ o. IsAtRest g.H.Host.view g.K.Keep.holds g.K.Keep.live ode m.world o host) (sym c.put_back.ensures) (runs_back g.H.Host.view g.K.Keep.holds g.K.Keep.live ode m.world c.args.ctx host x runs)); same = same })

pub returns-in-Err-clause-serves : goal.returns-in-Err-clause-serves
returns-in-Err-clause-serves g c m x host is same runs goes_on =
    stopped_serves g.H.Host.view g.K.Keep.holds g.K.Keep.live g.K.Keep.means ode g.met.K.Keep.stands g.met.H.Host.text_stands m (replies_to m c.args.session false (Stays (taken_of (session_of c.args.session m.sessions) ++ taken_as c.args.taken ∷ []) x)) error.Memory c.keep_taken.new.sessions host host (running_now g.H.Host.view g.K.Keep.holds g.K.Keep.live ode m.world c.args.ctx host x is.well runs) (looks_none (g.H.Host.view host)) tt

pub returns-in-Ok-clause-serves : goal.returns-in-Ok-clause-serves
returns-in-Ok-clause-serves g c m x host is same runs goes_on =
    stays_serves g.H.Host.view g.K.Keep.holds g.K.Keep.live g.K.Keep.means g.met.K.Keep.stands g.met.H.Host.text_stands m c.args.session c.put_back-in-Ok.result c.keep_taken.new.sessions host host (running_now g.H.Host.view g.K.Keep.holds g.K.Keep.live ode m.world c.args.ctx host x is.well runs) (looks_none (g.H.Host.view host)) (taken_of (session_of c.args.session m.sessions) ++ taken_as c.args.taken ∷ []) x
    (stays_open m c.args.session (opens_as c.args.sessions.now) (opens_as c.keep_taken.new.sessions) (taken_as c.args.taken) c.args.ctx.overlay.footprint x same runs.runs.footprint (c.in-Ok.ensures (subst AreRising (sym same) is.rising)))
    (found_is c.holder.result c.args.ctx.overlay.footprint x.footprint (opens_as c.args.sessions.now) m.sessions c.args.session (rw c.as_slice.ensures at c.holder.ensures) runs.runs.footprint same ∙ c.in-None.is) goes_on (subst (λ o. IsAtRest g.H.Host.view g.K.Keep.holds g.K.Keep.live ode m.world o host) (sym c.put_back-in-Ok.ensures) (runs_back g.H.Host.view g.K.Keep.holds g.K.Keep.live ode m.world c.args.ctx host x runs))
