use Rattle.std.proofs.Common.{◌∙◌, Ok, false, ap, subst}
use Rattle.ode_engine.proofs.ServeLaws.{quiet_none, told_none}
use Rattle.ode_holders.specs.Opens.{opens_as}
use Rattle.ode_interleaved_laws.specs.Meeting.{IsInterleaved}
use Rattle.ode_language.specs.Languages.{ode}
use Rattle.ode_machine.specs.Interleaving.{Trial, replies_to, session_of}
use Rattle.ode_transact.specs.Contexts.{ContextRuns}
use Rattle.ode_steps.proofs.ReplyLaws.{settled_so}
use Rattle.ode_steps.specs.Serving.{Serves, after_reply, EndsWell}
use Rattle.ode_interleaved_laws.specs.Serial.{taken_of}
use Rattle.ode_good_laws.specs.Well.{IsWell}
use Rattle.ode_steps.proofs.TriedLaws.{ends_as, memory_told, stays_as, turns_as}
use Rattle.ode_steps.proofs.stepping.answer_tried.Goals as goal

pub returns-in-Stays-clause-serves : goal.returns-in-Stays-clause-serves
returns-in-Stays-clause-serves g c m t is same tries_as well goes_on =
    stays_as (λ (u : Trial). EndsWell ode u → IsInterleaved ode (after_reply m (replies_to m c.args.session false u)) → Serves g.H.Host.view g.K.Keep.holds g.K.Keep.live g.K.Keep.means ode m (replies_to m c.args.session false u) c.stay_step.result c.stay_step.new.sessions c.args.host.now c.args.host.now) (taken_of (session_of c.args.session m.sessions)) (λ ctx. ContextRuns g.H.Host.view g.K.Keep.holds g.K.Keep.live ode m.world ctx c.args.host.now) c.in-Stays.ctx c.in-Stays.taken t (rw c.in-Stays.is at tries_as)
    (λ x runs fine on. c.stay_step.ensures.serves m x c.args.host.now is same runs on) well goes_on

pub returns-in-Stays-clause-leaves : goal.returns-in-Stays-clause-leaves
returns-in-Stays-clause-leaves g c =
    memory_told c.stay_step.result (g.H.Host.view c.args.host.now) c.stay_step.ensures.memory

pub returns-in-Ends-clause-serves : goal.returns-in-Ends-clause-serves
returns-in-Ends-clause-serves g c m t is same tries_as well goes_on =
    ends_as (λ (u : Trial). EndsWell ode u → IsInterleaved ode (after_reply m (replies_to m c.args.session false u)) → Serves g.H.Host.view g.K.Keep.holds g.K.Keep.live g.K.Keep.means ode m (replies_to m c.args.session false u) c.end_step.result c.end_step.new.sessions c.args.host.now c.end_step.new.host) (taken_of (session_of c.args.session m.sessions)) (λ ctx. ContextRuns g.H.Host.view g.K.Keep.holds g.K.Keep.live ode m.world ctx c.args.host.now) c.in-Ends.ctx c.in-Ends.ending t (rw c.in-Ends.is at tries_as)
    (λ x runs fine on. c.end_step.ensures.serves m x is same runs (subst (λ s. IsWell ode s.0) (settled_so c.in-Ends.ending x) fine) on) well goes_on

pub returns-in-Refused-clause-serves : goal.returns-in-Refused-clause-serves
returns-in-Refused-clause-serves g c m t is same tries_as well goes_on =
    turns_as (λ (u : Trial). EndsWell ode u → IsInterleaved ode (after_reply m (replies_to m c.args.session false u)) → Serves g.H.Host.view g.K.Keep.holds g.K.Keep.live g.K.Keep.means ode m (replies_to m c.args.session false u) (Ok c.refuse_step.result) c.args.sessions.now c.args.host.now c.args.host.now) (taken_of (session_of c.args.session m.sessions)) (λ ctx. ContextRuns g.H.Host.view g.K.Keep.holds g.K.Keep.live ode m.world ctx c.args.host.now) c.in-Refused.ctx c.in-Refused.why t (rw c.in-Refused.is at tries_as)
    (λ x runs fine on. rw c.as_slice.ensures at (c.refuse_step.ensures.serves m x c.args.host.now is (ap opens_as c.as_slice.ensures ∙ same) runs)) well goes_on

pub returns-in-Refused-clause-leaves : goal.returns-in-Refused-clause-leaves
returns-in-Refused-clause-leaves g c =
    told_none _ _ _ (quiet_none (g.H.Host.view c.args.host.now))
