use Rattle.std.proofs.Common.{◌∙◌, false, subst, sym}
use Rattle.ode_engine.proofs.ServeLaws.{quiet_none, rest_now, told_none}
use Rattle.ode_holders.specs.Opens.{opens_as}
use Rattle.ode_host.proofs.Moments.{looks_none}
use Rattle.ode_interleaved_laws.specs.Meeting.{IsInterleaved}
use Rattle.ode_language.specs.Languages.{ode}
use Rattle.ode_machine.specs.Interleaving.{Ends, Reply, footprint_of}
use Rattle.ode_steps.proofs.AnswerLaws.{put_off_serves}
use Rattle.ode_steps.proofs.BackLaws.{prepared_back}
use Rattle.ode_steps.proofs.ReplyLaws.{ended_reply, found_is, settled_same, settled_so}
use Rattle.ode_steps.specs.Serving.{Serves, after_reply}
use Rattle.ode_transact.specs.Preparing.{ended_by}
use Rattle.ode_transact.specs.Resting.{IsAtRest}
use Rattle.ode_transact.specs.Working.{settled_by}
use Rattle.ode_steps.proofs.stepping.prepared_step.Goals as goal

pub returns-in-Some-clause-serves : goal.returns-in-Some-clause-serves
returns-in-Some-clause-serves g c m x ending is same prep well goes_on =
    let rests = subst (λ o. IsAtRest g.H.Host.view g.K.Keep.holds g.K.Keep.live ode m.world o c.args.host.now) (sym c.put_back.ensures) (prepared_back g.H.Host.view g.K.Keep.holds g.K.Keep.live ode m.world x ending c.args.prepared.number c.args.prepared.line c.args.prepared.batch c.args.ctx c.args.host.now prep c.requires.fit) in
    put_off_serves g.H.Host.view g.K.Keep.holds g.K.Keep.live g.K.Keep.means g.met.K.Keep.stands g.met.H.Host.text_stands m c.args.session c.put_back.result c.args.sessions.now c.args.host.now c.args.host.now (rest_now g.H.Host.view g.K.Keep.holds g.K.Keep.live ode m.world c.put_back.result c.args.host.now is.well rests) (looks_none (g.H.Host.view c.args.host.now)) false (Ends (ended_by ending x)) _ (found_is c.holder.result c.args.ctx.overlay.footprint (footprint_of (Ends (ended_by ending x))) (opens_as c.args.sessions.now) m.sessions c.args.session (rw c.as_slice.ensures at c.holder.ensures) prep.met same ∙ c.in-Some.is)
    (record { goes_on = is; rests = rests; same = same })

pub returns-in-Some-clause-leaves : goal.returns-in-Some-clause-leaves
returns-in-Some-clause-leaves g c =
    told_none _ _ _ (quiet_none (g.H.Host.view c.args.host.now))

pub returns-in-None-clause-serves : goal.returns-in-None-clause-serves
returns-in-None-clause-serves g c m x ending is same prep well goes_on =
    let reply = ended_reply m c.args.session (ended_by ending x) (settled_by ending x) (settled_so ending x) (found_is c.holder.result c.args.ctx.overlay.footprint (footprint_of (Ends (ended_by ending x))) (opens_as c.args.sessions.now) m.sessions c.args.session (rw c.as_slice.ensures at c.holder.ensures) prep.met same ∙ c.in-None.is) in
    subst (λ (r : Reply). Serves g.H.Host.view g.K.Keep.holds g.K.Keep.live g.K.Keep.means ode m r c.settle_prepared.result c.settle_prepared.new.sessions c.args.host.now c.settle_prepared.new.host) (sym reply)
    (c.settle_prepared.ensures.serves m x ending is same prep well (subst (λ (r : Reply). IsInterleaved ode (after_reply m r)) reply goes_on))

pub returns-in-None-clause-same : goal.returns-in-None-clause-same
returns-in-None-clause-same g c =
    settled_same _ c.settle_prepared.result c.settle_prepared.ensures.settles
