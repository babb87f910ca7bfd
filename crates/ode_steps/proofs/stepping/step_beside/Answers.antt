use Rattle.std.proofs.Common.{◌≡◌, [], Ok, false, refl, subst, sym}
use Rattle.ode_engine.proofs.ServeLaws.{quiet_none, rest_now, told_none}
use Rattle.ode_host.proofs.Moments.{looks_none}
use Rattle.ode_interleaved_laws.specs.Meeting.{IsInterleaved}
use Rattle.ode_language.specs.Languages.{ode}
use Rattle.ode_machine.specs.Interleaving.{Goes, Reply, replies_to, session_of, tries}
use Rattle.ode_steps.proofs.ServeLaws.{quiet_serves}
use Rattle.ode_steps.specs.Serving.{Serves, after_reply}
use Rattle.ode_steps.proofs.PlacedLaws.{closed_step, empty_beside, open_step, placed_abort, placed_begin, placed_commit}
use Rattle.ode_steps.proofs.ReplyLaws.{empty_reply}
use Rattle.ode_steps.specs.declared.answer.Answer.TheVariants as answer
use Rattle.ode_value.specs.declared.statement.Statement.{Statement}
use Rattle.ode_value.specs.declared.statement.Statement.TheVariants as statement
use Rattle.ode_steps.proofs.stepping.step_beside.Goals as goal

pub returns-in-Simple-clause-serves : goal.returns-in-Simple-clause-serves
returns-in-Simple-clause-serves g c m here beside placed goes_on =
    subst (λ (s : Statement). IsInterleaved ode (after_reply m (replies_to m c.args.session false (tries ode m (session_of c.args.session m.sessions) s))) → Serves g.H.Host.view g.K.Keep.holds g.K.Keep.live g.K.Keep.means ode m (replies_to m c.args.session false (tries ode m (session_of c.args.session m.sessions) s)) c.simple_step.result c.simple_step.new.sessions c.args.host.now c.simple_step.new.host) (sym c.in-Simple.is)
    (λ on. c.simple_step.ensures.serves m here on) goes_on

pub simple_step-requires-clause-text : goal.simple_step-requires-clause-text
simple_step-requires-clause-text g c =
    rw c.in-Simple.is at c.requires.text

pub returns-in-Begin-clause-serves : goal.returns-in-Begin-clause-serves
returns-in-Begin-clause-serves g c m here beside placed goes_on =
    subst (λ (s : Statement). IsInterleaved ode (after_reply m (replies_to m c.args.session false (tries ode m (session_of c.args.session m.sessions) s))) → Serves g.H.Host.view g.K.Keep.holds g.K.Keep.live g.K.Keep.means ode m (replies_to m c.args.session false (tries ode m (session_of c.args.session m.sessions) s)) c.begin_step.result c.begin_step.new.sessions c.args.host.now c.begin_step.new.host) (sym c.in-Begin.is)
    (λ on. let closed = placed_begin (session_of c.args.session m.sessions) (rw c.in-Begin.is at placed) in closed_step m c.args.session statement.Begin (λ reply. Serves g.H.Host.view g.K.Keep.holds g.K.Keep.live g.K.Keep.means ode m reply c.begin_step.result c.begin_step.new.sessions c.args.host.now c.begin_step.new.host) (session_of c.args.session m.sessions) closed (c.begin_step.ensures.serves m here closed) on) goes_on

pub returns-in-Commit-clause-serves : goal.returns-in-Commit-clause-serves
returns-in-Commit-clause-serves g c m here beside placed goes_on =
    subst (λ (s : Statement). IsInterleaved ode (after_reply m (replies_to m c.args.session false (tries ode m (session_of c.args.session m.sessions) s))) → Serves g.H.Host.view g.K.Keep.holds g.K.Keep.live g.K.Keep.means ode m (replies_to m c.args.session false (tries ode m (session_of c.args.session m.sessions) s)) c.commit_step.result c.commit_step.new.sessions c.args.host.now c.commit_step.new.host) (sym c.in-Commit.is)
    (λ on. let it = placed_commit (session_of c.args.session m.sessions) (rw c.in-Commit.is at placed) in open_step m c.args.session statement.Commit (λ reply. Serves g.H.Host.view g.K.Keep.holds g.K.Keep.live g.K.Keep.means ode m reply c.commit_step.result c.commit_step.new.sessions c.args.host.now c.commit_step.new.host) (session_of c.args.session m.sessions) it.0 it.1 (c.commit_step.ensures.serves m it.0 here it.1) on) goes_on

pub returns-in-Abort-clause-serves : goal.returns-in-Abort-clause-serves
returns-in-Abort-clause-serves g c m here beside placed goes_on =
    subst (λ (s : Statement). IsInterleaved ode (after_reply m (replies_to m c.args.session false (tries ode m (session_of c.args.session m.sessions) s))) → Serves g.H.Host.view g.K.Keep.holds g.K.Keep.live g.K.Keep.means ode m (replies_to m c.args.session false (tries ode m (session_of c.args.session m.sessions) s)) c.abort_step.result c.abort_step.new.sessions c.args.host.now c.abort_step.new.host) (sym c.in-Abort.is)
    (λ on. let it = placed_abort (session_of c.args.session m.sessions) (rw c.in-Abort.is at placed) in open_step m c.args.session statement.Abort (λ reply. Serves g.H.Host.view g.K.Keep.holds g.K.Keep.live g.K.Keep.means ode m reply c.abort_step.result c.abort_step.new.sessions c.args.host.now c.abort_step.new.host) (session_of c.args.session m.sessions) it.0 it.1 (λ more. c.abort_step.ensures.serves m it.0 here it.1) on) goes_on

pub returns-in_default-clause-serves : goal.returns-in_default-clause-serves
returns-in_default-clause-serves g c m here beside placed goes_on =
    let empty : c.args.s.now ≡ statement.Empty = empty_beside c.args.s.now beside c.in_default.not-Simple c.in_default.not-Begin c.in_default.not-Commit c.in_default.not-Abort in
    subst (λ (s : Statement). Serves g.H.Host.view g.K.Keep.holds g.K.Keep.live g.K.Keep.means ode m (replies_to m c.args.session false (tries ode m (session_of c.args.session m.sessions) s)) (Ok (c.args.rest, answer.Accepted)) c.args.sessions.now c.args.host.now c.args.host.now) (sym empty)
    (subst (λ (reply : Reply). Serves g.H.Host.view g.K.Keep.holds g.K.Keep.live g.K.Keep.means ode m reply (Ok (c.args.rest, answer.Accepted)) c.args.sessions.now c.args.host.now c.args.host.now) (sym (empty_reply m here.goes_on c.args.session))
    (quiet_serves g.H.Host.view g.K.Keep.holds g.K.Keep.live g.K.Keep.means ode g.met.K.Keep.stands g.met.H.Host.text_stands m (Goes m []) c.args.rest answer.Accepted c.args.sessions.now c.args.host.now c.args.host.now (rest_now g.H.Host.view g.K.Keep.holds g.K.Keep.live ode m.world c.args.rest c.args.host.now here.goes_on.well here.rests) (looks_none (g.H.Host.view c.args.host.now)) refl refl here))

pub returns-in_default-clause-leaves : goal.returns-in_default-clause-leaves
returns-in_default-clause-leaves g c =
    told_none _ _ _ (quiet_none (g.H.Host.view c.args.host.now))
