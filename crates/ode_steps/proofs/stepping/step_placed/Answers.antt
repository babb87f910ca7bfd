use Rattle.std.proofs.Common.{◌≡◌, ◌∙◌, Bool, Option, None, true, false, ap, subst, sym}
use Rattle.ode_interleaved_laws.specs.Meeting.{IsInterleaved}
use Rattle.ode_language.specs.Languages.{ode}
use Rattle.ode_machine.specs.Interleaving.{Reply, replies_to, session_of, tries, Open, is_alone}
use Rattle.ode_steps.specs.Serving.{Serves, after_reply}
use Rattle.ode_steps.proofs.PlacedLaws.{placed_lone}
use Rattle.ode_steps.proofs.stepping.step_placed.Goals as goal

pub alone_step-requires-clause-alone : goal.alone_step-requires-clause-alone
alone_step-requires-clause-alone g c =
    sym c.is_lone.ensures ∙ c.if-is_lone.true

pub returns-then-is_lone-clause-serves : goal.returns-then-is_lone-clause-serves
returns-then-is_lone-clause-serves g c m here placed goes_on =
    let lone : is_alone c.args.s.now ≡ true = sym c.is_lone.ensures ∙ c.if-is_lone.true in
    let closed : session_of c.args.session m.sessions ≡ None = placed_lone c.args.s.now lone (session_of c.args.session m.sessions) placed in
    let same : replies_to m c.args.session (is_alone c.args.s.now) (tries ode m (session_of c.args.session m.sessions) c.args.s.now) ≡ replies_to m c.args.session true (tries ode m None c.args.s.now) =
    ap (λ (b : Bool). replies_to m c.args.session b (tries ode m (session_of c.args.session m.sessions) c.args.s.now)) lone ∙ ap (λ (own : Option Open). replies_to m c.args.session true (tries ode m own c.args.s.now)) closed in
    subst (λ (reply : Reply). Serves g.H.Host.view g.K.Keep.holds g.K.Keep.live g.K.Keep.means ode m reply c.alone_step.result c.args.sessions.now c.args.host.now c.alone_step.new.host) (sym same)
    (rw c.as_slice.ensures at (c.alone_step.ensures.serves m (rw c.as_slice.ensures here) closed (subst (λ (reply : Reply). IsInterleaved ode (after_reply m reply)) same goes_on)))

pub returns-clause-serves : goal.returns-clause-serves
returns-clause-serves g c m here placed goes_on =
    let beside : is_alone c.args.s.now ≡ false = sym c.is_lone.ensures ∙ c.if-is_lone.false in
    let same : replies_to m c.args.session (is_alone c.args.s.now) (tries ode m (session_of c.args.session m.sessions) c.args.s.now) ≡ replies_to m c.args.session false (tries ode m (session_of c.args.session m.sessions) c.args.s.now) =
    ap (λ (b : Bool). replies_to m c.args.session b (tries ode m (session_of c.args.session m.sessions) c.args.s.now)) beside in
    subst (λ (reply : Reply). Serves g.H.Host.view g.K.Keep.holds g.K.Keep.live g.K.Keep.means ode m reply c.step_beside.result c.step_beside.new.sessions c.args.host.now c.step_beside.new.host) (sym same)
    (c.step_beside.ensures.serves m here beside placed (subst (λ (reply : Reply). IsInterleaved ode (after_reply m reply)) same goes_on))
