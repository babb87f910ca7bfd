use Rattle.std.proofs.Common.{◌≡◌, ◌∙◌, ℕ, List, ap, subst, sym}
use Rattle.ode_engine.proofs.FaultLaws.{undamaged_by}
use Rattle.ode_engine.proofs.ServeLaws.{told_on}
use Rattle.ode_holders.specs.Opens.{opens_as}
use Rattle.ode_holders.specs.Rising.{AreRising}
use Rattle.ode_host.proofs.Calls.{host_calls_as}
use Rattle.ode_host.specs.Host.{LeavesOnly, Printed}
use Rattle.ode_interleaved_laws.specs.Meeting.{IsInterleaved}
use Rattle.ode_language.specs.Languages.{ode}
use Rattle.ode_machine.specs.Interleaving.{Goes, Interleaved, behind, others_of, Open}
use Rattle.ode_machine.specs.Moments.{LeavesSettling}
use Rattle.ode_steps.proofs.ServeLaws.{loud_text, unsettled_serves}
use Rattle.ode_steps.specs.Serving.{Serves}
use Rattle.ode_transact.specs.Resting.{HoldsBy}
use Rattle.ode_transact.specs.Working.{settled_by}
use Rattle.ode_value.specs.Draining.{world_after}
use Rattle.std.proofs.lemmas.Result.{err_from_is_err_and}
use Rattle.ode_steps.proofs.stepping.settle_prepared.Goals as goal

pub returns-in_err-rest-clause-serves : goal.returns-in_err-rest-clause-serves
returns-in_err-rest-clause-serves g c m x ending is same prep well goes_on =
    let p = err_from_is_err_and c.from_residual.result c.from_residual.ensures.1 in
    rw (p.1, p.2) (unsettled_serves g.H.Host.view g.K.Keep.holds g.K.Keep.live g.K.Keep.means ode g.met.K.Keep.stands g.met.H.Host.text_stands m _ (others_of c.args.session m.sessions) (settled_by ending x) _ _ c.args.host.now c.conclude.new.host
    (λ said told. subst (λ (text : List ℕ). LeavesOnly (g.H.Host.view c.args.host.now) (g.H.Host.view c.conclude.new.host) (LeavesSettling (HoldsBy ode g.K.Keep.means) m.world (settled_by ending x).0 said text)) (loud_text c.loud-output.result.quiet c.loud-output.ensures (settled_by ending x).1) (c.in_err-rest.ensures.any_moment ode m.world x ending said is.well prep well told))
    (undamaged_by _ _ c.in_err-rest.ensures.undamaged (λ never. never ode m.world x ending prep well)))

pub returns-in_err-rest-clause-leaves : goal.returns-in_err-rest-clause-leaves
returns-in_err-rest-clause-leaves g c =
    let p = err_from_is_err_and c.from_residual.result c.from_residual.ensures.1 in
    rw (p.1, p.2) (host_calls_as _ _ _ _ _ _ (λ is. cc (is)) (λ is. cc (is)) (λ is. cc (is)) (λ is. cc (is)) c.in_err-rest.ensures.leaves)

pub returns-clause-serves : goal.returns-clause-serves
returns-clause-serves g c m x ending is same prep well goes_on =
    let n = c.args.session in
    let others : List Open = others_of n m.sessions in
    let others_are : opens_as c.as_slice.result.now ≡ others = ap opens_as c.as_slice.ensures ∙ c.take.ensures.rest (subst AreRising (sym same) is.rising) ∙ ap (others_of n) same in
    let now : List Open → Interleaved = λ (os : List Open). record { world = world_after m.world (behind os (settled_by ending x)); sessions = os } in
    let it = c.settled.ensures.serves m (settled_by ending x) c.args.host.now
    (subst (λ (text : List ℕ). Printed text (g.H.Host.view c.args.host.now) (g.H.Host.view c.conclude.new.host)) (loud_text c.loud-output.result.quiet c.loud-output.ensures (settled_by ending x).1) (c.in_ok-rest.ensures.printed ode m.world x ending prep))
    (λ said told. subst (λ (text : List ℕ). LeavesOnly (g.H.Host.view c.args.host.now) (g.H.Host.view c.conclude.new.host) (LeavesSettling (HoldsBy ode g.K.Keep.means) m.world (settled_by ending x).0 said text)) (loud_text c.loud-output.result.quiet c.loud-output.ensures (settled_by ending x).1) (c.in_ok-rest.ensures.any_moment ode m.world x ending said is.well prep well told))
    well (c.in_ok-rest.ensures.done ode m.world x ending prep well) (subst (λ (os : List Open). IsInterleaved ode (now os)) (sym others_are) goes_on) in
    subst (λ (os : List Open). Serves g.H.Host.view g.K.Keep.holds g.K.Keep.live g.K.Keep.means ode m (Goes (now os) (behind os (settled_by ending x))) c.settled.result c.take.new.sessions c.args.host.now c.settled.new.host) others_are
    (subst (λ after. Serves g.H.Host.view g.K.Keep.holds g.K.Keep.live g.K.Keep.means ode m (Goes (now (opens_as c.as_slice.result.now)) (behind (opens_as c.as_slice.result.now) (settled_by ending x))) c.settled.result after c.args.host.now c.settled.new.host) c.as_slice.ensures it)

pub returns-clause-leaves : goal.returns-clause-leaves
returns-clause-leaves g c =
    told_on _ _ _ _ _ (host_calls_as _ _ _ _ _ _ (λ is. cc (is)) absurd (λ is. cc (is)) absurd c.in_ok-rest.ensures.leaves) c.settled.ensures.leaves
