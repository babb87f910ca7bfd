use Rattle.std.proofs.Common.{arith, refl}
use Rattle.ode_engine.proofs.ServeLaws.{told_on}
use Rattle.ode_host.proofs.Calls.{host_calls_as}
use Rattle.std.proofs.lemmas.Result.{err_from_is_err_and}
use Rattle.ode_steps.proofs.EndLaws.{all_are, all_passed, none_passed, one_ended, one_failed, one_passed, same_few}
use Rattle.ode_transact.proofs.DrainSteps.{calls_none}
use Rattle.ode_steps.proofs.ending.end_one.Goals as goal

pub next-init : goal.next-init
next-init g c =
    record {
      served = λ m here. none_passed g.H.Host.view g.K.Keep.holds g.K.Keep.live g.K.Keep.means m c.args.rest c.args.sessions.now c.args.host.now here;
      few = refl;
      usable = (c.requires.live, c.requires.fit, c.requires.aligned);
      calls = calls_none (g.H.Host.view c.args.host.now);
    }

pub end_at-requires-clause-within : goal.end_at-requires-clause-within
end_at-requires-clause-within g c =
    let test = c.next-test.true in let count = c.len-at-end.ensures in let few = c.next.invariant.few in omega (arith, test, count, few)

pub returns-in_err-after-clause-ends : goal.returns-in_err-after-clause-ends
returns-in_err-after-clause-ends g c m here =
    let so = c.next.invariant.served m here in
    let it = c.in_err-after.ensures.serves m so.here in
    let p = err_from_is_err_and c.from_residual.result c.from_residual.ensures.1 in
    rw (p.1, p.2) (one_failed g.H.Host.view g.K.Keep.holds g.K.Keep.live g.K.Keep.means m (λ o more is. c.endings_are_never_held_by_all.ensures m o more so.here.goes_on is) c.next.at c.next.rest c.next.sessions c.args.host.now c.next.host so it.0 it.1 _ c.end_at.new.sessions c.end_at.new.host it.2)

pub returns-in_err-after-clause-leaves : goal.returns-in_err-after-clause-leaves
returns-in_err-after-clause-leaves g c =
    let p = err_from_is_err_and c.from_residual.result c.from_residual.ensures.1 in
    rw (p.1, p.2) (told_on _ _ _ _ _ c.next.invariant.calls (host_calls_as _ _ _ _ _ _ (λ is. cc (is)) (λ is. cc (is)) (λ is. cc (is)) (λ is. cc (is)) c.in_err-after.ensures.leaves))

pub returns-in-Settled-clause-ends : goal.returns-in-Settled-clause-ends
returns-in-Settled-clause-ends g c m here =
    let so = c.next.invariant.served m here in
    let it = c.in_ok-after.ensures.serves m so.here in
    one_ended g.H.Host.view g.K.Keep.holds g.K.Keep.live g.K.Keep.means m (λ o more is. c.endings_are_never_held_by_all.ensures m o more so.here.goes_on is) c.next.at c.next.rest c.next.sessions c.args.host.now c.next.host so it.0 it.1 c.in_ok-after.after c.in-Settled.count c.end_at.new.sessions c.end_at.new.host (rw c.in-Settled.is at it.2)

pub returns-in-Settled-clause-leaves : goal.returns-in-Settled-clause-leaves
returns-in-Settled-clause-leaves g c =
    told_on _ _ _ _ _ c.next.invariant.calls (host_calls_as _ _ _ _ _ _ (λ is. cc (is)) (λ is. cc (is)) (λ is. cc (is)) (λ is. cc (is)) c.in_ok-after.ensures.leaves)

pub next-preserved : goal.next-preserved
next-preserved g c =
    record {
      served = λ m here.
          let so = c.next.invariant.served m here in
          let it = c.in_ok-after.ensures.serves m so.here in
          one_passed g.H.Host.view g.K.Keep.holds g.K.Keep.live g.K.Keep.means m (λ o more is. c.endings_are_never_held_by_all.ensures m o more so.here.goes_on is) c.next.at c.next.rest c.next.sessions c.args.host.now c.next.host so it.0 it.1 c.in_ok-after.after c.in_ok-after.answer c.end_at.new.sessions c.end_at.new.host c.in_default.not-Settled it.2;
      few = same_few c.in_ok-after.answer c.next.sessions c.end_at.new.sessions c.args.sessions.now c.in_default.not-Settled c.in_ok-after.ensures.same c.next.invariant.few;
      usable = c.in_ok-after.ensures.usable;
      calls = told_on _ _ _ _ _ c.next.invariant.calls (host_calls_as _ _ ⊥ ⊥ _ _ (λ failed. cc (failed)) absurd (λ failed. cc (failed)) absurd c.in_ok-after.ensures.leaves);
    }

pub returns-clause-ends : goal.returns-clause-ends
returns-clause-ends g c m here =
    let so = c.next.invariant.served m here in
    all_passed g.H.Host.view g.K.Keep.holds g.K.Keep.live g.K.Keep.means m (λ o more is. c.endings_are_never_held_by_all.ensures m o more so.here.goes_on is) c.next.at c.next.rest c.next.sessions c.args.host.now c.next.host so (all_are c.args.sessions.now m.sessions c.next.at here.same (let test = c.next-test.false in let count = c.len-at-end.ensures in omega (arith, test, count)))

pub returns-clause-leaves : goal.returns-clause-leaves
returns-clause-leaves g c =
    host_calls_as ⊥ ⊥ _ _ _ _ absurd (λ is. cc (is)) absurd (λ is. cc (is)) c.next.invariant.calls
