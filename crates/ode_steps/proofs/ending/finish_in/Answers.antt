use Rattle.std.proofs.Common.{◌+◌, ℕ, arith, refl, subst, sym}
use Rattle.ode_engine.proofs.ServeLaws.{told_on}
use Rattle.ode_host.proofs.Calls.{host_calls_as}
use Rattle.ode_machine.specs.Interleaving.{may_end}
use Rattle.std.proofs.lemmas.Result.{err_from_is_err_and}
use Rattle.std.specs.List.{find}
use Rattle.ode_steps.proofs.EndLaws.{all_are, less_as}
use Rattle.ode_steps.proofs.FinalLaws.{AreCounted, all_ended, counts_on, fails_on, none_counted, stops_on}
use Rattle.ode_transact.proofs.DrainSteps.{calls_none}
use Rattle.ode_steps.proofs.ending.finish_in.Goals as goal

pub ending-init : goal.ending-init
ending-init g c =
    record {
      served = λ m here. none_counted g.H.Host.view g.K.Keep.holds g.K.Keep.live g.K.Keep.means m c.args.rest c.args.sessions.now c.args.host.now here;
      usable = (c.requires.live, c.requires.fit, c.requires.aligned);
      calls = calls_none (g.H.Host.view c.args.host.now);
    }

pub returns-in_err-after-clause-settles : goal.returns-in_err-after-clause-settles
returns-in_err-after-clause-settles g c m here =
    let it = c.ending.invariant.served m here in
    let p = err_from_is_err_and c.from_residual.result c.from_residual.ensures.1 in
    rw (p.1, p.2) (fails_on g.H.Host.view g.K.Keep.holds g.K.Keep.live g.K.Keep.means m c.ending._ended c.ending.rest c.ending.sessions c.args.host.now c.ending.host it.so (less_as c.args.sessions.now m.sessions c.ending._ended here.same (let test = c.ending-test.true in let count = c.len-ended-end.ensures in omega (arith, test, count))) (find (may_end it.so.now) it.so.now.sessions) refl _ c.end_one.new.sessions c.end_one.new.host (c.in_err-after.ensures.ends it.so.now it.so.here))

pub returns-in_err-after-clause-leaves : goal.returns-in_err-after-clause-leaves
returns-in_err-after-clause-leaves g c =
    let p = err_from_is_err_and c.from_residual.result c.from_residual.ensures.1 in
    rw (p.1, p.2) (told_on _ _ _ _ _ c.ending.invariant.calls (host_calls_as _ _ _ _ _ _ (λ is. cc (is)) (λ is. cc (is)) (λ is. cc (is)) (λ is. cc (is)) c.in_err-after.ensures.leaves))

pub returns-in_default-clause-settles : goal.returns-in_default-clause-settles
returns-in_default-clause-settles g c m here =
    let it = c.ending.invariant.served m here in
    stops_on g.H.Host.view g.K.Keep.holds g.K.Keep.live g.K.Keep.means m c.ending._ended c.ending.rest c.ending.sessions c.args.host.now c.ending.host it.so (less_as c.args.sessions.now m.sessions c.ending._ended here.same (let test = c.ending-test.true in let count = c.len-ended-end.ensures in omega (arith, test, count))) (find (may_end it.so.now) it.so.now.sessions) refl c.in_ok-after.after c.in_ok-after.count _ c.end_one.new.sessions c.end_one.new.host tt (c.in_ok-after.ensures.ends it.so.now it.so.here)

pub returns-in_default-clause-leaves : goal.returns-in_default-clause-leaves
returns-in_default-clause-leaves g c =
    host_calls_as ⊥ ⊥ _ _ _ _ absurd (λ is. cc (is)) absurd (λ is. cc (is)) (told_on _ _ _ _ _ c.ending.invariant.calls (host_calls_as _ _ ⊥ ⊥ _ _ (λ failed. cc (failed)) absurd (λ failed. cc (failed)) absurd c.in_ok-after.ensures.leaves))

pub ending-preserved : goal.ending-preserved
ending-preserved g c =
    record {
      served = λ m here.
          let it = c.ending.invariant.served m here in
          subst (λ (count : ℕ). AreCounted g.H.Host.view g.K.Keep.holds g.K.Keep.live g.K.Keep.means m (c.ending._ended + 1) c.in_ok-after.after c.end_one.new.sessions count c.args.host.now c.end_one.new.host) (sym (rw c.in-Some.is at c.sum_of.ensures))
          (counts_on g.H.Host.view g.K.Keep.holds g.K.Keep.live g.K.Keep.means m c.ending._ended c.ending.rest c.ending.sessions c.args.host.now c.ending.host it.so (less_as c.args.sessions.now m.sessions c.ending._ended here.same (let test = c.ending-test.true in let count = c.len-ended-end.ensures in omega (arith, test, count))) (find (may_end it.so.now) it.so.now.sessions) refl c.in_ok-after.after c.ending.settled c.in_ok-after.count c.end_one.new.sessions c.end_one.new.host it.counts (c.in_ok-after.ensures.ends it.so.now it.so.here));
      usable = c.in_ok-after.ensures.usable;
      calls = told_on _ _ _ _ _ c.ending.invariant.calls (host_calls_as _ _ ⊥ ⊥ _ _ (λ failed. cc (failed)) absurd (λ failed. cc (failed)) absurd c.in_ok-after.ensures.leaves);
    }

pub returns-clause-settles : goal.returns-clause-settles
returns-clause-settles g c m here =
    let it = c.ending.invariant.served m here in
    all_ended g.H.Host.view g.K.Keep.holds g.K.Keep.live g.K.Keep.means m c.ending._ended c.ending.rest c.ending.sessions c.args.host.now c.ending.host it.so c.ending.settled it.counts (all_are c.args.sessions.now m.sessions c.ending._ended here.same (let test = c.ending-test.false in let count = c.len-ended-end.ensures in omega (arith, test, count)))

pub returns-clause-leaves : goal.returns-clause-leaves
returns-clause-leaves g c =
    host_calls_as ⊥ ⊥ _ _ _ _ absurd (λ is. cc (is)) absurd (λ is. cc (is)) c.ending.invariant.calls
