use Rattle.std.proofs.Common.{rules, ◌∙◌, Bool, refl}
use Rattle.std.proofs.lemmas.List.{drop_all}
use Rattle.ode_engine.proofs.ServeLaws.{quiet_none}
use Rattle.ode_host.proofs.Moments.{looks_joined}
use Rattle.ode_holders.specs.Opens.{taken_all}
use Rattle.ode_language.specs.Languages.{ode}
use Rattle.ode_machine.specs.Interleaving.{takes}
use Rattle.ode_transact.specs.Contexts.{ContextRuns}
use Rattle.ode_steps.proofs.LookLaws.{quiet_more, rose_ok}
use Rattle.ode_steps.proofs.TryLaws.{again_all, again_fell, again_next}
use Rattle.ode_transact.proofs.BeginLaws.{damaged_before}
use Rattle.ode_value.specs.Acts.{each, reached}
use Rattle.ode_value.specs.Language.{ListTx, ListWorld}
use Rattle.ode_steps.proofs.trying.take_all.Goals as goal

pub loop-one-init : goal.loop-one-init
loop-one-init g c = record {
  told = λ w x is. (x, is, refl);
  live = c.requires.live;
  quiet = quiet_none (g.H.Host.view c.args.host.now);
  same = refl;
}

pub loop-one-preserved : goal.loop-one-preserved
loop-one-preserved g c = record {
  told = λ w x is.
      let so = c.loop-one.invariant.told w x is in
      let after = ContextRuns g.H.Host.view g.K.Keep.holds g.K.Keep.live ode w c.take_again.new.ctx c.take_again.new.host in
      again_next after c.args.taken.now c.loop-one.one-index c.one-item.result c.in_ok-done.done so.0 (reached (each takes (taken_all c.args.taken.now) x)) c.loop-one-test.true c.one-item.is so.2 c.if-not-done.false (c.in_ok-done.ensures.runs w so.0 so.1);
  live = c.in_ok-done.ensures.usable;
  quiet = quiet_more _ _ _ _ (λ is. cc (is)) c.loop-one.invariant.quiet c.take_again.ensures.looks c.in_ok-done.ensures.cause;
  same = c.take_again.ensures.same ∙ c.loop-one.invariant.same;
}

pub returns-clause-runs : goal.returns-clause-runs
returns-clause-runs g c w x is =
    let so = c.loop-one.invariant.told w x is in
    again_all (ContextRuns g.H.Host.view g.K.Keep.holds g.K.Keep.live ode w c.loop-one.ctx c.loop-one.host) _ so.0 (reached (each takes (taken_all c.args.taken.now) x)) so.1 so.2 (drop_all c.loop-one.one-index c.args.taken.now c.loop-one-test.false)

pub returns-clause-looks : goal.returns-clause-looks
returns-clause-looks g c = c.loop-one.invariant.quiet.0

pub returns-clause-cause : goal.returns-clause-cause
returns-clause-cause g c = rose_ok _ ⊥ _ _ (λ never. never) c.loop-one.invariant.quiet.1.disk_faults

-- one aborted

pub returns-then-not-done-clause-runs : goal.returns-then-not-done-clause-runs
returns-then-not-done-clause-runs g c w x is =
    let so = c.loop-one.invariant.told w x is in
    let after = ContextRuns g.H.Host.view g.K.Keep.holds g.K.Keep.live ode w c.take_again.new.ctx c.take_again.new.host in
    again_fell after c.args.taken.now c.loop-one.one-index c.one-item.result c.in_ok-done.done so.0 (reached (each takes (taken_all c.args.taken.now) x)) c.loop-one-test.true c.one-item.is so.2 c.if-not-done.true (c.in_ok-done.ensures.runs w so.0 so.1)

pub returns-then-not-done-clause-looks : goal.returns-then-not-done-clause-looks
returns-then-not-done-clause-looks g c = looks_joined _ _ _ c.loop-one.invariant.quiet.0 c.take_again.ensures.looks

pub returns-then-not-done-clause-cause : goal.returns-then-not-done-clause-cause
returns-then-not-done-clause-cause g c =
    rose_ok _ ⊥ _ _ (λ never. never) (quiet_more _ _ _ _ (λ is. cc (is)) c.loop-one.invariant.quiet c.take_again.ensures.looks c.in_ok-done.ensures.cause).1.disk_faults

pub returns-then-not-done-clause-same : goal.returns-then-not-done-clause-same
returns-then-not-done-clause-same g c = c.take_again.ensures.same ∙ c.loop-one.invariant.same

-- an error

pub returns-in_err-done-clause-looks : goal.returns-in_err-done-clause-looks
returns-in_err-done-clause-looks g c = looks_joined _ _ _ c.loop-one.invariant.quiet.0 c.take_again.ensures.looks

pub returns-in_err-done-clause-undamaged : goal.returns-in_err-done-clause-undamaged
returns-in_err-done-clause-undamaged g c =
    let Before : Type 0 = (w : ListWorld) (x : ListTx) → ContextRuns g.H.Host.view g.K.Keep.holds g.K.Keep.live ode w c.loop-one.ctx c.loop-one.host x → ⊥ in
    let Undamaged : Type 0 = (w : ListWorld) (x : ListTx) → ContextRuns g.H.Host.view g.K.Keep.holds g.K.Keep.live ode w c.args.ctx.now c.args.host.now x → ⊥ in
    damaged_before Bool (Unit {0}) c.from_residual.result c.in_err-done.field-0.0 (search rules) Before Undamaged (λ damaged w x is.
    let so = c.loop-one.invariant.told w x is in
    damaged w so.0 so.1) c.in_err-done.ensures.undamaged

pub returns-in_err-done-clause-same : goal.returns-in_err-done-clause-same
returns-in_err-done-clause-same g c = c.take_again.ensures.same ∙ c.loop-one.invariant.same
