use Rattle.std.proofs.Common.{rules, ◌∙◌, ℕ, ap}
use Rattle.ode_host.proofs.Moments.{looks_joined}
use Rattle.ode_keep.specs.Entries.{Changes}
use Rattle.ode_run.specs.Contexts.{ContextRuns}
use Rattle.ode_transact.proofs.BeginLaws.{damaged_before}
use Rattle.ode_transact.proofs.DamageLaws.{memory_undamaged}
use Rattle.ode_transact.specs.Ending.{line_of}
use Rattle.ode_transact.specs.declared.ending.Prepared.{Prepared}
use Rattle.ode_value.specs.Language.{Language, ListTx, ListWorld}
use Rattle.ode_transact.proofs.ending.prepare.Goals as goal

pub returns-clause-prepared : goal.returns-clause-prepared
returns-clause-prepared g c = λ l w t runs.
    let on = c.in_ok-number.ensures.stays l w t runs in
    record {
      ran = c.number_of.new.ctx;
      there = c.number_of.new.host;
      runs = on;
      context = c.in_ok-batch.ensures.context l w t on;
      over = c.in_ok-batch.ensures.settles l w t on;
      parts = c.changes_of.ensures.same;
      numbered = c.in_ok-number.ensures.is l w t runs;
      lined = c.in_ok-line.ensures ∙ ap (λ (n : ℕ). line_of n c.args.ending.now) (c.in_ok-number.ensures.is l w t runs);
      met = c.in_ok-batch.ensures.met l w t on;
    }

pub returns-clause-looks : goal.returns-clause-looks
returns-clause-looks g c = looks_joined _ _ _ c.number_of.ensures.looks c.changes_of.ensures.looks

pub returns-clause-same : goal.returns-clause-same
returns-clause-same g c = c.changes_of.ensures.same ∙ c.number_of.ensures.same

pub returns-in_err-number-clause-undamaged : goal.returns-in_err-number-clause-undamaged
returns-in_err-number-clause-undamaged g c =
    let Before : Type 0 = (l : Language) (w : ListWorld) (t : ListTx) → ContextRuns g.H.Host.view g.K.Keep.holds g.K.Keep.live l w c.args.ctx.now c.args.host.now t → ⊥ in
    damaged_before ℕ Prepared c.from_residual.result c.in_err-number.field-0.0 (search rules) Before Before (λ damaged. damaged) c.in_err-number.ensures.undamaged

pub returns-in_err-line-clause-undamaged : goal.returns-in_err-line-clause-undamaged
returns-in_err-line-clause-undamaged g c = memory_undamaged c.from_residual-in_err-line.result _ (search rules)

pub returns-in_err-batch-clause-looks : goal.returns-in_err-batch-clause-looks
returns-in_err-batch-clause-looks g c = looks_joined _ _ _ c.number_of.ensures.looks c.changes_of.ensures.looks

pub returns-in_err-batch-clause-undamaged : goal.returns-in_err-batch-clause-undamaged
returns-in_err-batch-clause-undamaged g c =
    let Before : Type 0 = (l : Language) (w : ListWorld) (t : ListTx) → ContextRuns g.H.Host.view g.K.Keep.holds g.K.Keep.live l w c.number_of.new.ctx c.number_of.new.host t → ⊥ in
    let Undamaged : Type 0 = (l : Language) (w : ListWorld) (t : ListTx) → ContextRuns g.H.Host.view g.K.Keep.holds g.K.Keep.live l w c.args.ctx.now c.args.host.now t → ⊥ in
    damaged_before Changes Prepared c.from_residual-in_err-batch.result c.in_err-batch.field-0.0 (search rules) Before Undamaged (λ damaged l w t runs. damaged l w t (c.in_ok-number.ensures.stays l w t runs))
    c.in_err-batch.ensures.undamaged
