use Rattle.std.proofs.Common.{rules, ◌≡◌, ◌<◌, Err, refl, subst, sym}
use Rattle.ode_heap_laws.specs.Few.{HoldsCounted}
use Rattle.ode_keep.specs.Entries.{Entries}
use Rattle.ode_overlay.specs.Layers.{Layer}
use Rattle.ode_run.specs.declared.context.Ctx.{Ctx}
use Rattle.ode_transact.proofs.BeginLaws.{damaged_before}
use Rattle.ode_transact.proofs.RestLaws.{begins_over}
use Rattle.ode_transact.proofs.beginning.begin.Goals as goal
use Rattle.ode_transact.specs.Resting.{IsAtRest}
use Rattle.ode_transact.specs.Working.{IsFromFront}
use Rattle.ode_value.specs.Language.{Language, ListWorld}
use Rattle.ode_value.specs.Limits.{budget_limit, transaction_limit}

pub returns-in_err-overlay-clause-undamaged : goal.returns-in_err-overlay-clause-undamaged
returns-in_err-overlay-clause-undamaged g c =
    let why = c.in_err-overlay.field-0.0 in
    let is : c.from_residual.result ≡ Err why = search rules in
    let Before : Type 0 = (l : Language) (entries : Entries) (w : ListWorld) → HoldsCounted l entries w → g.K.Keep.holds c.new-heap.result (g.H.Host.view c.args.host.now) entries → IsFromFront c.args.origin w → w.bones.transaction < transaction_limit → ⊥ in
    let Undamaged : Type 0 = (l : Language) (w : ListWorld) → IsAtRest g.H.Host.view g.K.Keep.holds g.K.Keep.live l w c.args.rest c.args.host.now → IsFromFront c.args.origin w → w.bones.transaction < transaction_limit → ⊥ in
    damaged_before Layer (Ctx g.row.K.Denot) c.from_residual.result why is Before Undamaged (λ damaged l w rest front left.
    damaged l rest.entries w rest.world (subst (λ k. g.K.Keep.holds k (g.H.Host.view c.args.host.now) rest.entries) (sym c.new-heap.ensures) rest.records) front left) c.in_err-overlay.ensures.undamaged

pub returns-clause-beginning : goal.returns-clause-beginning
unfolding budget_limit
returns-clause-beginning g c = λ l w rest front.
    let records = subst (λ k. g.K.Keep.holds k (g.H.Host.view c.args.host.now) rest.entries) (sym c.new-heap.ensures) rest.records in
    begins_over g.H.Host.view g.K.Keep.holds g.K.Keep.live l w c.args.rest c.args.host.now c.begin_overlay.new.host rest c.args.origin _ c.in_ok-overlay.ensures.usable (c.in_ok-overlay.ensures.holds rest.entries records) refl
    (c.in_ok-overlay.ensures.begun l rest.entries w rest.world records front) c.new.ensures c.new-2.ensures refl refl

pub returns-clause-begun : goal.returns-clause-begun
unfolding budget_limit
returns-clause-begun g c = λ l w rest front.
    let records = subst (λ k. g.K.Keep.holds k (g.H.Host.view c.args.host.now) rest.entries) (sym c.new-heap.ensures) rest.records in
    c.contexts_begin.ensures l rest.entries w rest.world c.args.origin _ c.begin_overlay.new.host rest.tables rest.fit
    (begins_over g.H.Host.view g.K.Keep.holds g.K.Keep.live l w c.args.rest c.args.host.now c.begin_overlay.new.host rest c.args.origin _ c.in_ok-overlay.ensures.usable (c.in_ok-overlay.ensures.holds rest.entries records) refl
    (c.in_ok-overlay.ensures.begun l rest.entries w rest.world records front) c.new.ensures c.new-2.ensures refl refl)
