use Rattle.std.proofs.Common.{rules, ◌≡◌, ◌<◌, ◌∙◌, ℕ, Err}
use Rattle.std.proofs.lemmas.Result.{IfOk-weaker}
use Rattle.ode_codec.specs.declared.record.Counters.{Counters}
use Rattle.ode_heap_laws.specs.Few.{HoldsCounted}
use Rattle.ode_keep.specs.Entries.{Entries}
use Rattle.ode_overlay.specs.Layers.{Layer}
use Rattle.ode_transact.proofs.BeginLaws.{began, damage_at, damaged_before, not_refused}
use Rattle.ode_transact.proofs.beginning.begin_overlay.Goals as goal
use Rattle.ode_transact.specs.Working.{IsFromFront}
use Rattle.ode_value.specs.Keys.{counters_key}
use Rattle.ode_value.specs.Language.{Language, ListWorld}
use Rattle.ode_value.specs.Limits.{transaction_limit}

pub returns-in_err-counters-clause-undamaged : goal.returns-in_err-counters-clause-undamaged
returns-in_err-counters-clause-undamaged g c =
    let why = c.in_err-counters.field-0.0 in
    let is : c.from_residual.result ≡ Err why = search rules in
    let Before : Type 0 = (l : Language) (entries : Entries) (w : ListWorld) → HoldsCounted l entries w → g.K.Keep.holds c.args.heap.now (g.H.Host.view c.args.host.now) entries → ⊥ in
    let Undamaged : Type 0 = (l : Language) (entries : Entries) (w : ListWorld) → HoldsCounted l entries w → g.K.Keep.holds c.args.heap.now (g.H.Host.view c.args.host.now) entries → IsFromFront c.args.origin w → w.bones.transaction < transaction_limit → ⊥ in
    damaged_before (Counters × ℕ) Layer c.from_residual.result why is Before Undamaged (λ damaged l entries w held records front left. damaged l entries w held records) c.in_err-counters.ensures.undamaged

pub returns-clause-begun : goal.returns-clause-begun
returns-clause-begun g c = IfOk-weaker c.begin_counted.result _ _ (λ overlay is l entries w held records front.
    let shown = c.in_ok-counters.ensures.shown l entries w held records in
    is ∙ began l entries w held c.args.origin c.in_ok-counters.counters c.in_ok-counters.queued shown.0 shown.1 c.front_entries_run.ensures front) c.begin_counted.ensures.begun

pub returns-clause-undamaged : goal.returns-clause-undamaged
returns-clause-undamaged g c = damage_at c.begin_counted.result counters_key _ _ (λ refused l entries w held records front left.
    let shown = c.in_ok-counters.ensures.shown l entries w held records in
    not_refused l w c.args.origin c.in_ok-counters.counters c.in_ok-counters.queued held.world.good shown.0 shown.1 left refused) c.begin_counted.ensures.at c.begin_counted.ensures.refused
