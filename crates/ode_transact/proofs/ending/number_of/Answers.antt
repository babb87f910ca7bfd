use Rattle.std.proofs.Common.{rules, ◌≡◌, ℕ, Err, ap}
use Rattle.ode_codec.specs.declared.record.Counters.{Counters}
use Rattle.ode_heap.specs.Answering.{counters_of}
use Rattle.ode_heap.specs.Looking.{counters_in}
use Rattle.ode_run.specs.Contexts.{ContextRuns}
use Rattle.ode_transact.proofs.BeginLaws.{there_unbroken, undamaged_there}
use Rattle.ode_transact.proofs.EndingLaws.{number_is, reads_on}
use Rattle.ode_transact.proofs.ending.number_of.Goals as goal
use Rattle.ode_transact.specs.Errors.{error_of}
use Rattle.ode_value.specs.Language.{Language, ListTx, ListWorld}

pub returns-clause-is : goal.returns-clause-is
returns-clause-is g c = λ l w t runs.
    number_is _ c.in_ok-counters.counters w.bones (c.in_ok-counters.ensures.value runs.entries runs.context.state.records) (c.heaps_show_held_worlds.ensures.counters l runs.entries w runs.world)

pub returns-clause-stays : goal.returns-clause-stays
returns-clause-stays g c = λ l w t runs.
    reads_on g.H.Host.view g.K.Keep.holds g.K.Keep.live l w t c.args.ctx.now c.counters.new.self c.args.host.now c.counters.new.host runs c.in_ok-counters.ensures.usable (c.in_ok-counters.ensures.holds runs.entries runs.context.state.records)

pub returns-in_err-counters-clause-undamaged : goal.returns-in_err-counters-clause-undamaged
returns-in_err-counters-clause-undamaged g c =
    let why = c.in_err-counters.field-0.0 in
    let is : c.from_residual.result ≡ Err (error_of why) = search rules in
    let Undamaged : Type 0 = (l : Language) (w : ListWorld) (t : ListTx) → ContextRuns g.H.Host.view g.K.Keep.holds g.K.Keep.live l w c.args.ctx.now c.args.host.now t → ⊥ in
    undamaged_there Counters ℕ c.from_residual.result why is Undamaged c.in_err-counters.ensures.too_large (λ key same l w t runs.
    there_unbroken (Err why) (counters_in runs.entries) (counters_of w.bones) key (c.in_err-counters.ensures.value runs.entries runs.context.state.records)
    (c.heaps_show_held_worlds.ensures.counters l runs.entries w runs.world) (ap (λ e. Err e) same))
