use Rattle.std.proofs.Common.{rules, ◌≡◌, ℕ, Err, ap}
use Rattle.ode_codec.specs.declared.record.Counters.{Counters}
use Rattle.ode_declare.proofs.handing.transaction_number.Goals as goal
use Rattle.ode_heap.specs.Answering.{counters_of}
use Rattle.ode_heap.specs.Looking.{counters_in}
use Rattle.ode_heap_laws.specs.Few.{HoldsCounted}
use Rattle.ode_keep.specs.Entries.{Entries}
use Rattle.ode_transact.proofs.BeginLaws.{there_unbroken, undamaged_there}
use Rattle.ode_transact.proofs.EndingLaws.{number_is}
use Rattle.ode_transact.specs.Errors.{error_of}
use Rattle.ode_value.specs.Language.{Language, ListWorld}

pub returns-clause-is : goal.returns-clause-is
returns-clause-is g c = λ l entries w held records.
    number_is _ c.in_ok-counters.counters w.bones (c.in_ok-counters.ensures.value entries records) (c.heaps_show_held_worlds.ensures.counters l entries w held)

pub returns-in_err-counters-clause-undamaged : goal.returns-in_err-counters-clause-undamaged
returns-in_err-counters-clause-undamaged g c =
    let why = c.in_err-counters.field-0.0 in
    let is : c.from_residual.result ≡ Err (error_of why) = search rules in
    let Undamaged : Type 0 = (l : Language) (entries : Entries) (w : ListWorld) → HoldsCounted l entries w → g.K.Keep.holds c.args.heap.now (g.H.Host.view c.args.host.now) entries → ⊥ in
    undamaged_there Counters ℕ c.from_residual.result why is Undamaged c.in_err-counters.ensures.too_large (λ key same l entries w held records.
    there_unbroken (Err why) (counters_in entries) (counters_of w.bones) key (c.in_err-counters.ensures.value entries records) (c.heaps_show_held_worlds.ensures.counters l entries w held) (ap (λ e. Err e) same))
