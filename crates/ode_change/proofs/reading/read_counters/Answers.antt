use Rattle.std.proofs.Common.{rules, ◌≡◌, Err, ap, subst, sym}
use Rattle.ode_codec.specs.declared.record.Counters.{Counters}
use Rattle.ode_heap.specs.Answering.{counters_of}
use Rattle.ode_heap.specs.Looking.{counters_in}
use Rattle.ode_heap_laws.specs.Few.{HoldsCounted}
use Rattle.ode_keep.specs.Entries.{Entries}
use Rattle.ode_language.specs.Languages.{ode}
use Rattle.ode_transact.proofs.BeginLaws.{there_is, there_unbroken, undamaged_there}
use Rattle.ode_transact.specs.Errors.{error_of}
use Rattle.ode_value.specs.Language.{ListWorld}
use Rattle.ode_change.proofs.reading.read_counters.Goals as goal

pub returns-clause-counters : goal.returns-clause-counters
returns-clause-counters g c = λ entries w held records.
    let before = subst (λ k. g.K.Keep.holds k (g.H.Host.view c.args.host.now) entries) (sym c.new-heap.ensures) records in
    there_is c.in_ok-counters.counters (counters_in entries) (counters_of w.bones) (c.in_ok-counters.ensures.value entries before) (c.heaps_show_held_worlds.ensures.counters ode entries w held)

pub returns-clause-holds : goal.returns-clause-holds
returns-clause-holds g c = λ entries records.
    let before = subst (λ k. g.K.Keep.holds k (g.H.Host.view c.args.host.now) entries) (sym c.new-heap.ensures) records in
    subst (λ k. g.K.Keep.holds k (g.H.Host.view c.counters.new.host) entries) (sym c.into_keeper.ensures) (c.in_ok-counters.ensures.holds entries before)

pub returns-in_err-counters-clause-undamaged : goal.returns-in_err-counters-clause-undamaged
returns-in_err-counters-clause-undamaged g c =
    let why = c.in_err-counters.field-0.0 in
    let is : c.from_residual.result ≡ Err (error_of why) = search rules in
    let Undamaged : Type 0 = (entries : Entries) (w : ListWorld) → HoldsCounted ode entries w → g.K.Keep.holds c.args.keeper (g.H.Host.view c.args.host.now) entries → ⊥ in
    undamaged_there Counters (g.row.K.Denot × Counters) c.from_residual.result why is Undamaged c.in_err-counters.ensures.too_large (λ key same entries w held records.
    let before = subst (λ k. g.K.Keep.holds k (g.H.Host.view c.args.host.now) entries) (sym c.new-heap.ensures) records in
    there_unbroken (Err why) (counters_in entries) (counters_of w.bones) key (c.in_err-counters.ensures.value entries before) (c.heaps_show_held_worlds.ensures.counters ode entries w held) (ap (λ e. Err e) same))
