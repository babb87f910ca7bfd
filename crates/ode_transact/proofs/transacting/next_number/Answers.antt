use Rattle.std.proofs.Common.{rules, ◌≡◌, ℕ, Err, ap}
use Rattle.ode_codec.specs.declared.record.Counters.{Counters}
use Rattle.ode_heap.specs.Answering.{counters_of}
use Rattle.ode_heap.specs.Looking.{counters_in}
use Rattle.ode_opened.specs.declared.opened.Opened.{Opened}
use Rattle.ode_transact.proofs.BeginLaws.{there_unbroken, undamaged_there}
use Rattle.ode_transact.proofs.EndingLaws.{number_is}
use Rattle.ode_transact.proofs.FrontLaws.{heap_holds, rest_reads_on}
use Rattle.ode_transact.proofs.transacting.next_number.Goals as goal
use Rattle.ode_transact.specs.Errors.{error_of}
use Rattle.ode_transact.specs.Resting.{IsAtRest}
use Rattle.ode_value.specs.Language.{Language, ListWorld}

pub returns-clause-is : goal.returns-clause-is
returns-clause-is g c = λ l w rest.
    let held = heap_holds g.H.Host.view g.K.Keep.holds g.K.Keep.live l w c.args.rest c.new-heap.result c.args.host.now rest c.new-heap.ensures in (
      rest_reads_on g.H.Host.view g.K.Keep.holds g.K.Keep.live l w c.args.rest c.counters.new.self c.into_keeper.result c.args.host.now c.counters.new.host rest c.in_ok-counters.ensures.usable
          (c.in_ok-counters.ensures.holds rest.entries held) c.into_keeper.ensures,
      number_is _ c.in_ok-counters.counters w.bones (c.in_ok-counters.ensures.value rest.entries held) (c.heaps_show_held_worlds.ensures.counters l rest.entries w rest.world),
    )

pub returns-in_err-counters-clause-undamaged : goal.returns-in_err-counters-clause-undamaged
returns-in_err-counters-clause-undamaged g c =
    let why = c.in_err-counters.field-0.0 in
    let is : c.from_residual.result ≡ Err (error_of why) = search rules in
    let Undamaged : Type 0 = (l : Language) (w : ListWorld) → IsAtRest g.H.Host.view g.K.Keep.holds g.K.Keep.live l w c.args.rest c.args.host.now → ⊥ in
    undamaged_there Counters (Opened g.row.K.Denot × ℕ) c.from_residual.result why is Undamaged c.in_err-counters.ensures.too_large (λ key same l w rest.
    let held = heap_holds g.H.Host.view g.K.Keep.holds g.K.Keep.live l w c.args.rest c.new-heap.result c.args.host.now rest c.new-heap.ensures in
    there_unbroken (Err why) (counters_in rest.entries) (counters_of w.bones) key (c.in_err-counters.ensures.value rest.entries held) (c.heaps_show_held_worlds.ensures.counters l rest.entries w rest.world) (ap (λ e. Err e) same))
