use Rattle.std.proofs.Common.{rules, ◌≡◌, ℕ, Err, Option, ap}
use Rattle.std.specs.Prelude.{nat_le}
use Rattle.std.specs.List.{find}
use Rattle.std.specs.Option.{option_map}
use Rattle.ode_codec.specs.declared.record.Entry as stored
use Rattle.ode_heap.specs.Answering.{entry_of}
use Rattle.ode_heap.specs.Looking.{entry_from}
use Rattle.ode_opened.specs.declared.opened.Opened.{Opened}
use Rattle.ode_transact.proofs.BeginLaws.{there_unbroken, undamaged_there}
use Rattle.ode_transact.proofs.FrontLaws.{front_is, heap_holds, rest_reads_on}
use Rattle.ode_transact.proofs.transacting.first_entry.Goals as goal
use Rattle.ode_transact.specs.Errors.{error_of}
use Rattle.ode_transact.specs.Resting.{IsAtRest}
use Rattle.ode_value.specs.Language.{Language, ListWorld}
use Rattle.ode_value.specs.Worlds.{Entry}

pub returns-clause-is : goal.returns-clause-is
returns-clause-is g c = λ l w rest.
    let held = heap_holds g.H.Host.view g.K.Keep.holds g.K.Keep.live l w c.args.rest c.new-heap.result c.args.host.now rest c.new-heap.ensures in (
      rest_reads_on g.H.Host.view g.K.Keep.holds g.K.Keep.live l w c.args.rest c.entry_from.new.self c.into_keeper.result c.args.host.now c.entry_from.new.host rest c.in_ok-found.ensures.usable
          (c.in_ok-found.ensures.holds rest.entries held) c.into_keeper.ensures,
      front_is _ c.in_ok-found.found w.bones.queue (c.in_ok-found.ensures.value rest.entries held) (c.heaps_show_held_worlds.ensures.next_entry l rest.entries w 0 rest.world),
    )

pub returns-in_err-found-clause-undamaged : goal.returns-in_err-found-clause-undamaged
returns-in_err-found-clause-undamaged g c =
    let why = c.in_err-found.field-0.0 in
    let is : c.from_residual.result ≡ Err (error_of why) = search rules in
    let Undamaged : Type 0 = (l : Language) (w : ListWorld) → IsAtRest g.H.Host.view g.K.Keep.holds g.K.Keep.live l w c.args.rest c.args.host.now → ⊥ in
    undamaged_there (Option (ℕ × stored.Entry)) (Opened g.row.K.Denot × Option (ℕ × stored.Entry)) c.from_residual.result why is Undamaged c.in_err-found.ensures.too_large (λ key same l w rest.
    let held = heap_holds g.H.Host.view g.K.Keep.holds g.K.Keep.live l w c.args.rest c.new-heap.result c.args.host.now rest c.new-heap.ensures in
    there_unbroken (Err why) (entry_from rest.entries 0) (option_map (λ (q : ℕ × Entry). (q.0, entry_of q.1)) (find (λ (q : ℕ × Entry). nat_le 0 q.0) w.bones.queue)) key (c.in_err-found.ensures.value rest.entries held)
    (c.heaps_show_held_worlds.ensures.next_entry l rest.entries w 0 rest.world) (ap (λ e. Err e) same))
