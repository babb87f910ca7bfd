use Rattle.std.proofs.Common.{rules, ◌≡◌, ◌∙◌, Err, Option, ap}
use Rattle.ode_clock.proofs.ThereLaws.{there_by_head}
use Rattle.ode_clock.proofs.ticking.is_there.Goals as goal
use Rattle.ode_heap.specs.Answering.{head_of_object}
use Rattle.ode_heap.specs.Objects.{object_in}
use Rattle.ode_heap.specs.declared.object.ObjectHead.{ObjectHead}
use Rattle.ode_opened.specs.declared.opened.Opened.{Opened}
use Rattle.ode_transact.proofs.BeginLaws.{there_is, there_unbroken, undamaged_there}
use Rattle.ode_transact.proofs.FrontLaws.{heap_holds, rest_reads_on}
use Rattle.ode_transact.specs.Errors.{error_of}
use Rattle.ode_transact.specs.Resting.{IsAtRest}
use Rattle.ode_value.specs.Denoting.{object_numbered}
use Rattle.ode_value.specs.Language.{Language, ListWorld}
use Rattle.std.specs.Option.{option_map}
use Rattle.std.specs.Prelude.{Bool, is_some}

pub returns-clause-is : goal.returns-clause-is
returns-clause-is g c = λ l w rest.
    let held = heap_holds g.H.Host.view g.K.Keep.holds g.K.Keep.live l w c.args.rest c.new-heap.result c.args.host.now rest c.new-heap.ensures in (
      rest_reads_on g.H.Host.view g.K.Keep.holds g.K.Keep.live l w c.args.rest c.load_object.new.self c.into_keeper.result c.args.host.now c.load_object.new.host rest c.in_ok-load_object.ensures.usable
          (c.in_ok-load_object.ensures.holds rest.entries held) c.into_keeper.ensures,
      c.is_some-there.ensures ∙ ap (λ (found : Option ObjectHead). is_some found) (there_is _ (object_in rest.entries c.args.id) (option_map head_of_object (object_numbered c.args.id w.bones.objects)) (c.in_ok-load_object.ensures.value rest.entries held)
          (c.heaps_show_held_worlds.ensures.object l rest.entries w c.args.id rest.world)) ∙ there_by_head l w rest.world.world.good c.args.id,
    )

pub returns-in_err-load_object-clause-undamaged : goal.returns-in_err-load_object-clause-undamaged
returns-in_err-load_object-clause-undamaged g c =
    let why = c.in_err-load_object.field-0.0 in
    let is : c.from_residual.result ≡ Err (error_of why) = search rules in
    let Undamaged : Type 0 = (l : Language) (w : ListWorld) → IsAtRest g.H.Host.view g.K.Keep.holds g.K.Keep.live l w c.args.rest c.args.host.now → ⊥ in
    undamaged_there (Option ObjectHead) (Opened g.row.K.Denot × Bool) c.from_residual.result why is Undamaged c.in_err-load_object.ensures.too_large (λ key same l w rest.
    let held = heap_holds g.H.Host.view g.K.Keep.holds g.K.Keep.live l w c.args.rest c.new-heap.result c.args.host.now rest c.new-heap.ensures in
    there_unbroken (Err why) (object_in rest.entries c.args.id) (option_map head_of_object (object_numbered c.args.id w.bones.objects)) key (c.in_err-load_object.ensures.value rest.entries held)
    (c.heaps_show_held_worlds.ensures.object l rest.entries w c.args.id rest.world) (ap (λ e. Err e) same))
