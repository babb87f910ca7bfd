use Rattle.std.proofs.Common.{arith, rules, ◌≡◌, ◌∙◌, ◌+◌, ◌++◌, List, Option, Err, map, refl, ap, subst, sym, ⊎_elim}
use Rattle.std.proofs.lemmas.List.Elements.{All-nil, All-push}
use Rattle.std.specs.List.{All}
use Rattle.std.specs.Option.{option_map}
use Rattle.ode_clock.proofs.RowLaws.{all_from, all_rise}
use Rattle.ode_clock.proofs.RowSteps.{found_drawn, found_low, has_head, number_from, row_found, row_recurs, rows_end, rows_next}
use Rattle.ode_clock.proofs.rows.time_rows.Goals as goal
use Rattle.ode_heap.specs.Answers.{There}
use Rattle.ode_heap.specs.Looking.{object_from}
use Rattle.ode_heap.specs.Answering.{class_of, head_of_object}
use Rattle.ode_heap.specs.Objects.{object_in}
use Rattle.ode_heap.specs.declared.object.ObjectHead.{ObjectHead}
use Rattle.ode_heap_laws.specs.Few.{HoldsCounted}
use Rattle.ode_keep.specs.Entries.{Entries}
use Rattle.ode_host.proofs.Moments.{looks_joined, looks_none}
use Rattle.ode_language.specs.Languages.{ode}
use Rattle.ode_machine.specs.TimeRows.{time_row}
use Rattle.ode_timer.specs.declared.clock.TimeRow.{TimeRow}
use Rattle.ode_timer.specs.Due.{AllRecur, Recurs}
use Rattle.ode_transact.proofs.BeginLaws.{there_is, there_unbroken, undamaged_there}
use Rattle.ode_transact.specs.Errors.{error_of}
use Rattle.ode_value.specs.Denoting.{object_numbered}
use Rattle.ode_value.specs.Language.{ListWorld}

pub objects-init : goal.objects-init
objects-init g c = record {
  live = c.requires.live;
  looks = looks_none (g.H.Host.view c.args.host.now);
  faults = refl;
  holds = λ entries held. held;
  recur = rw c.new-rows.ensures (All-nil (λ (row : TimeRow). All Recurs row.kinds));
  rest = λ by entries w held records classes.
      ap (λ (rows : List TimeRow). rows ++ map (time_row w.bones.classes) (all_from 0 w.bones.objects)) c.new-rows.ensures
      ∙ ap (map (time_row w.bones.classes)) (all_rise 0 w.bones.objects held.world.good.bones.rising);
}

pub returns-in_default-clause-rows : goal.returns-in_default-clause-rows
returns-in_default-clause-rows g c = λ by entries w held records classes.
    let here = c.objects.invariant.holds entries records in
    let found = there_is _ (There (object_from entries c.objects.from)) (number_from c.objects.from w.bones.objects) (c.in_ok-object.ensures.value entries here) (ap There (c.heaps_show_held_worlds.ensures.next_object by entries w c.objects.from held)) in
    rows_end w.bones c.objects.rows c.objects.from (sym found ∙ c.in_default.is) (c.objects.invariant.rest by entries w held records classes)

pub returns-in_err-head-clause-undamaged : goal.returns-in_err-head-clause-undamaged
returns-in_err-head-clause-undamaged g c =
    let why = c.in_err-head.field-0.0 in
    let is : c.from_residual-in_err-head.result ≡ Err (error_of why) = search rules in
    let Undamaged : Type 0 = (entries : Entries) (w : ListWorld) → HoldsCounted ode entries w → g.K.Keep.holds c.args.heap.now (g.H.Host.view c.args.host.now) entries → c.args.classes.now ≡ map class_of w.bones.classes → ⊥ in
    undamaged_there (Option ObjectHead) (List TimeRow) c.from_residual-in_err-head.result why is Undamaged c.in_err-head.ensures.too_large (λ key same entries w held records classes.
    let here = c.in_ok-object.ensures.holds entries (c.objects.invariant.holds entries records) in
    there_unbroken (Err why) (object_in entries c.in-Some.object) (option_map head_of_object (object_numbered c.in-Some.object w.bones.objects)) key (c.in_err-head.ensures.value entries here)
    (c.heaps_show_held_worlds.ensures.object ode entries w c.in-Some.object held) (ap (λ e. Err e) same))

pub returns-in_default-2-clause-undamaged : goal.returns-in_default-2-clause-undamaged
returns-in_default-2-clause-undamaged g c = rw c.damaged-in_default-2.ensures (λ entries w held records classes.
    let before = c.objects.invariant.holds entries records in
    let here = c.in_ok-object.ensures.holds entries before in
    let found = there_is _ (There (object_from entries c.objects.from)) (number_from c.objects.from w.bones.objects) (c.in_ok-object.ensures.value entries before) (ap There (c.heaps_show_held_worlds.ensures.next_object ode entries w c.objects.from held)) in
    let head = there_is _ (object_in entries c.in-Some.object) (option_map head_of_object (object_numbered c.in-Some.object w.bones.objects)) (c.in_ok-head.ensures.value entries here) (c.heaps_show_held_worlds.ensures.object ode entries w c.in-Some.object held) in
    has_head w.bones.objects c.objects.from c.in-Some.object held.world.good.bones.rising (sym found ∙ c.in-Some.is) (sym head ∙ c.in_default-2.is))

pub returns-in_default-above-clause-undamaged : goal.returns-in_default-above-clause-undamaged
returns-in_default-above-clause-undamaged g c = rw c.damaged.ensures (λ entries w held records classes.
    let before = c.objects.invariant.holds entries records in
    let found = there_is _ (There (object_from entries c.objects.from)) (number_from c.objects.from w.bones.objects) (c.in_ok-object.ensures.value entries before) (ap There (c.heaps_show_held_worlds.ensures.next_object ode entries w c.objects.from held)) in
    let is = sym found ∙ c.in-Some.is in
    let low = found_low w.bones.objects c.objects.from c.in-Some.object is in
    let drawn = found_drawn w.bones c.objects.from c.in-Some.object held.world.good.bones.objects is in
    c.above.ensures.none c.in_default-above.is low (omega (arith, drawn, held.world.good.bones.next.bounded)))

pub objects-preserved : goal.objects-preserved
objects-preserved g c = record {
  live = c.in_ok-head.ensures.usable;
  looks = looks_joined _ _ _ (looks_joined _ _ _ c.objects.invariant.looks c.in_ok-object.ensures.looks) c.in_ok-head.ensures.looks;
  faults = ⊎_elim (λ err. cc (err)) (λ same. same ∙ ⊎_elim (λ err. cc (err)) (λ before. before ∙ c.objects.invariant.faults) c.in_ok-object.ensures.cause.calm) c.in_ok-head.ensures.cause.calm;
  holds = λ entries held. c.in_ok-head.ensures.holds entries (c.in_ok-object.ensures.holds entries (c.objects.invariant.holds entries held));
  recur =
      let all : All Recurs c.in_ok-kinds.kinds = subst (All Recurs) c.as_slice.ensures (c.all_recur.ensures.yes c.if-not-all_recur.false) in
      subst AllRecur (sym c.in_ok-push.ensures.ok) (All-push (λ (row : TimeRow). All Recurs row.kinds) c.objects.rows (record { object = c.in-Some.object; kinds = c.in_ok-kinds.kinds }) c.objects.invariant.recur all);
  rest = λ by entries w held records classes.
      let before = c.objects.invariant.holds entries records in
      let here = c.in_ok-object.ensures.holds entries before in
      let found = there_is _ (There (object_from entries c.objects.from)) (number_from c.objects.from w.bones.objects) (c.in_ok-object.ensures.value entries before) (ap There (c.heaps_show_held_worlds.ensures.next_object by entries w c.objects.from held)) in
      let head = there_is _ (object_in entries c.in-Some.object) (option_map head_of_object (object_numbered c.in-Some.object w.bones.objects)) (c.in_ok-head.ensures.value entries here) (c.heaps_show_held_worlds.ensures.object by entries w c.in-Some.object held) in
      let whole = row_found w.bones c.args.classes.now c.objects.rows c.objects.from c.in-Some.object c.in-Some-2.head c.in_ok-kinds.kinds held.world.good.bones.rising (sym found ∙ c.in-Some.is) (sym c.in-Some-2.is ∙ head) classes
      c.in_ok-kinds.ensures (c.objects.invariant.rest by entries w held records classes) in
      rows_next w.bones c.objects.rows c.push.new.self (record { object = c.in-Some.object; kinds = c.in_ok-kinds.kinds }) c.in-Some.object c.in-Some-above.next c.in-Some-above.ensures.next.0 c.in_ok-push.ensures.ok whole;
}

pub returns-then-not-all_recur-clause-undamaged : goal.returns-then-not-all_recur-clause-undamaged
returns-then-not-all_recur-clause-undamaged g c = rw c.damaged-then-not-all_recur.ensures (λ entries w held records classes.
    let before = c.objects.invariant.holds entries records in
    let here = c.in_ok-object.ensures.holds entries before in
    let found = there_is _ (There (object_from entries c.objects.from)) (number_from c.objects.from w.bones.objects) (c.in_ok-object.ensures.value entries before) (ap There (c.heaps_show_held_worlds.ensures.next_object ode entries w c.objects.from held)) in
    let head = there_is _ (object_in entries c.in-Some.object) (option_map head_of_object (object_numbered c.in-Some.object w.bones.objects)) (c.in_ok-head.ensures.value entries here) (c.heaps_show_held_worlds.ensures.object ode entries w c.in-Some.object held) in
    let whole = row_found w.bones c.args.classes.now c.objects.rows c.objects.from c.in-Some.object c.in-Some-2.head c.in_ok-kinds.kinds held.world.good.bones.rising (sym found ∙ c.in-Some.is) (sym c.in-Some-2.is ∙ head) classes
    c.in_ok-kinds.ensures (c.objects.invariant.rest ode entries w held records classes) in
    let all : All Recurs c.in_ok-kinds.kinds =
    row_recurs w.bones c.objects.rows (map (time_row w.bones.classes) (all_from (c.in-Some.object + 1) w.bones.objects)) (record { object = c.in-Some.object; kinds = c.in_ok-kinds.kinds }) whole
    (c.clock_events_are_in_range.ensures.recur w held.world.good) in
    let yes = c.all_recur.ensures.no (subst (All Recurs) (sym c.as_slice.ensures) all) in
    absurd (cc (yes, c.if-not-all_recur.true)))
