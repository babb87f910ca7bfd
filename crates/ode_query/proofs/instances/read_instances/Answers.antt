use Rattle.std.proofs.Common.{arith, rules, ◌≡◌, ◌∙◌, ◌++◌, List, Err, Ok, refl, ap, subst, sym, ℕ, ⊎_elim}
use Rattle.std.specs.Option.{option_map}
use Rattle.ode_heap.specs.Answering.{head_of_object}
use Rattle.ode_heap.specs.Answers.{There}
use Rattle.ode_heap.specs.Looking.{object_from}
use Rattle.ode_heap.specs.Objects.{object_in}
use Rattle.ode_host.proofs.Moments.{looks_joined, looks_none}
use Rattle.ode_query.proofs.InstanceLaws.{at_end, at_first, found_drawn, found_low, goes_on, has_head, heap_stops, instances_in, number_from, there_is}
use Rattle.ode_query.proofs.ObjectLaws.{all_from}
use Rattle.ode_query.proofs.instances.read_instances.Goals as goal
use Rattle.ode_query.specs.Answers.{Says}
use Rattle.ode_query.specs.Errors.{error_of}
use Rattle.ode_query.specs.Rows.{instances}
use Rattle.ode_value.specs.Denoting.{object_numbered}

pub objects-init : goal.objects-init
objects-init g c = record {
  live = c.requires.live;
  looks = looks_none (g.H.Host.view c.args.host.now);
  faults = refl;
  holds = λ entries held. held;
  rest = λ by entries w held records classes.
      ap (λ (ns : List ℕ). ns ++ instances_in w.bones c.args.class.now (all_from 0 w.bones.objects)) c.new-numbers.ensures ∙ at_first w.bones c.args.class.now held.world.good.bones.rising;
}

pub returns-in_default-clause-value : goal.returns-in_default-clause-value
returns-in_default-clause-value g c = λ by entries w held records classes.
    let here = c.objects.invariant.holds entries records in
    let found = there_is _ (There (object_from entries c.objects.from)) (number_from c.objects.from w.bones.objects) (c.in_ok-object.ensures.value entries here) (ap There (c.heaps_show_held_worlds.ensures.next_object by entries w c.objects.from held)) in
    ap (λ (ns : List ℕ). Ok ns) (sym (at_end w.bones c.args.class.now c.objects.numbers c.objects.from (sym found ∙ c.in_default.is) (c.objects.invariant.rest by entries w held records classes)))

pub returns-in_err-head-clause-value : goal.returns-in_err-head-clause-value
returns-in_err-head-clause-value g c = λ by entries w held records classes.
    let why = c.in_err-head.field-0.0 in
    let is : c.from_residual-in_err-head.result ≡ Err (error_of why) = search rules in
    let here = c.in_ok-object.ensures.holds entries (c.objects.invariant.holds entries records) in
    subst (Says (Ok (instances w.bones c.args.class.now))) (sym is)
    (heap_stops why (object_in entries c.in-Some.object) (option_map head_of_object (object_numbered c.in-Some.object w.bones.objects)) (instances w.bones c.args.class.now) (c.in_err-head.ensures.value entries here)
    (c.heaps_show_held_worlds.ensures.object by entries w c.in-Some.object held) c.in_err-head.ensures.too_large)

pub returns-in_default-2-clause-value : goal.returns-in_default-2-clause-value
returns-in_default-2-clause-value g c = rw c.damaged-in_default-2.ensures (λ by entries w held records classes.
    let before = c.objects.invariant.holds entries records in
    let here = c.in_ok-object.ensures.holds entries before in
    let found = there_is _ (There (object_from entries c.objects.from)) (number_from c.objects.from w.bones.objects) (c.in_ok-object.ensures.value entries before) (ap There (c.heaps_show_held_worlds.ensures.next_object by entries w c.objects.from held)) in
    let head = there_is _ (object_in entries c.in-Some.object) (option_map head_of_object (object_numbered c.in-Some.object w.bones.objects)) (c.in_ok-head.ensures.value entries here) (c.heaps_show_held_worlds.ensures.object by entries w c.in-Some.object held) in
    has_head w.bones.objects c.objects.from c.in-Some.object held.world.good.bones.rising (sym found ∙ c.in-Some.is) (sym head ∙ c.in_default-2.is))

pub returns-in_default-above-clause-value : goal.returns-in_default-above-clause-value
returns-in_default-above-clause-value g c = rw c.damaged.ensures (λ by entries w held records classes.
    let before = c.objects.invariant.holds entries records in
    let found = there_is _ (There (object_from entries c.objects.from)) (number_from c.objects.from w.bones.objects) (c.in_ok-object.ensures.value entries before) (ap There (c.heaps_show_held_worlds.ensures.next_object by entries w c.objects.from held)) in
    let is = sym found ∙ c.in-Some.is in
    let low = found_low w.bones.objects c.objects.from c.in-Some.object is in
    let drawn = found_drawn w.bones c.objects.from c.in-Some.object held.world.good.bones.objects is in
    c.above.ensures.none c.in_default-above.is low (omega (arith, drawn, held.world.good.bones.next.bounded)))

pub objects-preserved : goal.objects-preserved
objects-preserved g c = record {
  live = c.in_ok-head.ensures.usable;
  looks = looks_joined _ _ _ (looks_joined _ _ _ c.objects.invariant.looks c.in_ok-object.ensures.looks) c.in_ok-head.ensures.looks;
  faults = ⊎_elim (λ err. cc (err)) (λ same. same ∙ ⊎_elim (λ err. cc (err)) (λ before. before ∙ c.objects.invariant.faults) c.in_ok-object.ensures.cause.calm) c.in_ok-head.ensures.cause.calm;
  holds = λ entries held. c.in_ok-head.ensures.holds entries (c.in_ok-object.ensures.holds entries (c.objects.invariant.holds entries held));
  rest = λ by entries w held records classes.
      let before = c.objects.invariant.holds entries records in
      let here = c.in_ok-object.ensures.holds entries before in
      let found = there_is _ (There (object_from entries c.objects.from)) (number_from c.objects.from w.bones.objects) (c.in_ok-object.ensures.value entries before) (ap There (c.heaps_show_held_worlds.ensures.next_object by entries w c.objects.from held)) in
      let head = there_is _ (object_in entries c.in-Some.object) (option_map head_of_object (object_numbered c.in-Some.object w.bones.objects)) (c.in_ok-head.ensures.value entries here) (c.heaps_show_held_worlds.ensures.object by entries w c.in-Some.object held) in
      ap (λ (ns : List ℕ). ns ++ instances_in w.bones c.args.class.now (all_from c.in-Some-above.next w.bones.objects)) c.in_ok-add_member.ensures
      ∙ goes_on w.bones c.args.class.now c.objects.numbers c.objects.from c.in-Some.object c.in-Some-above.next c.in-Some-2.head c.inherits.result held.world.good.bones.rising held.world.good.bones.objects (sym found ∙ c.in-Some.is)
      (sym c.in-Some-2.is ∙ head) (c.inherits.ensures w.bones.classes (sym classes)) c.in-Some-above.ensures.next.0 (c.objects.invariant.rest by entries w held records classes);
}
