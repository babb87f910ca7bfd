use Rattle.std.proofs.Common.{◌==◌, ◌≡◌, Option, arith, false, subst, sym}
use Rattle.std.proofs.lemmas.Bool.Decides.{nat_tests}
use Rattle.std.proofs.lemmas.Result.{err_from_is_err_and}
use Rattle.std.specs.Option.{option_map}
use Rattle.ode_heap.specs.Answering.{head_of_object}
use Rattle.ode_heap.specs.Objects.{object_in}
use Rattle.ode_heap.specs.declared.object.ObjectHead.{ObjectHead}
use Rattle.ode_machine.specs.Refusals.{class_behind}
use Rattle.ode_value.specs.Denoting.{object_numbered}
use Rattle.ode_value.specs.Worlds.{Object}
use Rattle.ode_questions.proofs.LiteralLaws.{null_behind, object_behind}
use Rattle.ode_questions.proofs.StepLaws.{found_there, heap_found, heap_over, heap_since, heap_unless, over_calm, over_refused, since_calm, since_none}
use Rattle.ode_questions.specs.Saying.{refusing}
use Rattle.ode_questions.specs.Steps.{Answers}
use Rattle.ode_questions.proofs.literals.class_of.Goals as goal

pub returns-then-of-eq0-clause-over : goal.returns-then-of-eq0-clause-over
returns-then-of-eq0-clause-over g c lang entries w held kept =
    let null : c.args.of.now.object ≡ 0 = grind (arith, nat_tests, c.if-of-eq0.true) in
    over_refused _ _ _ (null_behind w.bones c.args.of.now null) kept

pub returns-then-of-eq0-clause-since : goal.returns-then-of-eq0-clause-since
returns-then-of-eq0-clause-since g c = since_none _ _ c.requires.live

pub returns-in_err-found-clause-over : goal.returns-in_err-found-clause-over
returns-in_err-found-clause-over g c lang entries w held kept =
    let p = err_from_is_err_and c.from_residual.result c.from_residual.ensures.1 in
    rw (p.1, p.2) (heap_over _ c.in_err-found.field-0.0 (object_in entries c.args.of.now.object) _ _ (c.in_err-found.ensures.value entries kept) (c.heaps_show_held_worlds.ensures.object lang entries w c.args.of.now.object held)
    (heap_unless (Option ObjectHead) _ _ c.in_err-found.field-0.0 c.in_err-found.ensures.holds entries kept))

pub returns-in_err-found-clause-since : goal.returns-in_err-found-clause-since
returns-in_err-found-clause-since g c =
    let p = err_from_is_err_and c.from_residual.result c.from_residual.ensures.1 in
    rw (p.1, p.2) (heap_since _ _ _ c.in_err-found.ensures.looks c.in_err-found.field-0.0 c.in_err-found.ensures.usable c.in_err-found.ensures.cause)

pub returns-clause-over : goal.returns-clause-over
returns-clause-over g c lang entries w held kept =
    let some : (c.args.of.now.object == 0) ≡ false = grind (arith, nat_tests, c.if-of-eq0.false) in
    let o : Option Object = object_numbered c.args.of.now.object w.bones.objects in
    let is = found_there c.in_ok-found.found (object_in entries c.args.of.now.object) (option_map head_of_object o) (c.in_ok-found.ensures.value entries kept) (c.heaps_show_held_worlds.ensures.object lang entries w c.args.of.now.object held) in
    over_calm _ c.class_behind.result _
    (subst (λ (found : Option Object). Answers (refusing (class_behind c.args.of.now found)) c.class_behind.result) (sym (object_behind w.bones c.args.of.now held.world.good.bones.objects some)) (c.class_behind.ensures.says o is))
    c.class_behind.ensures.calm (c.in_ok-found.ensures.holds entries kept)

pub returns-clause-since : goal.returns-clause-since
returns-clause-since g c =
    since_calm _ _ _ _ c.class_behind.ensures.calm (heap_found _ _ _ c.in_ok-found.ensures.looks c.in_ok-found.found c.in_ok-found.ensures.usable c.in_ok-found.ensures.cause)
