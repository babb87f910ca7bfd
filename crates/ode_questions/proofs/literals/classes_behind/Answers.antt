use Rattle.std.proofs.Common.{◌≡◌, List, drop, subst, sym, ℕ}
use Rattle.ode_machine.specs.Refusals.{classes_behind}
use Rattle.ode_value.specs.declared.value.Ref.{Ref}
use Rattle.std.proofs.lemmas.List.{drop_all}
use Rattle.std.proofs.lemmas.Result.{err_from_is_err_and}
use Rattle.ode_questions.proofs.LiteralLaws.{class_next, none_left, none_more, turned_next, with_more}
use Rattle.ode_questions.proofs.StepLaws.{over_memory, over_ok, since_none, since_on}
use Rattle.ode_questions.proofs.literals.classes_behind.Goals as goal

pub loop-of-init : goal.loop-of-init
loop-of-init g c = record {
  told = λ lang entries w held kept.
      (subst (λ (cs : List (Ref × ℕ)). classes_behind w.bones c.args.refs.now ≡ with_more cs (classes_behind w.bones c.args.refs.now)) (sym c.new-classes.ensures) (none_more (classes_behind w.bones c.args.refs.now)), kept);
  live = c.requires.live;
  since = since_none _ _ c.requires.live;
}

pub loop-of-preserved : goal.loop-of-preserved
loop-of-preserved g c = record {
  told = λ lang entries w held kept.
      let so_far = c.loop-of.invariant.told lang entries w held kept in
      let over = c.in_ok-class.ensures.over lang entries w held so_far.1 in
      (class_next w.bones c.args.refs.now c.loop-of.of-index _ c.in_ok-class.class c.loop-of.classes c.push.new.self _ c.loop-of-test.true so_far.0 over.says c.in_ok-push.ensures.ok, over.keeps);
  live = c.in_ok-class.ensures.since.usable;
  since = since_on _ _ _ _ _ _ c.loop-of.invariant.since c.in_ok-class.ensures.since;
}

pub returns-in_err-class-clause-over : goal.returns-in_err-class-clause-over
returns-in_err-class-clause-over g c lang entries w held kept =
    let so_far = c.loop-of.invariant.told lang entries w held kept in
    let p = err_from_is_err_and c.from_residual.result c.from_residual.ensures.1 in
    rw (p.1, p.2) (turned_next w.bones c.args.refs.now c.loop-of.of-index _ c.loop-of.classes c.in_err-class.field-0.0 _ _ c.loop-of-test.true so_far.0 (c.in_err-class.ensures.over lang entries w held so_far.1))

pub returns-in_err-class-clause-since : goal.returns-in_err-class-clause-since
returns-in_err-class-clause-since g c =
    let p = err_from_is_err_and c.from_residual.result c.from_residual.ensures.1 in
    rw (p.1, p.2) (since_on _ _ _ _ _ _ c.loop-of.invariant.since c.in_err-class.ensures.since)

pub returns-in_err-push-clause-over : goal.returns-in_err-push-clause-over
returns-in_err-push-clause-over g c lang entries w held kept =
    let so_far = c.loop-of.invariant.told lang entries w held kept in
    let p = err_from_is_err_and c.from_residual-in_err-push.result c.from_residual-in_err-push.ensures.1 in
    rw (p.1, p.2) (over_memory _ _ (c.in_ok-class.ensures.over lang entries w held so_far.1).keeps)

pub returns-in_err-push-clause-since : goal.returns-in_err-push-clause-since
returns-in_err-push-clause-since g c =
    let p = err_from_is_err_and c.from_residual-in_err-push.result c.from_residual-in_err-push.ensures.1 in
    rw (p.1, p.2) (since_on _ _ _ _ _ _ c.loop-of.invariant.since c.in_ok-class.ensures.since)

pub returns-clause-over : goal.returns-clause-over
returns-clause-over g c lang entries w held kept =
    let so_far = c.loop-of.invariant.told lang entries w held kept in
    over_ok _ c.loop-of.classes _ (none_left w.bones (drop c.loop-of.of-index c.args.refs.now) c.loop-of.classes _ so_far.0 (drop_all c.loop-of.of-index c.args.refs.now c.loop-of-test.false)) so_far.1

pub returns-clause-since : goal.returns-clause-since
returns-clause-since g c = c.loop-of.invariant.since
