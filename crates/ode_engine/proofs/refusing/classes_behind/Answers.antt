use Rattle.std.proofs.Common.{◌∙◌, drop}
use Rattle.std.proofs.lemmas.List.{drop_all}
use Rattle.std.proofs.lemmas.Result.{err_from_is_err_and}
use Rattle.ode_transact.specs.declared.error.EngineError.TheVariants as error
use Rattle.ode_engine.proofs.RefusingLaws.{class_next, keeps_as, keeps_ok, keeps_stopped, leaves_behind, leaves_memory, leaves_ok, none_left, quiet_on, turned_next}
use Rattle.ode_engine.proofs.refusing.classes_behind.Goals as goal

pub returns-in_err-class-clause-keeps : goal.returns-in_err-class-clause-keeps
returns-in_err-class-clause-keeps g c l w t runs =
    let p = err_from_is_err_and c.from_residual.result c.from_residual.ensures.1 in
    rw (p.1, p.2) (keeps_as _ _ (c.in_err-class.ensures.keeps l w t (c.loop-of.invariant.told l w t runs).1))

pub returns-in_err-class-clause-leaves : goal.returns-in_err-class-clause-leaves
returns-in_err-class-clause-leaves g c =
    let p = err_from_is_err_and c.from_residual.result c.from_residual.ensures.1 in
    rw (p.1, p.2) (leaves_behind _ _ _ _ _ c.loop-of.invariant.quiet c.in_err-class.ensures.leaves)

pub returns-clause-keeps : goal.returns-clause-keeps
returns-clause-keeps g c l w t runs = keeps_ok _ _ (c.loop-of.invariant.told l w t runs).1

pub returns-clause-leaves : goal.returns-clause-leaves
returns-clause-leaves g c = leaves_ok _ _ _ _ c.loop-of.invariant.quiet c.loop-of.invariant.live

pub returns-in_err-class-clause-answers : goal.returns-in_err-class-clause-answers
returns-in_err-class-clause-answers g c l w t runs =
    let so_far = c.loop-of.invariant.told l w t runs in
    let p = err_from_is_err_and c.from_residual.result c.from_residual.ensures.1 in
    rw (p.1, p.2) (turned_next t.now.bones c.args.refs.now c.loop-of.of-index _ c.loop-of.classes c.in_err-class.field-0.0 _ c.loop-of-test.true so_far.0 (c.in_err-class.ensures.answers l w t so_far.1))

pub loop-of-preserved : goal.loop-of-preserved
loop-of-preserved g c = record {
  told = λ lang w t runs.
      let so_far = c.loop-of.invariant.told lang w t runs in (
        class_next t.now.bones c.args.refs.now c.loop-of.of-index _ c.in_ok-class.class c.loop-of.classes c.push.new.self _ c.loop-of-test.true so_far.0 (c.in_ok-class.ensures.answers lang w t so_far.1) c.in_ok-push.ensures.ok,
        (c.in_ok-class.ensures.keeps lang w t so_far.1).stays,
      );
  live = c.in_ok-class.ensures.leaves.stays;
  quiet = quiet_on _ _ _ _ _ c.loop-of.invariant.quiet c.in_ok-class.ensures.leaves;
  same = c.in_ok-class.ensures.same ∙ c.loop-of.invariant.same;
}

pub returns-clause-answers : goal.returns-clause-answers
returns-clause-answers g c l w t runs =
    none_left t.now.bones (drop c.loop-of.of-index c.args.refs.now) c.loop-of.classes _ (c.loop-of.invariant.told l w t runs).0 (drop_all c.loop-of.of-index c.args.refs.now c.loop-of-test.false)

pub returns-in_err-push-clause-keeps : goal.returns-in_err-push-clause-keeps
returns-in_err-push-clause-keeps g c l w t runs =
    let p = err_from_is_err_and c.from_residual-in_err-push.result c.from_residual-in_err-push.ensures.1 in
    rw (p.1, p.2) (keeps_stopped error.Memory _ tt)

pub returns-in_err-push-clause-leaves : goal.returns-in_err-push-clause-leaves
returns-in_err-push-clause-leaves g c =
    let p = err_from_is_err_and c.from_residual-in_err-push.result c.from_residual-in_err-push.ensures.1 in
    rw (p.1, p.2) (leaves_memory _ _ _ (quiet_on _ _ _ _ _ c.loop-of.invariant.quiet c.in_ok-class.ensures.leaves))
