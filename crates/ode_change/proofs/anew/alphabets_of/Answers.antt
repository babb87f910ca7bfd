use Rattle.std.proofs.Common.{rules, ◌≡◌, ◌∙◌, ◌++◌, Err, List, ap, arith, map, refl, subst, sym}
use Rattle.std.proofs.lemmas.Result.{err_from_is_err_and}
use Rattle.std.specs.List.{AllByRecursion}
use Rattle.ode_change.proofs.Gathers.{classes_done, classes_next, own_few}
use Rattle.ode_change.proofs.Over.{symbols_of}
use Rattle.ode_change.specs.Fitting.{HasFewSymbols}
use Rattle.ode_declare.proofs.TakeLaws.{damaged_as}
use Rattle.ode_value.specs.declared.member.TriggerDecl.{TriggerDecl}
use Rattle.ode_change.proofs.anew.alphabets_of.Goals as goal

pub loop-class-preserved : goal.loop-class-preserved
loop-class-preserved c =
    classes_next c.loop-class.alphabets c.put_alphabets.new.alphabets c.args.classes.now c.loop-class.class-index c.class-item.result c.loop-class-test.true c.class-item.is c.loop-class.invariant
    (c.in_ok-put_alphabets.ensures.is ∙ ap (λ (ts : List TriggerDecl). c.loop-class.alphabets ++ map symbols_of ts) c.as_slice.ensures)

pub returns-clause-is : goal.returns-clause-is
returns-clause-is c = classes_done c.loop-class.alphabets c.args.classes.now c.loop-class.class-index (omega (arith, c.loop-class-test.false)) c.loop-class.invariant

pub returns-in_err-put_alphabets-clause-undamaged : goal.returns-in_err-put_alphabets-clause-undamaged
returns-in_err-put_alphabets-clause-undamaged c =
    let p = err_from_is_err_and c.from_residual.result c.from_residual.ensures.1 in
    let same : c.from_residual.result ≡ Err c.in_err-put_alphabets.field-0.0 = rw (p.1, p.2) refl in
    damaged_as c.put_alphabets.result c.from_residual.result c.in_err-put_alphabets.field-0.0 _ _ (search rules) same c.put_alphabets.ensures.undamaged (λ damaged all.
    damaged (subst (AllByRecursion HasFewSymbols) (sym c.as_slice.ensures) (own_few c.args.classes.now c.loop-class.class-index c.class-item.result c.loop-class-test.true c.class-item.is all)))
