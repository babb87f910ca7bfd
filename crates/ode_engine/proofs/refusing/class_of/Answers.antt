use Rattle.std.proofs.Common.{◌≡◌, ◌==◌, Option, arith, false, subst, sym}
use Rattle.std.proofs.lemmas.Bool.Decides.{nat_tests}
use Rattle.ode_machine.specs.Refusals.{class_behind}
use Rattle.ode_value.specs.Denoting.{object_at}
use Rattle.ode_value.specs.Worlds.{Object}
use Rattle.ode_engine.specs.Refusing.{Answers}
use Rattle.ode_engine.proofs.FaultLaws.{fault_undamaged}
use Rattle.ode_engine.proofs.RefusingLaws.{keeps_rules, keeps_stopped, leaves_fault, leaves_rules, object_is}
use Rattle.ode_engine.proofs.ServeLaws.{quiet_by}
use Rattle.ode_engine.proofs.refusing.class_of.Goals as goal

pub returns-in-Ok-clause-answers : goal.returns-in-Ok-clause-answers
returns-in-Ok-clause-answers g c l w t runs =
    let some : (c.args.of.now.object == 0) ≡ false = grind (arith, nat_tests, c.if-of-eq0.false) in
    subst (λ (o : Option Object). Answers c.class_there.result (class_behind c.args.of.now o)) (sym (object_is t.now.bones c.args.of.now some))
    (c.class_there.ensures.answers (object_at t.now.bones c.args.of.now.object) (c.in-Ok.ensures.is l w t runs))

pub returns-in-Ok-clause-keeps : goal.returns-in-Ok-clause-keeps
returns-in-Ok-clause-keeps g c l w t runs = keeps_rules c.class_there.result _ (c.in-Ok.ensures.stays l w t runs) c.class_there.ensures.calm

pub returns-in-Ok-clause-leaves : goal.returns-in-Ok-clause-leaves
returns-in-Ok-clause-leaves g c =
    let faults = c.in-Ok.ensures.faults c.requires.live in
    leaves_rules c.class_there.result _ _ _ (quiet_by _ _ _ (λ is. cc (is)) faults.looks faults.faults) faults.usable c.class_there.ensures.calm

pub returns-in-Err-clause-keeps : goal.returns-in-Err-clause-keeps
returns-in-Err-clause-keeps g c l w t runs = rw c.fault_of.ensures (keeps_stopped _ _ (fault_undamaged c.in-Err.stop (c.in-Err.ensures.sound l w t runs)))

pub returns-in-Err-clause-leaves : goal.returns-in-Err-clause-leaves
returns-in-Err-clause-leaves g c =
    let faults = c.in-Err.ensures.faults c.requires.live in
    rw c.fault_of.ensures (leaves_fault _ c.in-Err.stop _ _ _ (λ is. cc (is)) (λ is. cc (is)) faults.looks faults.faults)
