use Rattle.std.proofs.Common.{◌≡◌, ◌∙◌, refl}
use Rattle.ode_language.specs.Languages.{ode}
use Rattle.ode_machine.specs.Refusals.{classes_in}
use Rattle.ode_types.specs.Literals.{literals}
use Rattle.ode_engine.proofs.RefusingLaws.{checked_by_rules, classes_now, keeps_as, keeps_rules, leaves_behind, leaves_rules, literal_turned, quiet_on}
use Rattle.ode_engine.proofs.ServeLaws.{quiet_none}
use Rattle.ode_engine.proofs.refusing.checked.Goals as goal

pub returns-in-Ok-clause-answers : goal.returns-in-Ok-clause-answers
returns-in-Ok-clause-answers g c w t runs =
    let stays = (c.in-Ok.ensures.keeps ode w t runs).stays in
    let known : c.behind_literals.new.ctx.classes ≡ classes_in t.now.bones = stays.context.classes ∙ classes_now _ _ _ stays.runs in
    checked_by_rules t.now.bones c.args.s.now (literals c.args.s.now) c.in-Ok.classes c.behind_literals.new.ctx.classes c.by_rules.result refl (c.in-Ok.ensures.answers ode w t runs) known c.by_rules.ensures.answers

pub returns-in-Ok-clause-keeps : goal.returns-in-Ok-clause-keeps
returns-in-Ok-clause-keeps g c w t runs = keeps_rules c.by_rules.result _ (c.in-Ok.ensures.keeps ode w t runs).stays c.by_rules.ensures.calm

pub returns-in-Ok-clause-leaves : goal.returns-in-Ok-clause-leaves
returns-in-Ok-clause-leaves g c =
    let leaves = c.in-Ok.ensures.leaves in
    leaves_rules c.by_rules.result _ _ _ (quiet_on _ _ _ _ _ (quiet_none (g.H.Host.view c.args.host.now)) leaves) leaves.stays c.by_rules.ensures.calm

pub returns-in-Err-clause-answers : goal.returns-in-Err-clause-answers
returns-in-Err-clause-answers g c w t runs = literal_turned t.now.bones c.args.s.now (literals c.args.s.now) c.in-Err.turned refl (c.in-Err.ensures.answers ode w t runs)

pub returns-in-Err-clause-keeps : goal.returns-in-Err-clause-keeps
returns-in-Err-clause-keeps g c w t runs = keeps_as _ _ (c.in-Err.ensures.keeps ode w t runs)

pub returns-in-Err-clause-leaves : goal.returns-in-Err-clause-leaves
returns-in-Err-clause-leaves g c = leaves_behind _ _ _ _ _ (quiet_none (g.H.Host.view c.args.host.now)) c.in-Err.ensures.leaves
