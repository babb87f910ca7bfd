use Rattle.std.proofs.Common.{ap, subst, ◌∙◌}
use Rattle.ode_interpreter.specs.Seen.{Ends}
use Rattle.ode_laws.specs.Alike.{NumberTx}
use Rattle.ode_run.proofs.ConstraintLaws.{calm_left, none_tested}
use Rattle.ode_run.proofs.EndLaws.{same_view}
use Rattle.ode_run.proofs.MakeLaws.{classes_now}
use Rattle.ode_run.proofs.work.Work.test_untracked.Goals as goal
use Rattle.ode_run.specs.Knowing.{beside, tx}
use Rattle.ode_run.specs.Testing.{seen_as}
use Rattle.ode_states.specs.Machine.{checked}
use Rattle.ode_value.specs.Acts.{Aborted}
use Rattle.ode_value.specs.Constraints.{tests_hard}
use Rattle.ode_value.specs.declared.reason.Reason.TheVariants as reason

pub returns-in-Some-clause-acts : goal.returns-in-Some-clause-acts
returns-in-Some-clause-acts g c = λ all k fits same holds some none.
    let y = tx all k c.args.self.now in
    let still = same_view all k.first _ _ _ _ _ _ _ _ c.untracked.ensures.same.0 c.untracked.ensures.same.1 c.untracked.ensures.same.2 c.untracked.ensures.same.3 in
    let b = beside k.first c.args.self.now.deferred.now c.args.self.now.text.now c.args.self.now.budget.now in
    let there = c.in_ok-object.ensures.value all k (c.classes.ensures ∙ same) holds none ∙ ap (seen_as c.args.of.object) c.in-Some.is in
    subst (λ (z : NumberTx). Ends c.test_denoted.result z (tests_hard c.args.of y)) still
    (c.test_denoted.ensures.tests y (ap checked (classes_now all k.first c.args.self.now.overlay.now b) ∙ fits) some there)

pub returns-in-Some-clause-kept : goal.returns-in-Some-clause-kept
returns-in-Some-clause-kept g c = λ k same holds.
    calm_left c.test_denoted.result _ _ c.test_denoted.ensures.calm (c.in_ok-object.ensures.kept k (c.classes.ensures ∙ same) holds)

pub returns-in-None-clause-acts : goal.returns-in-None-clause-acts
returns-in-None-clause-acts g c = λ all k fits same holds some none.
    let y = tx all k c.args.self.now in
    let still = same_view all k.first _ _ _ _ _ _ _ _ c.untracked.ensures.same.0 c.untracked.ensures.same.1 c.untracked.ensures.same.2 c.untracked.ensures.same.3 in
    none_tested c.args.of y some (c.in_ok-object.ensures.value all k (c.classes.ensures ∙ same) holds none ∙ ap (seen_as c.args.of.object) c.in-None.is)
    ∙ ap (λ (z : NumberTx). Aborted (reason.NoObject c.args.of.object) z) still

pub returns-in-Some-clause-faults : goal.returns-in-Some-clause-faults
returns-in-Some-clause-faults g c = λ began serves. calm_left c.test_denoted.result _ _ c.test_denoted.ensures.calm (c.in_ok-object.ensures.faults began serves)
