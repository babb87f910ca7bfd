use Rattle.std.proofs.Common.{rules, ◌≡◌, ◌<◌, Some, None, ap, ◌∙◌}
use Rattle.ode_overlay.specs.Layers.{tracked_at}
use Rattle.ode_run.proofs.ConstraintLaws.{calm_left}
use Rattle.ode_run.proofs.MakeLaws.{classes_now}
use Rattle.ode_run.proofs.ObjectLaws.{tracked_seen}
use Rattle.ode_run.proofs.work.Work.test_hard.Goals as goal
use Rattle.ode_run.specs.Knowing.{beside, tx}
use Rattle.ode_states.specs.Machine.{checked}

pub returns-in-Some-clause-acts : goal.returns-in-Some-clause-acts
returns-in-Some-clause-acts g c = λ all k fits same holds.
    let b = beside k.first c.args.self.now.deferred.now c.args.self.now.text.now c.args.self.now.budget.now in
    let x = c.args.self.now.overlay.now in
    let y = tx all k c.args.self.now in
    let stands = c.overlays_have_views.ensures.stands all k.first x b holds.known.viewed.over in
    let some : 0 < c.args.of.object = search rules in
    let is : tracked_at c.args.of.object x ≡ Some c.in-Some.tracked.now = search rules in
    c.test_denoted.ensures.tests y (ap checked (classes_now all k.first x b) ∙ fits) some (tracked_seen x y c.args.of.object c.in-Some.tracked.now stands is)

pub returns-in-Some-clause-kept : goal.returns-in-Some-clause-kept
returns-in-Some-clause-kept g c = λ k same holds. calm_left c.test_denoted.result _ _ c.test_denoted.ensures.calm holds

pub returns-in-None-clause-acts : goal.returns-in-None-clause-acts
returns-in-None-clause-acts g c = λ all k fits same holds.
    let x = c.args.self.now.overlay.now in
    let some : 0 < c.args.of.object = search rules in
    let is : tracked_at c.args.of.object x ≡ None = search rules in
    c.test_untracked.ensures.acts all k fits same holds some is

pub returns-in-Some-clause-faults : goal.returns-in-Some-clause-faults
returns-in-Some-clause-faults g c = λ began serves. calm_left c.test_denoted.result _ _ c.test_denoted.ensures.calm serves
