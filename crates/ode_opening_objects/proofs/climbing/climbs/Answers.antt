use Rattle.std.proofs.Common.{◌≡◌, ◌-◌, ◌+◌, suc, length, sym, ◌∙◌, arith}
use Rattle.ode_opening_objects.proofs.ClimbLaws.{climbs_on}
use Rattle.ode_opening_objects.proofs.climbing.climbs.Goals as goal

pub loop-step-preserved : goal.loop-step-preserved
loop-step-preserved g c =
    let steps = length c.as_slice-steps.result.now in
    let step = c.loop-step.step in
    let one : steps - step ≡ suc (steps - (step + 1)) = omega (arith, c.loop-step-test.true) in
    sym (climbs_on (g.S.Sought.passes c.args.sought.now) c.args.classes.now c.loop-step.number (steps - step) (steps - (step + 1)) c.in-Some.parent one
    (sym c.looked.ensures ∙ c.in-Some.is ∙ cc (c.in-Some.same-is, c.in-Some.parent-is, c.if-same.false)))
    ∙ c.loop-step.invariant
