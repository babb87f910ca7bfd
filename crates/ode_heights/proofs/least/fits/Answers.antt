use Rattle.ode_heights.proofs.Lowest.{build_step, high_goes_on, part_step}
use Rattle.ode_heights.proofs.least.fits.Goals as goal

pub returns-then-not-branch-clause-no : goal.returns-then-not-branch-clause-no
returns-then-not-branch-clause-no c = λ _.
    high_goes_on c.pop.new.self _ _
    (build_step c.pop.new.self c.loop-item.items c.in-Some.item c.in-Build.action c.effect_of.result c.loop-item.heights _ c.in-Some.ensures.some c.in-Build.is c.effect_of.ensures c.loop-item.invariant.same)
    (c.in_ok-raise_all-in-Build.ensures.high c.if-not-branch.true)

pub returns-then-not-branch-2-clause-no : goal.returns-then-not-branch-2-clause-no
returns-then-not-branch-2-clause-no c = λ _.
    high_goes_on c.pop.new.self _ _
    (part_step c.pop.new.self c.loop-item.items c.in-Some.item c.in-Part.part c.least_effects.result.now c.loop-item.heights _ c.in-Some.ensures.some c.in-Part.is c.least_effects.ensures c.loop-item.invariant.same)
    (c.in_ok-raise_all-in-Part.ensures.high c.if-not-branch-2.true)
