use Rattle.std.proofs.Common.{arith, rules}
use Rattle.std.proofs.lemmas.Grind.{common_steps}
use Rattle.ode_run.proofs.constraints.test_each.Goals as goal

pub returns-in_err-test_tracked-clause-tests : goal.returns-in_err-test_tracked-clause-tests
returns-in_err-test_tracked-clause-tests c = λ y fits all.
    let before = c.loop-id.invariant y fits all in
    let failed = c.in_err-test_tracked.ensures.tests y fits (all c.loop-id.id-index 0 c.loop-id-test.true) in
    first_of (search rules, grind (arith, common_steps))

pub loop-id-preserved : goal.loop-id-preserved
loop-id-preserved c = λ y fits all.
    let before = c.loop-id.invariant y fits all in
    let done = c.in_ok-test_tracked.ensures.tests y fits (all c.loop-id.id-index 0 c.loop-id-test.true) in
    first_of (search rules, grind (arith, common_steps))
