use Rattle.std.proofs.Common.{arith, length}
use Rattle.ode_trees.proofs.FoundLaws.{found-few, found-many}
use Rattle.ode_trees.proofs.growth.reach.Goals as goal

pub returns-then-len-le-STATE_LIMIT-clause-answer : goal.returns-then-len-le-STATE_LIMIT-clause-answer
returns-then-len-le-STATE_LIMIT-clause-answer c = λ ms p.
    let found = c.in_ok-found.found in
    found-few c.args.e.now c.args.marks.now found.trees found.next (omega (arith, c.len.ensures, c.if-len-le-STATE_LIMIT.true)) c.in_ok-found.ensures.count c.in_ok-found.ensures.first c.in_ok-found.ensures.next ms p

pub returns-else-len-le-STATE_LIMIT-clause-answer : goal.returns-else-len-le-STATE_LIMIT-clause-answer
returns-else-len-le-STATE_LIMIT-clause-answer c = λ ms p.
    let found = c.in_ok-found.found in
    found-many c.args.e.now c.args.marks.now (length found.trees) (omega (arith, c.len.ensures, c.if-len-le-STATE_LIMIT.false)) c.in_ok-found.ensures.count ms p
