use Rattle.std.proofs.Common.{arith}
use Rattle.ode_paging.proofs.hand.Hand.put_elsewhere.Goals as goal

pub returns-in-Some-clause-put : goal.returns-in-Some-clause-put
returns-in-Some-clause-put g c = λ pages now has.
    let put = (rw c.in-Some.is at c.in_ok-page.ensures.put) pages now has in
    (put.0, record { file = put.1.file; tells = put.1.tells; stand = put.1.stand; covers = put.1.covers })

pub returns-clause-put : goal.returns-clause-put
returns-clause-put g c = λ pages now has.
    let same = (rw c.in_default.is at c.in_ok-page.ensures.other) pages now has in
    let put = c.in_ok-page-2.ensures.put pages now same.covers in
    (put.0, record { file = same.file; tells = same.tells; stand = same.stand; covers = put.1 })

pub returns-clause-few : goal.returns-clause-few
returns-clause-few g c = let kept = (rw c.in_default.is at c.in_ok-page.ensures.kept) in omega (arith, kept, c.in_ok-page-2.ensures.few)
