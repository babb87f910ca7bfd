use Rattle.std.proofs.Common.{◌∙◌, List, ℕ, arith, refl, subst, sym}
use Rattle.ode_cutting.proofs.Cuts.{IsCutTo, all_cut, front_bytes, left_fit, none_cut, none_long, one_more_cut}
use Rattle.ode_cutting.proofs.cutting.cut.Goals as goal

pub pages-init : goal.pages-init
pages-init c entries is = none_cut entries _ c.args.bytes.now is.spelled refl c.new-images.ensures.items

pub returns-then-front-eq0-clause-long : goal.returns-then-front-eq0-clause-long
returns-then-front-eq0-clause-long c entries is room =
    let so_far = c.pages.invariant entries is in
    let front = c.front_of-front.ensures.front so_far.left so_far.rest_is (left_fit entries c.pages.pages c.pages.rest.now so_far is.fits.rows) in
    none_long entries c.pages.pages c.pages.rest.now so_far c.front_of-front.result front c.if-front-eq0.true (omega (arith, c.pages-test.true)) room

pub pages-preserved : goal.pages-preserved
pages-preserved c entries is =
    let so_far = c.pages.invariant entries is in
    let f = c.front_of-front.result in
    let front = c.front_of-front.ensures.front so_far.left so_far.rest_is (left_fit entries c.pages.pages c.pages.rest.now so_far is.fits.rows) in
    let put = c.in_ok-add.ensures.put front.front front.rows (c.split_at.ensures.front ∙ front_bytes entries c.pages.pages c.pages.rest.now so_far f front) in
    subst (λ (l : List ℕ). IsCutTo entries c.add.new.self l) (sym c.split_at.ensures.back)
    (one_more_cut entries c.pages.pages c.pages.rest.now so_far f c.add.new.self front c.front_of-front.ensures.room (omega (arith, c.if-front-eq0.false)) c.in_ok-add.ensures.counted put)

pub returns-clause-whole : goal.returns-clause-whole
returns-clause-whole c entries is = all_cut entries c.pages.pages c.pages.rest.now (c.pages.invariant entries is) (omega (arith, c.pages-test.false))
