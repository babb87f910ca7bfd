use Rattle.std.proofs.Common.{◌≡◌, ◌∙◌, ℕ, refl, ⊎_elim, subst, arith}
use Rattle.std.proofs.lemmas.Bool.{OnFalse_at, OnTrue_at}
use Rattle.ode_host.proofs.Moments.{looks_joined, looks_none, tells_looks}
use Rattle.ode_keep.specs.Entries.{Entries}
use Rattle.ode_paging.specs.Gathering.{AreApart}
use Rattle.ode_paging.specs.OneMap.{one_page}
use Rattle.ode_paging.specs.Pageful.{StopsAt}
use Rattle.ode_paging.specs.Standing.{HasPage}
use Rattle.ode_paging.specs.declared.pages.TheConstants.{PAGE_SIZE}
use Rattle.ode_paging.proofs.Paging.{read_more, read_none, stops}
use Rattle.ode_paging.proofs.Summing.{fits_bytes, fits_queued}
use Rattle.ode_paging.proofs.reading.read_pages.Goals as goal

pub pages-init : goal.pages-init
pages-init g c = record {
  looks = looks_none (g.H.Host.view c.args.host.now);
  faults = refl;
  within = omega arith;
  read = read_none (g.H.Host.view c.args.host.now) c.args.header.now c.args.images.now c.args.index.now c.none-sums.result c.requires.empty c.none-sums.ensures;
  bytes = omega (arith, c.none-sums.ensures.bytes);
  queued = omega (arith, c.none-sums.ensures.queued);
}

pub returns-in_default-clause-bad : goal.returns-in_default-clause-bad
returns-in_default-clause-bad g c page e =
    let so_far = c.pages.invariant in
    let same : c.pages.page ≡ page = cc (e) in
    subst (λ (k : ℕ). StopsAt (g.H.Host.view c.args.host.now) c.args.header.now c.args.images.now c.args.count k) same
    (stops (g.H.Host.view c.args.host.now) c.args.header.now c.args.images.now c.pages.page c.pages.index c.pages.sums so_far.read c.args.count c.pages-test.true
    (λ file tells es stands apart. (rw c.in_default.is at c.in_ok-entries.ensures.none) c.requires.pages file es (tells_looks file _ _ so_far.looks tells) stands))

pub returns-then-not-branch-clause-bad : goal.returns-then-not-branch-clause-bad
returns-then-not-branch-clause-bad g c page e =
    let so_far = c.pages.invariant in
    let same : c.pages.page ≡ page = cc (e) in
    let known = OnFalse_at c.if-not-branch.true c.in_ok-add.ensures.other in
    subst (λ (k : ℕ). StopsAt (g.H.Host.view c.args.host.now) c.args.header.now c.args.images.now c.args.count k) same
    (stops (g.H.Host.view c.args.host.now) c.args.header.now c.args.images.now c.pages.page c.pages.index c.pages.sums so_far.read c.args.count c.pages-test.true
    (λ file tells es stands apart.
    let own : HasPage c.args.header.now c.args.images.now file c.pages.page c.in-Some.entries =
    (rw c.in-Some.is at c.in_ok-entries.ensures.some) c.requires.pages file (tells_looks file _ _ so_far.looks tells) in
    known (subst (λ (l : Entries). AreApart l c.pages.index) (one_page c.args.header.now c.args.images.now file c.pages.page es c.in-Some.entries stands own) apart)))

pub pages-preserved : goal.pages-preserved
pages-preserved g c =
    let so_far = c.pages.invariant in
    let new = OnTrue_at c.if-not-branch.false c.in_ok-add.ensures.new in
    record {
      looks = looks_joined _ _ _ so_far.looks c.read_page.ensures.looks;
      faults = ⊎_elim (λ err. absurd (cc (err))) (λ same. same ∙ so_far.faults) c.in_ok-entries.ensures.cause.calm;
      within = omega (arith, c.pages-test.true);
      read = read_more (g.H.Host.view c.args.host.now) c.args.header.now c.args.images.now c.pages.page c.pages.index c.pages.sums so_far.read c.in-Some.entries c.add.new.self c.add-in-pages.new.self
          (λ file tells. (rw c.in-Some.is at c.in_ok-entries.ensures.some) c.requires.pages file (tells_looks file _ _ so_far.looks tells)) new.0 new.1
          c.add-in-pages.ensures.fits.rising c.add-in-pages.ensures.bytes c.add-in-pages.ensures.queued;
      bytes = omega (arith, so_far.bytes, c.add-in-pages.ensures.bytes, fits_bytes PAGE_SIZE c.in-Some.entries c.add-in-pages.ensures.fits);
      queued = omega (arith, so_far.queued, c.add-in-pages.ensures.queued, fits_queued PAGE_SIZE c.in-Some.entries c.add-in-pages.ensures.fits);
    }
