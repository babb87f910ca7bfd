use Rattle.std.proofs.Common.{◌≡◌, inl, inr, Err, ap}
use Rattle.std.proofs.lemmas.Result.{err_from_is_err_and}
use Rattle.ode_keep.specs.declared.error.StartError.TheVariants.{BadJournal, BadPage}
use Rattle.ode_keeper.proofs.Started.{are_areas, are_pages, areas_map, pages_map}
use Rattle.ode_keeper.proofs.keeper.Keeper.read.Goals as goal

-- ---- in two areas

pub returns-in_err-areas-clause-bad_journal : goal.returns-in_err-areas-clause-bad_journal
returns-in_err-areas-clause-bad_journal g c =
    let p = err_from_is_err_and c.from_residual.result c.from_residual.ensures.1 in
    rw (p.1, p.2) (λ at is file tells.
    let same : c.in_err-areas.field-0.0 ≡ BadJournal at = cc (is) in
    inl (are_areas c.args.header.now c.requires c.if-header-eq-TWO_AREAS.true, c.in_err-areas.ensures.bad at (ap Err same) file tells))

pub returns-in_err-areas-clause-bad_page : goal.returns-in_err-areas-clause-bad_page
returns-in_err-areas-clause-bad_page g c =
    let p = err_from_is_err_and c.from_residual.result c.from_residual.ensures.1 in
    rw (p.1, p.2) (λ page is file tells.
    let same : c.in_err-areas.field-0.0 ≡ BadPage page = cc (is) in
    absurd (c.in_err-areas.ensures.no_page page (ap Err same)))

pub returns-in_ok-areas-clause-found : goal.returns-in_ok-areas-clause-found
returns-in_ok-areas-clause-found g c file tells =
    let found = c.in_ok-areas.ensures.found file tells in
    (found.0, inl (are_areas c.args.header.now c.requires c.if-header-eq-TWO_AREAS.true, found.1))

pub returns-in_ok-areas-clause-holds : goal.returns-in_ok-areas-clause-holds
returns-in_ok-areas-clause-holds g c file entries stands counts has =
    let areas = are_areas c.args.header.now c.requires c.if-header-eq-TWO_AREAS.true in
    c.in_ok-areas.ensures.holds file entries stands counts (areas_map c.args.header.now file entries areas has)

-- ---- in pages

pub start-requires-else-header-eq-TWO_AREAS : goal.start-requires-else-header-eq-TWO_AREAS
start-requires-else-header-eq-TWO_AREAS g c = are_pages c.args.header.now c.requires c.if-header-eq-TWO_AREAS.false

pub returns-in_err-pages-clause-bad_journal : goal.returns-in_err-pages-clause-bad_journal
returns-in_err-pages-clause-bad_journal g c =
    let p = err_from_is_err_and c.from_residual-in_err-pages.result c.from_residual-in_err-pages.ensures.1 in
    rw (p.1, p.2) (λ at is file tells.
    let same : c.in_err-pages.field-0.0 ≡ BadJournal at = cc (is) in
    inr (are_pages c.args.header.now c.requires c.if-header-eq-TWO_AREAS.false, c.in_err-pages.ensures.bad_journal at (ap Err same) file tells))

pub returns-in_err-pages-clause-bad_page : goal.returns-in_err-pages-clause-bad_page
returns-in_err-pages-clause-bad_page g c =
    let p = err_from_is_err_and c.from_residual-in_err-pages.result c.from_residual-in_err-pages.ensures.1 in
    rw (p.1, p.2) (λ page is file tells.
    let same : c.in_err-pages.field-0.0 ≡ BadPage page = cc (is) in
    (are_pages c.args.header.now c.requires c.if-header-eq-TWO_AREAS.false, c.in_err-pages.ensures.bad_page page (ap Err same) file tells))

pub returns-in_ok-pages-clause-found : goal.returns-in_ok-pages-clause-found
returns-in_ok-pages-clause-found g c file tells =
    let found = c.in_ok-pages.ensures.found file tells in
    (found.0, inr (are_pages c.args.header.now c.requires c.if-header-eq-TWO_AREAS.false, found.1))

pub returns-in_ok-pages-clause-holds : goal.returns-in_ok-pages-clause-holds
returns-in_ok-pages-clause-holds g c file entries stands counts has =
    let pages = are_pages c.args.header.now c.requires c.if-header-eq-TWO_AREAS.false in
    c.in_ok-pages.ensures.holds file entries stands counts (pages_map c.args.header.now file entries pages has)
