use Rattle.std.proofs.lemmas.Result.{err_from_is_err_and, on_ok_weaker}
use Rattle.ode_host.proofs.Moments.{joined, stands_looks, weaker}
use Rattle.ode_keeper.proofs.Held.{meant_map}
use Rattle.ode_migrate.proofs.Migrating.{is_last, looks_leave, not_last, not_read, other_layout, pages_layout, under_areas, under_pages}
use Rattle.ode_migrate.proofs.Staging.{text_back}
use Rattle.ode_migrate.proofs.to_last.migrate.Goals as goal

-- ---- no header is read

pub returns-in_err-header-clause-any_moment : goal.returns-in_err-header-clause-any_moment
returns-in_err-header-clause-any_moment g c file entries stands means =
    looks_leave _ _ file entries (g.met.H.Host.text_stands c.args.host.now) stands means c.read_header.ensures.looks

pub returns-in_err-header-clause-same : goal.returns-in_err-header-clause-same
returns-in_err-header-clause-same g c =
    let p = err_from_is_err_and c.from_residual.result c.from_residual.ensures.1 in
    rw (p.1, p.2) (λ at is file entries stands means fit.
    let under = meant_map file entries means in
    not_read c.in_err-header.field-0.0 under.0 (c.in_err-header.ensures.counting file under.0 stands.tells under.1) at (cc (is)))

-- ---- the file has the last format

pub returns-then-header-eq-FORMAT-clause-migrated : goal.returns-then-header-eq-FORMAT-clause-migrated
returns-then-header-eq-FORMAT-clause-migrated g c file entries stands means =
    is_last file entries c.in_ok-header.header (g.H.Host.view c.read_header.new.host) (stands_looks file _ _ c.read_header.ensures.looks stands) (c.in_ok-header.ensures.found file stands.tells)
    c.if-header-eq-FORMAT.true means

pub returns-then-header-eq-FORMAT-clause-any_moment : goal.returns-then-header-eq-FORMAT-clause-any_moment
returns-then-header-eq-FORMAT-clause-any_moment g c file entries stands means =
    looks_leave _ _ file entries (g.met.H.Host.text_stands c.args.host.now) stands means c.read_header.ensures.looks

-- ---- it has pages

pub renew-requires : goal.renew-requires
renew-requires g c = pages_layout c.in_ok-header.header c.in_ok-header.ensures.rules c.if-header-eq-PAGES.true

pub returns-in_err-renew-clause-any_moment : goal.returns-in_err-renew-clause-any_moment
returns-in_err-renew-clause-any_moment g c file entries stands means =
    let old = g.H.Host.view c.args.host.now in
    let mid = g.H.Host.view c.read_header.new.host in
    let counts = c.in_ok-header.ensures.found file stands.tells in
    let has = under_pages file entries c.in_ok-header.header counts (pages_layout c.in_ok-header.header c.in_ok-header.ensures.rules c.if-header-eq-PAGES.true) means in
    joined _ _ _ _ (looks_leave old mid file entries (g.met.H.Host.text_stands c.args.host.now) stands means c.read_header.ensures.looks)
    (weaker _ _ _ _ (text_back entries old mid c.read_header.ensures.looks.text) (c.renew.ensures.any_moment file entries (stands_looks file _ _ c.read_header.ensures.looks stands) counts has))

pub returns-then-header-eq-PAGES-clause-any_moment : goal.returns-then-header-eq-PAGES-clause-any_moment
returns-then-header-eq-PAGES-clause-any_moment g c file entries stands means =
    let old = g.H.Host.view c.args.host.now in
    let mid = g.H.Host.view c.read_header.new.host in
    let counts = c.in_ok-header.ensures.found file stands.tells in
    let has = under_pages file entries c.in_ok-header.header counts (pages_layout c.in_ok-header.header c.in_ok-header.ensures.rules c.if-header-eq-PAGES.true) means in
    joined _ _ _ _ (looks_leave old mid file entries (g.met.H.Host.text_stands c.args.host.now) stands means c.read_header.ensures.looks)
    (weaker _ _ _ _ (text_back entries old mid c.read_header.ensures.looks.text) (c.renew.ensures.any_moment file entries (stands_looks file _ _ c.read_header.ensures.looks stands) counts has))

pub returns-then-header-eq-PAGES-clause-migrated : goal.returns-then-header-eq-PAGES-clause-migrated
returns-then-header-eq-PAGES-clause-migrated g c file entries stands means =
    let counts = c.in_ok-header.ensures.found file stands.tells in
    let has = under_pages file entries c.in_ok-header.header counts (pages_layout c.in_ok-header.header c.in_ok-header.ensures.rules c.if-header-eq-PAGES.true) means in
    c.in_ok-renew.ensures.renewed file entries (stands_looks file _ _ c.read_header.ensures.looks stands) counts has

-- ---- it has two areas

pub migrate_areas-requires-clause-areas : goal.migrate_areas-requires-clause-areas
migrate_areas-requires-clause-areas g c = other_layout c.in_ok-header.header c.in_ok-header.ensures.rules c.if-header-eq-PAGES.false

pub returns-clause-migrated : goal.returns-clause-migrated
returns-clause-migrated g c =
    on_ok_weaker c.migrate_areas.result
    (λ migrated file entries stands means.
    let counts = c.in_ok-header.ensures.found file stands.tells in
    migrated file entries (stands_looks file _ _ c.read_header.ensures.looks stands) counts (under_areas file entries c.in_ok-header.header counts (other_layout c.in_ok-header.header c.in_ok-header.ensures.rules c.if-header-eq-PAGES.false) means))
    c.migrate_areas.ensures.migrated

pub returns-clause-any_moment : goal.returns-clause-any_moment
returns-clause-any_moment g c file entries stands means =
    let old = g.H.Host.view c.args.host.now in
    let mid = g.H.Host.view c.read_header.new.host in
    let counts = c.in_ok-header.ensures.found file stands.tells in
    let has = under_areas file entries c.in_ok-header.header counts (other_layout c.in_ok-header.header c.in_ok-header.ensures.rules c.if-header-eq-PAGES.false) means in
    joined _ _ _ _ (looks_leave old mid file entries (g.met.H.Host.text_stands c.args.host.now) stands means c.read_header.ensures.looks)
    (weaker _ _ _ _ (text_back entries old mid c.read_header.ensures.looks.text) (c.migrate_areas.ensures.any_moment file entries (stands_looks file _ _ c.read_header.ensures.looks stands) counts has))

pub returns-clause-same : goal.returns-clause-same
returns-clause-same g c at is file entries stands means fit =
    let counts = c.in_ok-header.ensures.found file stands.tells in
    let has = under_areas file entries c.in_ok-header.header counts (other_layout c.in_ok-header.header c.in_ok-header.ensures.rules c.if-header-eq-PAGES.false) means in
    c.migrate_areas.ensures.same at is file entries (stands_looks file _ _ c.read_header.ensures.looks stands) counts has fit

pub returns-in_err-renew-clause-there : goal.returns-in_err-renew-clause-there
returns-in_err-renew-clause-there g c file header tells counts last =
    absurd (not_last file c.in_ok-header.header header (c.in_ok-header.ensures.found file tells) counts c.if-header-eq-FORMAT.false last)

pub returns-then-header-eq-PAGES-clause-there : goal.returns-then-header-eq-PAGES-clause-there
returns-then-header-eq-PAGES-clause-there g c file header tells counts last =
    absurd (not_last file c.in_ok-header.header header (c.in_ok-header.ensures.found file tells) counts c.if-header-eq-FORMAT.false last)

pub returns-clause-there : goal.returns-clause-there
returns-clause-there g c file header tells counts last =
    absurd (not_last file c.in_ok-header.header header (c.in_ok-header.ensures.found file tells) counts c.if-header-eq-FORMAT.false last)
