use Rattle.std.proofs.Common.{◌∙◌, Err, ap, subst, sym}
use Rattle.ode_host.proofs.Moments.{looks_on}
use Rattle.ode_migrate.specs.Migrating.{LeavesRecords}
use Rattle.ode_open.proofs.Refusing.{at_ok}
use Rattle.ode_open.specs.Opening.{IsFromOutside}
use Rattle.ode_begin.proofs.Holding.{fit_frame, migrated_disk, migrated_holds, pages_stay}
use Rattle.ode_begin.proofs.Reopening.{disk_as, fault_in, fault_moved, looks_behind, moved_in, outside_moved}
use Rattle.ode_begin.specs.Opening.{unmoved}
use Rattle.ode_begin.proofs.opening.open_migrated.Goals as goal

-- it was migrated
pub returns-in-Ok-clause-opened : goal.returns-in-Ok-clause-opened
returns-in-Ok-clause-opened g c =
    at_ok c.open_pages.result
    (λ p opens w first.
    let to = c.in-Ok.ensures.migrated first.image first.held.entries first.stands first.held.are in
    opens to.image w to.stands.tells (migrated_holds w _ first _ to))
    c.open_pages.ensures.opened

pub returns-in-Ok-clause-outside : goal.returns-in-Ok-clause-outside
returns-in-Ok-clause-outside g c w first =
    let to = c.in-Ok.ensures.migrated first.image first.held.entries first.stands first.held.are in
    c.open_pages.ensures.outside to.image w to.stands.tells (migrated_holds w _ first _ to)

pub returns-in-Ok-clause-disk : goal.returns-in-Ok-clause-disk
returns-in-Ok-clause-disk g c =
    at_ok c.open_pages.result
    (λ p opens w first.
    migrated_disk first.held.entries _ _ c.open_pages.ensures.looks (c.in-Ok.ensures.migrated first.image first.held.entries first.stands first.held.are))
    c.open_pages.ensures.opened

pub returns-in-Ok-clause-any_moment : goal.returns-in-Ok-clause-any_moment
returns-in-Ok-clause-any_moment g c w first =
    let old = g.H.Host.view c.args.host.now in
    let mid = g.H.Host.view c.migrate.new.host in
    let to = c.in-Ok.ensures.migrated first.image first.held.entries first.stands first.held.are in
    looks_on old mid (g.H.Host.view c.open_pages.new.host) (LeavesRecords first.held.entries old)
    (c.in-Ok.ensures.any_moment first.image first.held.entries first.stands first.held.are)
    (pages_stay first.held.entries old mid to c.in-Ok.ensures.leaves.text (g.met.H.Host.text_stands c.migrate.new.host))
    c.open_pages.ensures.looks

pub returns-in-Ok-clause-leaves : goal.returns-in-Ok-clause-leaves
returns-in-Ok-clause-leaves g c = looks_behind _ _ _ _ _ (λ is. cc (is)) c.in-Ok.ensures.leaves c.open_pages.ensures.looks c.open_pages.ensures.cause

-- it wasn't
pub returns-in-Err-clause-outside : goal.returns-in-Err-clause-outside
returns-in-Err-clause-outside g c w first =
    subst IsFromOutside (sym c.unmoved.ensures)
    (outside_moved c.in-Err.error
    (λ at is. c.in-Err.ensures.same at (ap Err is) first.image first.held.entries first.stands first.held.are (fit_frame first.held.entries w first.held.world first.first)))

pub returns-in-Err-clause-any_moment : goal.returns-in-Err-clause-any_moment
returns-in-Err-clause-any_moment g c w first = c.in-Err.ensures.any_moment first.image first.held.entries first.stands first.held.are

pub returns-in-Err-clause-leaves : goal.returns-in-Err-clause-leaves
returns-in-Err-clause-leaves g c =
    disk_as _ _ _ _ (λ is. ap Err (c.unmoved.ensures ∙ ap unmoved (moved_in c.in-Err.error is)))
    (λ is. ap Err (fault_moved c.in-Err.error (sym c.unmoved.ensures ∙ fault_in c.unmoved.result is))) c.in-Err.ensures.leaves
