use Rattle.std.proofs.lemmas.Result.{IfErr-weaker, err_from_is_err_and}
use Rattle.ode_host.proofs.Calls.{rose_as}
use Rattle.ode_host.proofs.Moments.{tells_looks}
use Rattle.ode_open.proofs.Refusing.{at_ok}
use Rattle.ode_begin.proofs.Holding.{pages_hold}
use Rattle.ode_begin.proofs.Reopening.{aligned_over, fit_over, live_over, never_areas, never_fault, opens_over, outside_only}
use Rattle.ode_begin.proofs.Running.{held_unbroken}
use Rattle.ode_begin.proofs.opening.open_pages.Goals as goal

-- it wasn't opened
pub returns-in_err-opened-clause-outside : goal.returns-in_err-opened-clause-outside
returns-in_err-opened-clause-outside g c = λ image w tells holds.
    let p = err_from_is_err_and c.from_residual.result c.from_residual.ensures.1 in
    let why = c.in_err-opened.field-0.0 in
    rw (p.1, p.2) (outside_only image w why (held_unbroken c.files_of_worlds_are_opened.ensures.unbroken image w (pages_hold image w holds) why) (c.in_err-opened.ensures.answer image tells))

-- it was
pub returns-clause-opened : goal.returns-clause-opened
returns-clause-opened g c =
    at_ok c.over_pages.result
    (λ p over image w tells holds.
    opens_over w image c.in_ok-opened.opened (g.H.Host.view c.open_base.new.host) holds
    (record { tells = tells_looks image _ _ c.open_base.ensures.looks tells; only = c.in_ok-opened.ensures.synced (λ is. cc (is)) image tells })
    (c.in_ok-opened.ensures.keeper image tells) c.records_of_the_first_format_are_opened_alike.ensures p over)
    c.over_pages.ensures.pages

pub returns-clause-outside : goal.returns-clause-outside
returns-clause-outside g c = λ image w tells holds.
    IfErr-weaker c.over_pages.result _ _
    (λ why areas.
    absurd
    (never_areas w image c.in_ok-opened.opened (g.H.Host.view c.open_base.new.host) holds
    (record { tells = tells_looks image _ _ c.open_base.ensures.looks tells; only = c.in_ok-opened.ensures.synced (λ is. cc (is)) image tells })
    (c.in_ok-opened.ensures.keeper image tells) areas))
    c.over_pages.ensures.areas

pub returns-clause-live : goal.returns-clause-live
returns-clause-live g c = at_ok c.over_pages.result (λ p over. live_over c.in_ok-opened.opened p over c.in_ok-opened.ensures.live) c.over_pages.ensures.pages

pub returns-clause-fit : goal.returns-clause-fit
returns-clause-fit g c = at_ok c.over_pages.result (λ p over. fit_over c.in_ok-opened.opened p over c.in_ok-opened.ensures.fit) c.over_pages.ensures.pages

pub returns-clause-aligned : goal.returns-clause-aligned
returns-clause-aligned g c = at_ok c.over_pages.result (λ p over. aligned_over c.in_ok-opened.opened p over c.in_ok-opened.ensures.places c.in_ok-opened.ensures.aligned) c.over_pages.ensures.pages

pub returns-clause-cause : goal.returns-clause-cause
returns-clause-cause g c = rose_as _ _ _ _ (λ is. cc (is)) (λ is. absurd (never_fault c.over_pages.result c.over_pages.ensures.why is)) c.in_ok-opened.ensures.cause
