use Rattle.std.proofs.Common.{◌≡◌, ◌<◌, refl, subst, sym}
use Rattle.ode_keep.specs.Entries.{Entries, applied, record_bytes}
use Rattle.ode_keep.specs.declared.limits.TheConstants.{MAX_PAGED_BYTES}
use Rattle.ode_paging.specs.declared.planning.Plan.{Plan}
use Rattle.ode_paging.proofs.Handled.{damaged_more}
use Rattle.ode_pagemap.proofs.Committing.{are, counts_of, have, if_both, large_more, planned_for}
use Rattle.ode_pagemap.proofs.Paged.{of_pages}
use Rattle.ode_pagemap.proofs.map.PageMap.plan.Goals as goal

pub plan_batch-requires-clause-pages : goal.plan_batch-requires-clause-pages
plan_batch-requires-clause-pages g c = of_pages c.args.self.now.header c.args.self.now.form

pub returns-clause-planned : goal.returns-clause-planned
returns-clause-planned g c =
    let keeper = c.args.self.now in
    let old = g.H.Host.view c.args.host.now in
    if_both c.plan_batch.result c.plan_batch.ensures.planned c.plan_batch.ensures.counted
    (λ plan planned counted entries h.
    planned_for keeper old entries h (g.H.Host.view c.plan_batch.new.host) c.args.batch.now plan c.plan_batch.ensures.looks
    (planned h.file h.opens.has.pages h.journal.stands.tells (have keeper old entries h) (are keeper old entries h) h.opens.count h.opens.leads)
    (counted h.file h.opens.has.pages h.journal.stands.tells (have keeper old entries h) (are keeper old entries h) h.opens.count h.opens.leads
    (counts_of keeper old entries h (record { bytes = keeper.opened.bytes; queued = keeper.opened.queued }) refl refl)))

pub returns-clause-too_large : goal.returns-clause-too_large
returns-clause-too_large g c =
    let keeper = c.args.self.now in
    let old = g.H.Host.view c.args.host.now in
    large_more Plan c.plan_batch.result c.plan_batch.ensures.too_large
    (λ total large entries h.
    subst (λ (l : Entries). (total ≡ record_bytes (applied c.args.batch.now l)) × (MAX_PAGED_BYTES < total)) (sym h.opens.has.map)
    (large h.file h.opens.has.pages h.journal.stands.tells (have keeper old entries h) (are keeper old entries h) h.opens.count h.opens.leads
    (counts_of keeper old entries h (record { bytes = keeper.opened.bytes; queued = keeper.opened.queued }) refl refl)))

pub returns-clause-damaged : goal.returns-clause-damaged
returns-clause-damaged g c =
    let keeper = c.args.self.now in
    let old = g.H.Host.view c.args.host.now in
    damaged_more Plan c.plan_batch.result c.plan_batch.ensures.damaged
    (λ bad entries h. bad h.file h.opens.has.pages h.journal.stands.tells (have keeper old entries h) (are keeper old entries h) h.opens.count h.opens.leads)
