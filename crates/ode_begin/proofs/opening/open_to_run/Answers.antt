use Rattle.std.proofs.Common.{◌∙◌, subst}
use Rattle.std.proofs.lemmas.Result.{IfErr-weaker, err_from_is_err_and}
use Rattle.std.specs.Prelude.{IsErrOf}
use Rattle.ode_ends.specs.Resting.{DiskHas}
use Rattle.ode_gate.specs.declared.places.TheConstants.{FORMAT}
use Rattle.ode_host.proofs.Moments.{tells_looks, weaker}
use Rattle.ode_host.specs.FirstSync.{SyncedRun}
use Rattle.ode_keep.specs.Entries.{Entries}
use Rattle.ode_keeper.specs.Files.{FileMeans}
use Rattle.ode_keeper.specs.OneMap.{one_map}
use Rattle.ode_migrate.specs.Migrating.{LeavesRecords}
use Rattle.ode_open.proofs.Refusing.{at_ok}
use Rattle.ode_open.proofs.Synced.{synced_on}
use Rattle.ode_open.specs.Opening.{Stays}
use Rattle.ode_open.specs.declared.error.OpenError.TheVariants.{DiskFault}
use Rattle.ode_paging.specs.Meaning.{PagesMeanIn}
use Rattle.ode_begin.proofs.Calling.{at_exit}
use Rattle.ode_begin.proofs.Claiming.{at_end}
use Rattle.ode_begin.proofs.Holding.{as_format, first_stays, in_first, last_holds, last_means}
use Rattle.ode_begin.proofs.Reopening.{aligned_over, fault_as, fit_over, live_over, looks_left, looks_only, looks_stop, never_areas, never_fault, opens_over, outside_only, stays_held}
use Rattle.ode_begin.proofs.Running.{breaks_none, held_unbroken}
use Rattle.ode_begin.specs.Stops.{StaysIn}
use Rattle.ode_begin.proofs.opening.open_to_run.Goals as goal

-- ---- it wasn't opened

pub returns-in_err-opened-clause-outside : goal.returns-in_err-opened-clause-outside
returns-in_err-opened-clause-outside g c = λ image w tells holds.
    let p = err_from_is_err_and c.from_residual.result c.from_residual.ensures.1 in
    let why = c.in_err-opened.field-0.0 in
    rw (p.1, p.2) (outside_only image w why (held_unbroken c.files_of_worlds_are_opened.ensures.unbroken image w holds why) (c.in_err-opened.ensures.answer image tells))

pub returns-in_err-opened-clause-stops : goal.returns-in_err-opened-clause-stops
returns-in_err-opened-clause-stops g c = λ image text w entries tells holds means said.
    let p = err_from_is_err_and c.from_residual.result c.from_residual.ensures.1 in
    looks_stop w entries image text _ _ holds means _ _ (c.in_err-opened.ensures.stops image text tells said) (λ is. rw (p.1, p.2) (fault_as c.in_err-opened.field-0.0 is))

pub returns-in_err-opened-clause-left : goal.returns-in_err-opened-clause-left
returns-in_err-opened-clause-left g c = λ image text file w entries tells holds means said now. looks_left w entries image text _ _ holds means c.in_err-opened.ensures.looks tells file now

pub returns-in_err-opened-clause-answer : goal.returns-in_err-opened-clause-answer
returns-in_err-opened-clause-answer g c = λ image tells breaks.
    let p = err_from_is_err_and c.from_residual.result c.from_residual.ensures.1 in
    rw (p.1, p.2) (c.in_err-opened.ensures.answer image tells)

pub returns-in_err-opened-clause-looks : goal.returns-in_err-opened-clause-looks
returns-in_err-opened-clause-looks g c = λ image tells breaks. c.in_err-opened.ensures.looks

pub returns-in_err-opened-clause-leaves : goal.returns-in_err-opened-clause-leaves
returns-in_err-opened-clause-leaves g c =
    let p = err_from_is_err_and c.from_residual.result c.from_residual.ensures.1 in
    looks_only _ _ _ _ c.in_err-opened.ensures.looks c.in_err-opened.ensures.cause (λ is. rw (p.1, p.2) (fault_as c.in_err-opened.field-0.0 is))
    (λ is. fault_as c.in_err-opened.field-0.0 (rw (p.1, p.2) at is))

-- ---- it has the last format

pub returns-then-opened-eq-RUN_FORMAT-clause-opened : goal.returns-then-opened-eq-RUN_FORMAT-clause-opened
returns-then-opened-eq-RUN_FORMAT-clause-opened g c =
    at_ok c.over_pages.result
    (λ p over image w tells holds.
    opens_over w image c.in_ok-opened.opened (g.H.Host.view c.open_base.new.host) (last_holds image w holds (as_format image _ _ (c.in_ok-opened.ensures.format image tells) c.if-opened-eq-RUN_FORMAT.true))
    (record { tells = tells_looks image _ _ c.open_base.ensures.looks tells; only = c.in_ok-opened.ensures.synced (λ is. cc (is)) image tells })
    (c.in_ok-opened.ensures.keeper image tells) c.records_of_the_first_format_are_opened_alike.ensures p over)
    c.over_pages.ensures.pages

pub returns-then-opened-eq-RUN_FORMAT-clause-disk : goal.returns-then-opened-eq-RUN_FORMAT-clause-disk
returns-then-opened-eq-RUN_FORMAT-clause-disk g c =
    at_ok c.over_pages.result
    (λ p over image w entries tells holds means. (
      image,
      record { tells = tells_looks image _ _ c.open_base.ensures.looks tells; only = c.in_ok-opened.ensures.synced (λ is. cc (is)) image tells },
      last_means image entries means (as_format image _ _ (c.in_ok-opened.ensures.format image tells) c.if-opened-eq-RUN_FORMAT.true),
    ))
    c.over_pages.ensures.pages

pub returns-then-opened-eq-RUN_FORMAT-clause-outside : goal.returns-then-opened-eq-RUN_FORMAT-clause-outside
returns-then-opened-eq-RUN_FORMAT-clause-outside g c = λ image w tells holds.
    IfErr-weaker c.over_pages.result _ _
    (λ why areas.
    absurd
    (never_areas w image c.in_ok-opened.opened (g.H.Host.view c.open_base.new.host) (last_holds image w holds (as_format image _ _ (c.in_ok-opened.ensures.format image tells) c.if-opened-eq-RUN_FORMAT.true))
    (record { tells = tells_looks image _ _ c.open_base.ensures.looks tells; only = c.in_ok-opened.ensures.synced (λ is. cc (is)) image tells })
    (c.in_ok-opened.ensures.keeper image tells) areas))
    c.over_pages.ensures.areas

pub returns-then-opened-eq-RUN_FORMAT-clause-stops : goal.returns-then-opened-eq-RUN_FORMAT-clause-stops
returns-then-opened-eq-RUN_FORMAT-clause-stops g c = λ image text w entries tells holds means said.
    looks_stop w entries image text _ _ holds means _ _ (c.in_ok-opened.ensures.stops image text tells said) (λ is. cc (is))

pub returns-then-opened-eq-RUN_FORMAT-clause-left : goal.returns-then-opened-eq-RUN_FORMAT-clause-left
returns-then-opened-eq-RUN_FORMAT-clause-left g c = λ image text file w entries tells holds means said now. looks_left w entries image text _ _ holds means c.open_base.ensures.looks tells file now

pub returns-then-opened-eq-RUN_FORMAT-clause-rules : goal.returns-then-opened-eq-RUN_FORMAT-clause-rules
returns-then-opened-eq-RUN_FORMAT-clause-rules g c =
    at_ok c.over_pages.result (λ p over image tells. breaks_none image c.in_ok-opened.opened (λ found to. c.in_ok-opened.ensures.only image found tells to)) c.over_pages.ensures.pages

pub returns-then-opened-eq-RUN_FORMAT-clause-answer : goal.returns-then-opened-eq-RUN_FORMAT-clause-answer
returns-then-opened-eq-RUN_FORMAT-clause-answer g c = λ image tells breaks. absurd (breaks_none image c.in_ok-opened.opened (λ found to. c.in_ok-opened.ensures.only image found tells to) breaks)

pub returns-then-opened-eq-RUN_FORMAT-clause-looks : goal.returns-then-opened-eq-RUN_FORMAT-clause-looks
returns-then-opened-eq-RUN_FORMAT-clause-looks g c = λ image tells breaks. c.open_base.ensures.looks

pub returns-then-opened-eq-RUN_FORMAT-clause-live : goal.returns-then-opened-eq-RUN_FORMAT-clause-live
returns-then-opened-eq-RUN_FORMAT-clause-live g c = at_ok c.over_pages.result (λ p over. live_over c.in_ok-opened.opened p over c.in_ok-opened.ensures.live) c.over_pages.ensures.pages

pub returns-then-opened-eq-RUN_FORMAT-clause-fit : goal.returns-then-opened-eq-RUN_FORMAT-clause-fit
returns-then-opened-eq-RUN_FORMAT-clause-fit g c = at_ok c.over_pages.result (λ p over. fit_over c.in_ok-opened.opened p over c.in_ok-opened.ensures.fit) c.over_pages.ensures.pages

pub returns-then-opened-eq-RUN_FORMAT-clause-aligned : goal.returns-then-opened-eq-RUN_FORMAT-clause-aligned
returns-then-opened-eq-RUN_FORMAT-clause-aligned g c =
    at_ok c.over_pages.result (λ p over. aligned_over c.in_ok-opened.opened p over c.in_ok-opened.ensures.places c.in_ok-opened.ensures.aligned) c.over_pages.ensures.pages

pub returns-then-opened-eq-RUN_FORMAT-clause-leaves : goal.returns-then-opened-eq-RUN_FORMAT-clause-leaves
returns-then-opened-eq-RUN_FORMAT-clause-leaves g c =
    looks_only _ _ _ _ c.open_base.ensures.looks c.in_ok-opened.ensures.cause (λ is. cc (is)) (λ is. absurd (never_fault c.over_pages.result c.over_pages.ensures.why is))

-- ---- it has the first format

pub returns-else-opened-eq-RUN_FORMAT-clause-opened : goal.returns-else-opened-eq-RUN_FORMAT-clause-opened
returns-else-opened-eq-RUN_FORMAT-clause-opened g c =
    at_ok c.open_migrated.result
    (λ p opens image w tells holds.
    opens w
    (in_first image c.in_ok-opened.opened.format w (g.H.Host.view c.open_base.new.host) holds (c.in_ok-opened.ensures.format image tells) c.if-opened-eq-RUN_FORMAT.false
    (record { tells = tells_looks image _ _ c.open_base.ensures.looks tells; only = c.in_ok-opened.ensures.synced (λ is. cc (is)) image tells })))
    c.open_migrated.ensures.opened

pub returns-else-opened-eq-RUN_FORMAT-clause-disk : goal.returns-else-opened-eq-RUN_FORMAT-clause-disk
returns-else-opened-eq-RUN_FORMAT-clause-disk g c =
    at_ok c.open_migrated.result
    (λ p disk image w entries tells holds means.
    subst (λ (es : Entries). DiskHas (PagesMeanIn FORMAT) es (g.H.Host.view c.open_migrated.new.host)) (one_map image holds.held.entries entries holds.held.are means)
    (disk w
    (in_first image c.in_ok-opened.opened.format w (g.H.Host.view c.open_base.new.host) holds (c.in_ok-opened.ensures.format image tells) c.if-opened-eq-RUN_FORMAT.false
    (record { tells = tells_looks image _ _ c.open_base.ensures.looks tells; only = c.in_ok-opened.ensures.synced (λ is. cc (is)) image tells }))))
    c.open_migrated.ensures.disk

pub returns-else-opened-eq-RUN_FORMAT-clause-outside : goal.returns-else-opened-eq-RUN_FORMAT-clause-outside
returns-else-opened-eq-RUN_FORMAT-clause-outside g c = λ image w tells holds.
    c.open_migrated.ensures.outside w
    (in_first image c.in_ok-opened.opened.format w (g.H.Host.view c.open_base.new.host) holds (c.in_ok-opened.ensures.format image tells) c.if-opened-eq-RUN_FORMAT.false
    (record { tells = tells_looks image _ _ c.open_base.ensures.looks tells; only = c.in_ok-opened.ensures.synced (λ is. cc (is)) image tells }))

pub returns-else-opened-eq-RUN_FORMAT-clause-stops : goal.returns-else-opened-eq-RUN_FORMAT-clause-stops
returns-else-opened-eq-RUN_FORMAT-clause-stops g c = λ image text w entries tells holds means said.
    let old = g.H.Host.view c.args.host.now in
    let mid = g.H.Host.view c.open_base.new.host in
    let first = in_first image c.in_ok-opened.opened.format w mid holds (c.in_ok-opened.ensures.format image tells) c.if-opened-eq-RUN_FORMAT.false
    (record { tells = tells_looks image _ _ c.open_base.ensures.looks tells; only = c.in_ok-opened.ensures.synced (λ is. cc (is)) image tells }) in
    let new = g.H.Host.view c.open_migrated.new.host in
    let es = holds.held.entries in
    subst (λ (is : Entries). SyncedRun old new image (IsErrOf c.open_migrated.result DiskFault) (StaysIn w is text)) (one_map image es entries holds.held.are means)
    (synced_on old mid image _ _ (Stays image text) (StaysIn w es text) (stays_held w es image text old mid holds holds.held.are) (c.in_ok-opened.ensures.stops image text tells said) (λ is. cc (is)) new
    (weaker mid new (LeavesRecords es mid) (StaysIn w es text) (first_stays w text mid first (c.open_base.ensures.looks.text ∙ said)) (c.open_migrated.ensures.any_moment w first)))

pub returns-else-opened-eq-RUN_FORMAT-clause-left : goal.returns-else-opened-eq-RUN_FORMAT-clause-left
returns-else-opened-eq-RUN_FORMAT-clause-left g c = λ image text file w entries tells holds means said now.
    let old = g.H.Host.view c.args.host.now in
    let mid = g.H.Host.view c.open_base.new.host in
    let first = in_first image c.in_ok-opened.opened.format w mid holds (c.in_ok-opened.ensures.format image tells) c.if-opened-eq-RUN_FORMAT.false
    (record { tells = tells_looks image _ _ c.open_base.ensures.looks tells; only = c.in_ok-opened.ensures.synced (λ is. cc (is)) image tells }) in
    let new = g.H.Host.view c.open_migrated.new.host in
    let es = holds.held.entries in
    let same = c.open_base.ensures.looks.text ∙ said in
    let stays =
    at_exit (StaysIn w es text) mid new (g.met.H.Host.may_stay c.open_migrated.new.host)
    (weaker mid new (LeavesRecords es mid) (StaysIn w es text) (first_stays w text mid first same) (c.open_migrated.ensures.any_moment w first))
    (λ q o is. stays_held w es image text old mid holds holds.held.are q o (at_end old mid image _ (Stays image text) (c.in_ok-opened.ensures.stops image text tells said) (λ failed. cc (failed)) q o is))
    file text now (c.open_migrated.ensures.leaves.text ∙ same) in
    (stays.0.0, subst (λ (is : Entries). FileMeans file is) (one_map image es entries holds.held.are means) stays.1)

pub returns-else-opened-eq-RUN_FORMAT-clause-rules : goal.returns-else-opened-eq-RUN_FORMAT-clause-rules
returns-else-opened-eq-RUN_FORMAT-clause-rules g c =
    at_ok c.open_migrated.result (λ p opens image tells. breaks_none image c.in_ok-opened.opened (λ found to. c.in_ok-opened.ensures.only image found tells to)) c.open_migrated.ensures.opened

pub returns-else-opened-eq-RUN_FORMAT-clause-answer : goal.returns-else-opened-eq-RUN_FORMAT-clause-answer
returns-else-opened-eq-RUN_FORMAT-clause-answer g c = λ image tells breaks. absurd (breaks_none image c.in_ok-opened.opened (λ found to. c.in_ok-opened.ensures.only image found tells to) breaks)

pub returns-else-opened-eq-RUN_FORMAT-clause-looks : goal.returns-else-opened-eq-RUN_FORMAT-clause-looks
returns-else-opened-eq-RUN_FORMAT-clause-looks g c = λ image tells breaks. absurd (breaks_none image c.in_ok-opened.opened (λ found to. c.in_ok-opened.ensures.only image found tells to) breaks)
