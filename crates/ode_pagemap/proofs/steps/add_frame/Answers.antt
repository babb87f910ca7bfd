use Rattle.std.proofs.Common.{ap, arith, rules}
use Rattle.ode_host.proofs.Moments.{weaker}
use Rattle.ode_journal.specs.declared.journal.Journal.{Journal}
use Rattle.ode_pagemap.proofs.Framing.{frame_added, frame_leaves, journal_stands}
use Rattle.ode_pagemap.proofs.steps.add_frame.Goals as goal

pub unreachable-requires : goal.unreachable-requires
unreachable-requires g c =
    let full = (c.append.ensures.full c.in-Err-AreaFull.field-0-0 c.in-Err-AreaFull.field-0-1).0 (search rules) in
    omega (arith, full.0, full.1, full.2, c.requires.room)

pub returns-in-Ok-clause-added : goal.returns-in-Ok-clause-added
returns-in-Ok-clause-added g c header images over pages later changes stand makes =
    let place = c.args.journal.now in
    let old = g.H.Host.view c.args.host.now in
    let done = c.in-Ok.ensures.acknowledged header.journal_at stand.file stand.has.over.frames (journal_stands header place images pages old stand) in
    frame_added header place images pages old stand changes over c.args.frame.now.payload later makes c.append.new.self (g.H.Host.view c.append.new.host)
    done.0 (ap (λ (j : Journal). j.end) c.in-Ok.ensures.longer) done.1 done.2

pub returns-in-Ok-clause-region : goal.returns-in-Ok-clause-region
returns-in-Ok-clause-region g c header images pages stand =
    let done = c.in-Ok.ensures.acknowledged header.journal_at stand.file stand.has.over.frames (journal_stands header c.args.journal.now images pages (g.H.Host.view c.args.host.now) stand) in
    record { next = done.0; stands = done.1.stands; outside = done.2 }

pub returns-in-Ok-clause-any_moment : goal.returns-in-Ok-clause-any_moment
returns-in-Ok-clause-any_moment g c header images over pages later changes stand makes =
    let place = c.args.journal.now in
    let old = g.H.Host.view c.args.host.now in
    weaker _ _ _ _ (frame_leaves header place images pages old stand changes over c.args.frame.now.payload later makes)
    (c.append.ensures.any_moment header.journal_at stand.file stand.has.over.frames (journal_stands header place images pages old stand))

pub returns-in-Err-DiskFault-clause-any_moment : goal.returns-in-Err-DiskFault-clause-any_moment
returns-in-Err-DiskFault-clause-any_moment g c header images over pages later changes stand makes =
    let place = c.args.journal.now in
    let old = g.H.Host.view c.args.host.now in
    weaker _ _ _ _ (frame_leaves header place images pages old stand changes over c.args.frame.now.payload later makes)
    (c.append.ensures.any_moment header.journal_at stand.file stand.has.over.frames (journal_stands header place images pages old stand))
