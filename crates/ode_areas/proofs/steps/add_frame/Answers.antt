use Rattle.std.proofs.Common.{ap, arith, rules}
use Rattle.ode_host.proofs.Moments.{weaker}
use Rattle.ode_journal.specs.declared.journal.Journal.{Journal}
use Rattle.ode_areas.proofs.Moving.{frame_added, frame_leaves}
use Rattle.ode_areas.proofs.steps.add_frame.Goals as goal

pub unreachable-requires : goal.unreachable-requires
unreachable-requires g c =
    let full = (c.append.ensures.full c.in-Err-AreaFull.field-0-0 c.in-Err-AreaFull.field-0-1).0 (search rules) in
    omega (arith, full.0, full.1, full.2, c.requires.room)

pub returns-in-Ok-clause-added : goal.returns-in-Ok-clause-added
returns-in-Ok-clause-added g c header entries changes stand is =
    let place = c.args.journal.now in
    let done = c.in-Ok.ensures.acknowledged header.journal_at stand.file stand.has.frames stand.journal in
    frame_added header place entries changes c.args.frame.now.payload (g.H.Host.view c.args.host.now) stand is c.append.new.self (g.H.Host.view c.append.new.host)
    done.0 (ap (λ (j : Journal). j.end) c.in-Ok.ensures.longer) done.1 done.2

pub returns-in-Ok-clause-any_moment : goal.returns-in-Ok-clause-any_moment
returns-in-Ok-clause-any_moment g c header entries changes stand is =
    weaker _ _ _ _ (frame_leaves header c.args.journal.now entries changes c.args.frame.now.payload (g.H.Host.view c.args.host.now) stand is)
    (c.append.ensures.any_moment header.journal_at stand.file stand.has.frames stand.journal)

pub returns-in-Err-DiskFault-clause-any_moment : goal.returns-in-Err-DiskFault-clause-any_moment
returns-in-Err-DiskFault-clause-any_moment g c header entries changes stand is =
    weaker _ _ _ _ (frame_leaves header c.args.journal.now entries changes c.args.frame.now.payload (g.H.Host.view c.args.host.now) stand is)
    (c.append.ensures.any_moment header.journal_at stand.file stand.has.frames stand.journal)
