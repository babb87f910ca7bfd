use Rattle.std.proofs.Common.{[], ap, arith, rules}
use Rattle.ode_host.proofs.Moments.{joined, weaker}
use Rattle.ode_journal.specs.declared.journal.Journal.{Journal}
use Rattle.ode_gate.specs.declared.places.TheConstants.{REGION_0}
use Rattle.ode_migrate.proofs.Staging.{frame_leaves, frame_stands, gate_leaves, gate_stands, gated, gated_counts, gated_has, text_back}
use Rattle.ode_migrate.proofs.moving.stage.Goals as goal

pub unreachable-requires : goal.unreachable-requires
unreachable-requires g c =
    let full = (c.append.ensures.full c.in-Err-AreaFull.field-0-0 c.in-Err-AreaFull.field-0-1).0 (search rules) in
    omega (arith, full.0, full.1, full.2, c.requires.fits)

pub returns-in_err-write_synced-clause-any_moment : goal.returns-in_err-write_synced-clause-any_moment
returns-in_err-write_synced-clause-any_moment g c header entries stand =
    weaker _ _ _ _ (gate_leaves header entries stand.areas stand.in_one stand.file stand.counts stand.has (g.H.Host.view c.args.host.now)) (c.write_synced.ensures.any_moment stand.file stand.stands)

pub returns-in-Ok-clause-staged : goal.returns-in-Ok-clause-staged
returns-in-Ok-clause-staged g c header entries stand =
    let file = stand.file in
    let staged = gated header entries stand.areas stand.in_one file stand.counts stand.has in
    let mid = g.H.Host.view c.write_synced.new.host in
    let here = gate_stands header entries stand.areas stand.in_one file stand.counts stand.has mid (c.in_ok-write_synced.ensures.stands file stand.stands.tells) in
    let done = c.in-Ok.ensures.acknowledged REGION_0 staged [] here in
    frame_stands header entries stand.areas stand.in_one staged (gated_counts header entries stand.areas stand.in_one file stand.counts stand.has)
    (gated_has header entries stand.areas stand.in_one file stand.counts stand.has) c.args.frame.now.payload done.0 c.append.new.self (g.H.Host.view c.append.new.host)
    (ap (λ (j : Journal). j.end) c.in-Ok.ensures.longer) done.1 done.2

pub returns-in-Ok-clause-any_moment : goal.returns-in-Ok-clause-any_moment
returns-in-Ok-clause-any_moment g c header entries stand =
    let file = stand.file in
    let old = g.H.Host.view c.args.host.now in
    let mid = g.H.Host.view c.write_synced.new.host in
    let staged = gated header entries stand.areas stand.in_one file stand.counts stand.has in
    let here = gate_stands header entries stand.areas stand.in_one file stand.counts stand.has mid (c.in_ok-write_synced.ensures.stands file stand.stands.tells) in
    joined _ _ _ _ (weaker _ _ _ _ (gate_leaves header entries stand.areas stand.in_one file stand.counts stand.has old) (c.write_synced.ensures.any_moment file stand.stands))
    (weaker _ _ _ _ (text_back entries old mid c.write_synced.ensures.puts.text)
    (weaker _ _ _ _ (frame_leaves header entries stand.areas stand.in_one staged (gated_counts header entries stand.areas stand.in_one file stand.counts stand.has)
    (gated_has header entries stand.areas stand.in_one file stand.counts stand.has) mid c.args.frame.now.payload) (c.append.ensures.any_moment REGION_0 staged [] here)))

pub returns-in-Err-DiskFault-clause-any_moment : goal.returns-in-Err-DiskFault-clause-any_moment
returns-in-Err-DiskFault-clause-any_moment g c header entries stand =
    let file = stand.file in
    let old = g.H.Host.view c.args.host.now in
    let mid = g.H.Host.view c.write_synced.new.host in
    let staged = gated header entries stand.areas stand.in_one file stand.counts stand.has in
    let here = gate_stands header entries stand.areas stand.in_one file stand.counts stand.has mid (c.in_ok-write_synced.ensures.stands file stand.stands.tells) in
    joined _ _ _ _ (weaker _ _ _ _ (gate_leaves header entries stand.areas stand.in_one file stand.counts stand.has old) (c.write_synced.ensures.any_moment file stand.stands))
    (weaker _ _ _ _ (text_back entries old mid c.write_synced.ensures.puts.text)
    (weaker _ _ _ _ (frame_leaves header entries stand.areas stand.in_one staged (gated_counts header entries stand.areas stand.in_one file stand.counts stand.has)
    (gated_has header entries stand.areas stand.in_one file stand.counts stand.has) mid c.args.frame.now.payload) (c.append.ensures.any_moment REGION_0 staged [] here)))
