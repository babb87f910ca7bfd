use Rattle.std.proofs.Common.{[], arith}
use Rattle.ode_host.proofs.Moments.{weaker}
use Rattle.ode_keep.specs.Keeping.{LeavesOldOrNew}
use Rattle.ode_areas.specs.Image.{AreasMean}
use Rattle.ode_areas.specs.Steps.{LeavesMap}
use Rattle.ode_areas.proofs.Committing.{holds_of, under_of}
use Rattle.ode_areas.proofs.Encoding.{snapshot_fits}
use Rattle.ode_areas.proofs.Fitting.{map_fits}
use Rattle.ode_areas.proofs.Moving.{same_left}
use Rattle.ode_areas.proofs.OtherArea.{moves, moves_length}
use Rattle.ode_areas.proofs.areas.Areas.move_to_other.Goals as goal

pub checkpoint_of-requires : goal.checkpoint_of-requires
checkpoint_of-requires g c = omega (arith, c.snapshot_length-length.ensures, snapshot_fits c.args.self.now.map c.requires.within)

pub returns-in-Ok-clause-moved : goal.returns-in-Ok-clause-moved
returns-in-Ok-clause-moved g c entries h =
    let keeper = c.args.self.now in
    let view = g.H.Host.view c.args.host.now in
    let made = c.in_ok-checkpoint.ensures in
    let over = moves keeper view entries h c.requires.within c.in_ok-checkpoint.checkpoint c.snapshot_length-length.result c.snapshot_length-length.ensures made.follows made.long made.spelled in
    holds_of _ _ _ (c.in-Ok.ensures.moved entries [] (under_of keeper view entries h) (map_fits keeper.header h.file entries h.has) over) h.map

pub returns-in-Ok-clause-any_moment : goal.returns-in-Ok-clause-any_moment
returns-in-Ok-clause-any_moment g c entries h =
    let keeper = c.args.self.now in
    let view = g.H.Host.view c.args.host.now in
    let made = c.in_ok-checkpoint.ensures in
    let over = moves keeper view entries h c.requires.within c.in_ok-checkpoint.checkpoint c.snapshot_length-length.result c.snapshot_length-length.ensures made.follows made.long made.spelled in
    weaker view (g.H.Host.view c.move_over.new.host) (LeavesOldOrNew AreasMean entries [] view) (LeavesMap entries view) (same_left entries view)
    (c.move_over.ensures.any_moment entries [] (under_of keeper view entries h) (map_fits keeper.header h.file entries h.has) over)

pub returns-clause-any_moment : goal.returns-clause-any_moment
returns-clause-any_moment g c entries h =
    let keeper = c.args.self.now in
    let view = g.H.Host.view c.args.host.now in
    let made = c.in_ok-checkpoint.ensures in
    let over = moves keeper view entries h c.requires.within c.in_ok-checkpoint.checkpoint c.snapshot_length-length.result c.snapshot_length-length.ensures made.follows made.long made.spelled in
    weaker view (g.H.Host.view c.move_over.new.host) (LeavesOldOrNew AreasMean entries [] view) (LeavesMap entries view) (same_left entries view)
    (c.move_over.ensures.any_moment entries [] (under_of keeper view entries h) (map_fits keeper.header h.file entries h.has) over)

pub returns-in-Ok-clause-most : goal.returns-in-Ok-clause-most
returns-in-Ok-clause-most g c entries h told =
    let keeper = c.args.self.now in
    let view = g.H.Host.view c.args.host.now in
    let made = c.in_ok-checkpoint.ensures in
    let long = moves_length keeper view entries h c.requires.within c.in_ok-checkpoint.checkpoint c.snapshot_length-length.result c.snapshot_length-length.ensures made.follows made.long made.spelled in
    omega (arith, c.in-Ok.ensures.most told, long)
