use Rattle.std.proofs.Common.{[], Option, subst}
use Rattle.std.specs.Option.{IfSome}
use Rattle.ode_host.proofs.Moments.{joined, weaker}
use Rattle.ode_keep.specs.Keeping.{LeavesOldOrNew}
use Rattle.ode_areas.specs.declared.plan.Checkpoint.{Checkpoint}
use Rattle.ode_areas.specs.Image.{AreasMean}
use Rattle.ode_areas.specs.Steps.{MovesOver}
use Rattle.ode_areas.proofs.Fitting.{map_fits}
use Rattle.ode_areas.proofs.Moving.{old_left, text_back}
use Rattle.ode_areas.proofs.OtherArea.{on_ok_both}
use Rattle.ode_areas.proofs.steps.write_changes.Goals as goal

pub returns-in-None-clause-any_moment : goal.returns-in-None-clause-any_moment
returns-in-None-clause-any_moment g c entries changes stand moves is = c.add_frame.ensures.any_moment c.args.header.now entries changes stand is

pub returns-in_err-move_over-in-Some-clause-any_moment : goal.returns-in_err-move_over-in-Some-clause-any_moment
returns-in_err-move_over-in-Some-clause-any_moment g c entries changes stand moves is =
    let old = g.H.Host.view c.args.host.now in
    let mid = g.H.Host.view c.move_over.new.host in
    let m = subst (λ (d : Option Checkpoint). IfSome d (λ x. MovesOver c.args.header.now entries x.header x.bytes.items)) c.in-Some.is moves in
    let first = weaker old mid (LeavesOldOrNew AreasMean entries [] old) (LeavesOldOrNew AreasMean entries changes old) (old_left entries changes old)
    (c.move_over.ensures.any_moment entries [] stand (map_fits c.args.header.now stand.file entries stand.has) m) in
    first

pub returns-in_ok-move_over-in-Some-clause-any_moment : goal.returns-in_ok-move_over-in-Some-clause-any_moment
returns-in_ok-move_over-in-Some-clause-any_moment g c entries changes stand moves is =
    let old = g.H.Host.view c.args.host.now in
    let mid = g.H.Host.view c.move_over.new.host in
    let m = subst (λ (d : Option Checkpoint). IfSome d (λ x. MovesOver c.args.header.now entries x.header x.bytes.items)) c.in-Some.is moves in
    let first = weaker old mid (LeavesOldOrNew AreasMean entries [] old) (LeavesOldOrNew AreasMean entries changes old) (old_left entries changes old)
    (c.move_over.ensures.any_moment entries [] stand (map_fits c.args.header.now stand.file entries stand.has) m) in
    let new = g.H.Host.view c.add_frame-in-Some.new.host in
    let now = c.in_ok-move_over-in-Some.ensures.moved entries [] stand (map_fits c.args.header.now stand.file entries stand.has) m in
    joined old mid new (LeavesOldOrNew AreasMean entries changes old) first
    (weaker mid new (LeavesOldOrNew AreasMean entries changes mid) (LeavesOldOrNew AreasMean entries changes old) (text_back entries changes old mid c.move_over.ensures.leaves.text)
    (c.add_frame-in-Some.ensures.any_moment c.move_over.new.header entries changes now is))

pub returns-in_ok-move_over-in-Some-clause-written : goal.returns-in_ok-move_over-in-Some-clause-written
returns-in_ok-move_over-in-Some-clause-written g c =
    on_ok_both c.add_frame-in-Some.result _ _ _
    (λ added moved entries changes stand moves is.
    let m = subst (λ (d : Option Checkpoint). IfSome d (λ x. MovesOver c.args.header.now entries x.header x.bytes.items)) c.in-Some.is moves in
    added c.move_over.new.header entries changes
    (c.in_ok-move_over-in-Some.ensures.moved entries [] stand (map_fits c.args.header.now stand.file entries stand.has) m) is)
    c.add_frame-in-Some.ensures.added c.add_frame-in-Some.ensures.added
