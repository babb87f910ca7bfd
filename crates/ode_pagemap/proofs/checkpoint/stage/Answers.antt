use Rattle.std.proofs.lemmas.Result.{on_ok_weaker}
use Rattle.ode_host.specs.Host.{LeavesTorn}
use Rattle.ode_host.proofs.Moments.{joined, weaker}
use Rattle.ode_pagemap.specs.Placing.{LeavesBeside}
use Rattle.ode_pagemap.specs.Steps.{LeavesPages}
use Rattle.ode_pagemap.proofs.Moving.{both_stand, gate_leaves, images_leave}
use Rattle.ode_pagemap.proofs.Short.{short_images}
use Rattle.ode_pagemap.proofs.checkpoint.stage.Goals as goal

pub returns-in_err-place_images-clause-any_moment : goal.returns-in_err-place_images-clause-any_moment
returns-in_err-place_images-clause-any_moment g c older place pages stand next =
    let images = c.args.images.now in
    let old = g.H.Host.view c.args.host.now in
    let mid = g.H.Host.view c.place_images.new.host in
    weaker old mid (LeavesBeside images stand.file old) (LeavesPages older.format pages old) (images_leave older place images pages old stand) (c.place_images.ensures.any_moment stand.file stand.stands)

pub returns-clause-any_moment : goal.returns-clause-any_moment
returns-clause-any_moment g c older place pages stand next =
    let images = c.args.images.now in
    let h = c.args.next.now in
    let old = g.H.Host.view c.args.host.now in
    let mid = g.H.Host.view c.place_images.new.host in
    let new = g.H.Host.view c.write_synced.new.host in
    let first = weaker old mid (LeavesBeside images stand.file old) (LeavesPages older.format pages old) (images_leave older place images pages old stand) (c.place_images.ensures.any_moment stand.file stand.stands) in
    let middle = c.in_ok-place_images.ensures.placed stand.file stand.stands.tells (short_images older stand.file images stand.has.over) in
    joined old mid new (LeavesPages older.format pages old) first
    (weaker mid new (LeavesTorn h.journal_at 1 middle.0 mid) (LeavesPages older.format pages old)
    (gate_leaves older place images pages old stand middle.0 middle.2 h next mid c.place_images.ensures.leaves.text)
    (c.write_synced.ensures.any_moment middle.0 middle.1))

pub returns-clause-staged : goal.returns-clause-staged
returns-clause-staged g c =
    on_ok_weaker c.write_synced.result
    (λ wrote older place pages stand next long.
    let images = c.args.images.now in
    let old = g.H.Host.view c.args.host.now in
    let new = g.H.Host.view c.write_synced.new.host in
    let middle = c.in_ok-place_images.ensures.placed stand.file stand.stands.tells (short_images older stand.file images stand.has.over) in
    both_stand older place images pages old stand middle.0 middle.2 c.args.next.now next new long (wrote middle.0 middle.1.tells))
    c.write_synced.ensures.stands
