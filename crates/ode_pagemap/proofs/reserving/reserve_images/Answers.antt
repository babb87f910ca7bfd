use Rattle.std.proofs.Common.{◌∙◌}
use Rattle.ode_paging.specs.Images.{Image}
use Rattle.ode_pagemap.proofs.Reserved.{next_among, one_reserved}
use Rattle.ode_pagemap.proofs.reserving.reserve_images.Goals as goal

pub loop-page-preserved : goal.loop-page-preserved
loop-page-preserved c =
    let so_far = c.loop-page.invariant in
    let over = c.args.over.now in
    let i : Image = (c.in-Some.page.now, c.in-Some._used.now) in
    let after = c.room_for.new.images in
    record {
      room = one_reserved over c.loop-page.page-iterator c.next.new.self i c.loop-page.images so_far.room c.in-Some.ensures.steps after
          (c.in_ok-room_for.ensures.kept so_far.room.done) c.in_ok-room_for.ensures.room;
      same = c.in_ok-room_for.ensures.same over c.iter-page-items.ensures.rising
          (next_among over c.loop-page.page-iterator c.next.new.self i c.loop-page.images so_far.room c.in-Some.ensures.steps) ∙ so_far.same;
      back = λ old before. c.in_ok-room_for.ensures.back old (so_far.back old before);
    }
