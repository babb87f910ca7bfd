use Rattle.std.proofs.Common.{List, ap, subst, sym, ◌∙◌}
use Rattle.ode_paging.specs.Images.{Image}
use Rattle.ode_paging.specs.Overlays.{laid}
use Rattle.ode_pagemap.specs.Reserving.{HaveImages}
use Rattle.ode_pagemap.proofs.Reserved.{still_have}
use Rattle.ode_pagemap.proofs.reserving.lay_over.Goals as goal

pub loop-page-preserved : goal.loop-page-preserved
loop-page-preserved c =
    let so_far = c.loop-page.invariant in
    let images = c.loop-page.images in
    let rest = c.next.new.self in
    let have = subst (λ (l : List Image). HaveImages l images) c.in-Some.ensures.steps so_far.have in
    record {
      ahead = ap (λ (l : List Image). laid rest l) c.put_again.ensures ∙ ap (λ (l : List Image). laid l images) (sym c.in-Some.ensures.steps) ∙ so_far.ahead;
      have = still_have rest images c.put_again.new.self c.in-Some.page c.in-Some.used c.put_again.ensures have.1;
    }
