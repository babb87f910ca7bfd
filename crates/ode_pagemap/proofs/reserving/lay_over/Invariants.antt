use Rattle.std.proofs.Common.{◌≡◌}
use Rattle.ode_paging.specs.Overlays.{laid}
use Rattle.ode_pagemap.specs.Reserving.{HaveImages}
use Rattle.ode_pagemap.proofs.reserving.lay_over.Given as goal

abbrev pub invariant-loop-page : goal.invariant-loop-page
invariant-loop-page l = record {
  ahead : laid l.page-iterator l.images ≡ laid l.fn.over l.initial.images;
  have : HaveImages l.page-iterator l.images;
}
