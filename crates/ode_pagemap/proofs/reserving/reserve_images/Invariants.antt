use Rattle.std.proofs.Common.{◌≡◌, List, reverse}
use Rattle.ode_paging.specs.Images.{Image}
use Rattle.ode_paging.specs.Overlays.{laid}
use Rattle.ode_pagemap.specs.Reserving.{bared}
use Rattle.ode_pagemap.proofs.Reserved.{AreReserved}
use Rattle.ode_pagemap.proofs.reserving.reserve_images.Given as goal

abbrev pub invariant-loop-page : goal.invariant-loop-page
invariant-loop-page l = record {
  room : AreReserved l.over l.page-iterator l.images;
  same : laid l.over l.images ≡ laid l.over l.initial.images;
  back : (old : List Image) → bared (reverse l.initial.added.items) l.initial.images ≡ old → bared (reverse l.added.items) l.images ≡ old;
}
