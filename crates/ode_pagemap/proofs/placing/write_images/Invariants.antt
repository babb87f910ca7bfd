use Rattle.std.proofs.Common.{◌≡◌}
use Rattle.ode_pagemap.proofs.Places.{ArePlacing}
use Rattle.ode_pagemap.proofs.placing.write_images.Given as goal

abbrev pub invariant-loop-page : goal.invariant-loop-page
invariant-loop-page g l = record {
  so_far : ArePlacing l.images l.page-iterator (g.H.Host.view l.initial.host) (g.H.Host.view l.host);
  faults : (g.H.Host.view l.host).disk_faults ≡ (g.H.Host.view l.initial.host).disk_faults;
}
