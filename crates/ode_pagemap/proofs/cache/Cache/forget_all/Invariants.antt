use Rattle.std.proofs.Common.{◌≡◌}
use Rattle.ode_pagemap.specs.Cached.{most_of, without}
use Rattle.ode_pagemap.proofs.Forgotten.{AreForgotten}
use Rattle.ode_pagemap.proofs.cache.Cache.forget_all.Given as goal

abbrev pub invariant-loop-page : goal.invariant-loop-page
invariant-loop-page l = record {
  gone : AreForgotten l.images l.page-iterator l.self.pages.entries;
  rest : without l.page-iterator l.self.pages.entries ≡ without l.images l.initial.self.pages.entries;
  most : most_of l.self ≡ most_of l.initial.self;
}
