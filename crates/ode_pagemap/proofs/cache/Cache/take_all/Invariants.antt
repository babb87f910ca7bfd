use Rattle.std.proofs.Common.{◌≡◌, List}
use Rattle.ode_keep.specs.Entries.{Entries}
use Rattle.ode_pagemap.specs.Cached.{AreAmong, most_of}
use Rattle.ode_pagemap.proofs.cache.Cache.take_all.Given as goal

abbrev pub invariant-loop-number : goal.invariant-loop-number
invariant-loop-number l = record {
  among : (all : List Entries) → AreAmong all l.initial.self.pages.entries → AreAmong all l.fn.pages.entries
      → AreAmong all l.self.pages.entries × AreAmong all l.number-iterator;
  most : most_of l.self ≡ most_of l.initial.self;
}
