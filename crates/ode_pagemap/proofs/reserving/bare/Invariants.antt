use Rattle.std.proofs.Common.{◌≡◌, reverse, vec_len}
use Rattle.ode_pagemap.specs.Reserving.{bared}
use Rattle.ode_pagemap.proofs.reserving.bare.Given as goal

abbrev pub invariant-loop-page : goal.invariant-loop-page
invariant-loop-page l = bared (reverse l.added.items) l.images ≡ bared (reverse l.initial.added.items) l.initial.images

abbrev pub decreases-loop-page : goal.decreases-loop-page
decreases-loop-page l = vec_len l.added
