use Rattle.std.proofs.Common.{◌≤◌, ℕ, subst, sym}
use Rattle.std.proofs.lemmas.List.{length-map}
use Rattle.ode_keep.specs.Entries.{Entries}
use Rattle.ode_pagemap.specs.Holding.{room}
use Rattle.ode_pagemap.proofs.laws.held_pages_fit.Goals as goal

pub returns : goal.returns
returns c keeper =
    subst (λ (n : ℕ). n ≤ room keeper) (sym (length-map keeper.cache.pages.entries (λ (e : ℕ × Entries). e.0))) keeper.cache.within
