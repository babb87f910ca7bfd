-- The changes of a batch, as contracts see them.
use Rattle.std.specs.Prelude.{List, [], ◌∷◌}
use Rattle.ode_keep.specs.Entries.{Changes}
use Rattle.ode_keep.specs.declared.batch.Change.{Change}

abbrev pub changes_of : List Change → Changes
changes_of [] = []
changes_of (c ∷ cs) = (c.key, c.value) ∷ changes_of cs
