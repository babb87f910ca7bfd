-- What a run settles.
use Rattle.std.specs.Prelude.{List, [], ◌∷◌}
use Rattle.ode_machine.specs.Runs.{Item, Refuses, Settles}
use Rattle.ode_value.specs.Language.{Settlings}

-- the settled transactions of items
abbrev pub settled_of : List Item → Settlings
settled_of [] = []
settled_of (Refuses line ∷ items) = settled_of items
settled_of (Settles world text ∷ items) = (world, text) ∷ settled_of items
