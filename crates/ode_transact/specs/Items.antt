-- The items and the texts of settled transactions.
use Rattle.std.specs.Prelude.{ℕ, List, map}
use Rattle.std.specs.List.{flat_map}
use Rattle.ode_machine.specs.Runs.{Item, item_of}
use Rattle.ode_value.specs.Language.{Settlings}

-- their texts, one behind the other
abbrev pub texts_of : Settlings → List ℕ
texts_of settled = flat_map (λ s. s.1) settled

-- their items
abbrev pub items_of : Settlings → List Item
items_of settled = map item_of settled
