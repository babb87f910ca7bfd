-- What tables count more than their records take.
use Rattle.std.specs.Prelude.{ℕ, ◌+◌, ◌-◌, List, ◌∷◌}
use Rattle.ode_value.specs.Lengths.{trigger_length}
use Rattle.ode_value.specs.Tables.{Table}

-- the bytes that the records of stored tables would take more with as many states as these
abbrev pub spare_beside : List ℕ → List Table → ℕ
spare_beside (n ∷ counts) (s ∷ stored) = (trigger_length n s.symbols - trigger_length s.states s.symbols) + spare_beside counts stored
spare_beside _ _ = 0
