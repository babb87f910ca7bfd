-- Worlds of settled transactions, whose numbers follow one another.
use Rattle.std.specs.Prelude.{◌≡◌, ◌+◌, ℕ, List, [], ◌∷◌}
use Rattle.ode_value.specs.Language.{ListWorld}

-- from this next number on, each world's is one more than that of the world before
abbrev pub CountUp : ℕ → List ListWorld → Type 0
CountUp n [] = Unit {0}
CountUp n (w ∷ ws) = (w.bones.transaction ≡ n + 1) × CountUp w.bones.transaction ws
