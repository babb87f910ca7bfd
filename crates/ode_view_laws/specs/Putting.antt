-- Lists in the order of their members' numbers.
use Rattle.std.specs.Prelude.{ℕ, List, [], ◌∷◌, cond, nat_lt, ◌==◌}

-- with one more member in its place, or in the place of the one of its number
abbrev pub put : {X : Type 0} → (X → ℕ) → X → List X → List X
put number x [] = x ∷ []
put number x (y ∷ ys) = cond (nat_lt (number y) (number x)) (y ∷ put number x ys) (cond (number y == number x) (x ∷ ys) (x ∷ y ∷ ys))
