-- Texts one behind another.
use Rattle.std.specs.Prelude.{ℕ, List, ◌++◌}
use Rattle.std.specs.List.{flat_map}

-- each text with something before it
abbrev pub behind : List ℕ → List (List ℕ) → List ℕ
behind between texts = flat_map (λ text. between ++ text) texts
