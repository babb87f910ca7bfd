-- Lines of ancestors by one step.
use Rattle.std.specs.Prelude.{ℕ, List, [], ◌∷◌, Option, Some, None}
use Rattle.std.specs.Borrow.{Bor}
use Rattle.std.specs.Option.{option_copied, option_map_or, unwrap_or}
use Rattle.ode_value.specs.declared.class.Class.{Class}

-- the class that may be there, alone
abbrev pub alone : Option Class → List Class
alone None = []
alone (Some c) = c ∷ []

-- a list that begins with what may be there, or is empty
abbrev pub headed : Option Class → List Class → List Class
headed None rest = []
headed (Some c) rest = c ∷ rest

-- the number of the parent of what may be there; no class has number 0
abbrev pub parent_in : Option (Bor Class) → ℕ
parent_in c = option_map_or (λ (d : Class). unwrap_or d.parent 0) (option_copied c) 0
