-- What a step of a cursor gives.
use Rattle.std.specs.Prelude.{List, [], ◌∷◌, Option, Some, None}

-- a list that begins with what may be there, or is empty
abbrev pub headed : {X : Type 0} → Option X → List X → List X
headed None rest = []
headed (Some x) rest = x ∷ rest
