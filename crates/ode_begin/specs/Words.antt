-- Words of calls.
use Rattle.std.specs.Prelude.{ℕ, List, [], ◌∷◌, map, Bool, false, not, ◌==◌}
use Rattle.std.specs.String.{string_bytes}
use Rattle.std.specs.declared.string.String.{String}
use Rattle.std.specs.declared.alloc.Global.{Global}

-- a name that isn't empty, and doesn't begin with a dash
abbrev pub is_file : List ℕ → Bool
is_file [] = false
is_file (b ∷ bs) = not (b == 45)

-- the words as bytes
abbrev pub bytes_of : List (String Global) → List (List ℕ)
bytes_of words = map (λ word. string_bytes word) words
