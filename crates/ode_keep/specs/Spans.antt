-- Records as two pieces of memory: the keys, each with the length of its value, and the values one behind the other.
use Rattle.std.specs.Prelude.{ℕ, ◌+◌, List, [], ◌∷◌, take, drop}
use Rattle.ode_value.specs.declared.key.Key.{Key}
use Rattle.ode_keep.specs.Entries.{Entries}

-- how many bytes values of these lengths are together
abbrev pub span : List (Key × ℕ) → ℕ
span [] = 0
span (k ∷ ks) = k.1 + span ks

-- the records
abbrev pub spanned : List (Key × ℕ) → List ℕ → Entries
spanned [] bytes = []
spanned (k ∷ ks) bytes = (k.0, take k.1 bytes) ∷ spanned ks (drop k.1 bytes)
