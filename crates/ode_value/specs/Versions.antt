-- The versions of an object.
use Rattle.std.specs.Prelude.{ℕ, List, [], ◌∷◌, cond, ◌==◌, Option, Some, None}
use Rattle.ode_value.specs.declared.value.Value.{Value}

-- A version: its number, the version that it was derived from, and a value for each field of the class. Its stamp is how many fields
-- the database had been given when it was made or a field of it was last set.
pub record Version : Type 0 where
  pub number : ℕ
  pub parent : Option ℕ
  pub stamp : ℕ
  pub fields : List Value

-- the version of this number
abbrev pub version_numbered : ℕ → List Version → Option Version
version_numbered number [] = None
version_numbered number (v ∷ vs) = cond (v.number == number) (Some v) (version_numbered number vs)

-- the newest one, which is the last
abbrev pub newest : List Version → Option Version
newest [] = None
newest (v ∷ []) = Some v
newest (v ∷ w ∷ vs) = newest (w ∷ vs)

-- the one of this number, or the newest where none is named
abbrev pub version_of : Option ℕ → List Version → Option Version
version_of None versions = newest versions
version_of (Some number) versions = version_numbered number versions
