-- A snapshot: the bytes of records in rising order of their keys.
use Rattle.std.specs.Prelude.{◌≡◌, ◌<◌, ◌^◌, ℕ, List, [], ◌∷◌, ◌++◌, length}
use Rattle.std.specs.List.{AllByRecursion}
use Rattle.ode_value.specs.declared.key.Key.{Key}
use Rattle.ode_value.specs.Records.{Row, row_bytes, snapshot}
use Rattle.ode_keep.specs.Entries.{Entries, HasRisingKeys}

-- a key whose parts fit their fields
pub record FitsKey (k : Key) : Type 0 where
  pub kind : k.kind < 2 ^ 8
  pub a : k.a < 2 ^ 64
  pub b : k.b < 2 ^ 64

-- a record whose key and whose value's length fit their fields
pub record FitsRow (r : Row) : Type 0 where
  pub key : FitsKey r.0
  pub value : length r.1 < 2 ^ 16

-- records that a snapshot can have
pub record FitsSnapshot (entries : Entries) : Type 0 where
  pub rows : AllByRecursion FitsRow entries
  pub rising : HasRisingKeys entries

-- the bytes are the snapshot of these records
pub record IsSnapshot (entries : Entries) (bytes : List ℕ) : Type 0 where
  pub spelled : bytes ≡ snapshot entries
  pub fits : FitsSnapshot entries

-- Of a snapshot of so many bytes these are the first. They are a snapshot up to this place, where another record is to
-- begin, and what stands there begins none that could follow.
pub record IsBrokenSnapshot (size at : ℕ) (bytes : List ℕ) : Type 0 where
  pub front : Entries
  pub behind : List ℕ
  pub split : bytes ≡ snapshot front ++ behind
  pub fits : FitsSnapshot front
  pub place : at ≡ length (snapshot front)
  pub within : at < size
  pub bad : (r : Row) (rest : List ℕ) → behind ≡ row_bytes r ++ rest → FitsSnapshot (front ++ r ∷ []) → ⊥
