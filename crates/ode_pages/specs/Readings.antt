-- Entries that are read from bytes, one behind the other.
use Rattle.std.specs.Prelude.{◌≡◌, ℕ, zero, suc, List, [], ◌∷◌, ◌++◌, take, drop, slice_index}
use Rattle.std.specs.Int.{w16, w64}
use Rattle.std.specs.List.{AllByRecursion}
use Rattle.ode_host.specs.Fields.{number_at}
use Rattle.ode_value.specs.Keys.{key}
use Rattle.ode_value.specs.Records.{Row, snapshot}
use Rattle.ode_keep.specs.Entries.{Entries}
use Rattle.ode_keep.specs.Snapshots.{FitsRow}
use Rattle.ode_keep.specs.declared.spelling.TheConstants.{KEY_LEN, ROW_HEAD}

-- the entry that bytes begin with
abbrev pub first_entry : List ℕ → Row
first_entry bytes = (key (slice_index bytes 0) (number_at w64 bytes 1) (number_at w64 bytes 9), take (number_at w16 bytes KEY_LEN) (drop ROW_HEAD bytes))

-- the bytes behind it
abbrev pub behind_entry : List ℕ → List ℕ
behind_entry bytes = drop (number_at w16 bytes KEY_LEN) (drop ROW_HEAD bytes)

-- so many entries, one behind the other
unfoldable pub entries_at : ℕ → List ℕ → Entries
entries_at zero bytes = []
entries_at (suc n) bytes = first_entry bytes ∷ entries_at n (behind_entry bytes)

-- the bytes begin with these entries
pub record BeginsWith (entries : Entries) (bytes : List ℕ) : Type 0 where
  pub rest : List ℕ
  pub split : bytes ≡ snapshot entries ++ rest
  pub rows : AllByRecursion FitsRow entries
