-- A page: the number of its entries, the entries in rising order of their keys, and zeros to its end.
use Rattle.std.specs.Prelude.{◌≡◌, ◌<◌, ◌≤◌, ◌^◌, ℕ, ◌+◌, ◌-◌, List, [], ◌∷◌, ◌++◌, length, replicate, Option, Some, None}
use Rattle.std.specs.Int.{w16, to_be_bytes}
use Rattle.std.specs.List.{AllByRecursion}
use Rattle.ode_value.specs.declared.key.Key.{Key}
use Rattle.ode_value.specs.Records.{snapshot}
use Rattle.ode_keep.specs.Entries.{Entries, HasRisingKeys, value_under}
use Rattle.ode_keep.specs.Snapshots.{FitsRow}
use Rattle.ode_keep.specs.declared.spelling.TheConstants.{ROW_HEAD}
use Rattle.ode_pages.specs.declared.layout.TheConstants.{COUNT_LEN}

-- the bytes of an entry with this value
abbrev pub entry_need : List ℕ → ℕ
entry_need value = ROW_HEAD + length value

-- the bytes of these entries
abbrev pub entries_need : Entries → ℕ
entries_need [] = 0
entries_need (e ∷ es) = entry_need e.1 + entries_need es

-- the bytes of an entry, if there is one
abbrev pub need_of : Option (List ℕ) → ℕ
need_of None = 0
need_of (Some value) = entry_need value

-- the bytes that entries leave free
abbrev pub room_in : ℕ → Entries → ℕ
room_in size entries = size - (COUNT_LEN + entries_need entries)

-- and those that are free to an entry with this key, whose old one gives way
abbrev pub room_under : ℕ → Entries → Key → ℕ
room_under size entries key = room_in size entries + need_of (value_under entries key)

-- what the page of these entries has in it
abbrev pub page_bytes : ℕ → Entries → List ℕ
page_bytes size entries = to_be_bytes w16 (length entries) ++ (snapshot entries ++ replicate (room_in size entries) 0)

-- entries that a page can have
pub record FitsPage (size : ℕ) (entries : Entries) : Type 0 where
  pub few : length entries < 2 ^ 16
  pub rows : AllByRecursion FitsRow entries
  pub rising : HasRisingKeys entries
  pub room : COUNT_LEN + entries_need entries ≤ size

-- the bytes are the page of these entries
pub record IsPage (size : ℕ) (entries : Entries) (bytes : List ℕ) : Type 0 where
  pub spelled : bytes ≡ page_bytes size entries
  pub fits : FitsPage size entries
