-- The place of a key among entries in rising order of their keys.
use Rattle.std.specs.Prelude.{◌≡◌, ◌+◌, [], ◌∷◌, length}
use Rattle.std.specs.Ordering.{match_ordering}
use Rattle.ode_value.specs.declared.key.Key.{Key}
use Rattle.ode_value.specs.Keys.{key_cmp}
use Rattle.ode_keep.specs.Entries.{Entries}
use Rattle.ode_pages.specs.declared.layout.TheConstants.{COUNT_LEN}
use Rattle.ode_pages.specs.declared.place.Place.{Place}
use Rattle.ode_pages.specs.Pages.{entries_need}

-- the entries in front of a key
abbrev pub below : Entries → Key → Entries
below [] k = []
below (e ∷ es) k = match_ordering (key_cmp k e.0) [] [] (e ∷ below es k)

-- the entry with the key, if there is one
abbrev pub at_key : Entries → Key → Entries
at_key [] k = []
at_key (e ∷ es) k = match_ordering (key_cmp k e.0) [] (e ∷ []) (at_key es k)

-- the entries behind a key
abbrev pub above : Entries → Key → Entries
above [] k = []
above (e ∷ es) k = match_ordering (key_cmp k e.0) (e ∷ es) es (above es k)

-- the place of the entry with the key in a page: its bytes, and how many entries stand there
pub record IsEntryPlace (entries : Entries) (k : Key) (place : Place) : Type 0 where
  pub start : place.start ≡ COUNT_LEN + entries_need (below entries k)
  pub end : place.end ≡ place.start + entries_need (at_key entries k)
  pub count : place.count ≡ length (at_key entries k)
