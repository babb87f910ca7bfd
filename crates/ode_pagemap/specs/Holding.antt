-- What a keeper of pages holds on a host.
use Rattle.std.specs.Prelude.{◌≡◌, ℕ, List, Bool}
use Rattle.std.specs.List.{AllByRecursion}
use Rattle.std.specs.Map.{keys_of}
use Rattle.ode_gate.specs.declared.places.TheConstants.{FORMAT}
use Rattle.ode_gate.specs.Headers.{IsOfPages}
use Rattle.ode_gate.specs.Slots.{Counts}
use Rattle.ode_host.specs.View.{View}
use Rattle.ode_journal.specs.Appends.{JournalStands}
use Rattle.ode_keep.specs.Entries.{Entries}
use Rattle.ode_keep.specs.declared.limits.TheConstants.{MAX_PAGED_BYTES}
use Rattle.ode_paging.specs.Indexing.{Leads}
use Rattle.ode_paging.specs.Opening.{OpensAs}
use Rattle.ode_paging.specs.Standing.{HasPage}
use Rattle.ode_pagemap.specs.declared.map.PageMap.{PageMap}
use Rattle.ode_pagemap.specs.Cached.{most_of}

-- whether the disk never failed it
abbrev pub is_live : PageMap → Bool
is_live keeper = keeper.is_live

-- in which page each key stands
abbrev pub index : PageMap → Leads
index keeper = keeper.opened.index

-- the numbers of the pages that it has in memory, the most recently used first
abbrev pub held : PageMap → List ℕ
held keeper = keys_of keeper.cache.pages.entries

-- the bytes of the keys and values of its records
abbrev pub bytes : PageMap → ℕ
bytes keeper = keeper.opened.bytes

-- the format of its file
abbrev pub format_of : PageMap → ℕ
format_of keeper = keeper.header.format

-- how many bytes its records may have
abbrev pub most : PageMap → ℕ
most keeper = MAX_PAGED_BYTES

-- how many pages it has room for in memory
abbrev pub room : PageMap → ℕ
room keeper = most_of keeper.cache

-- It holds these records: a file stands on the disk in which its header counts, and that has them under this header. It
-- knows the images of the journal and where this ends, and in which page each key stands. The pages that it has in memory
-- are those of the file.
pub record PagesHold (keeper : PageMap) (view : View) (entries : Entries) : Type 0 where
  pub file : List ℕ
  pub counts : Counts file keeper.header
  pub pages : IsOfPages keeper.header
  pub opens : OpensAs keeper.header file keeper.opened entries
  pub journal : JournalStands keeper.header.journal_at opens.has.over.frames file keeper.opened.journal view
  pub cached : AllByRecursion (λ e. HasPage keeper.header keeper.opened.images file e.0 e.1) keeper.cache.pages.entries

-- and the file has the last format
pub record LastHold (keeper : PageMap) (view : View) (entries : Entries) : Type 0 where
  pub hold : PagesHold keeper view entries
  pub last : format_of keeper ≡ FORMAT
