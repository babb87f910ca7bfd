-- What a file of either layout stands for, and where it is bad.
use Rattle.std.specs.Prelude.{◌⊎◌, ℕ, List}
use Rattle.ode_areas.specs.Image as of_areas
use Rattle.ode_areas.specs.Image.{AreasMean}
use Rattle.ode_gate.specs.Headers.{IsOfAreas, IsOfPages}
use Rattle.ode_gate.specs.declared.header.Header.{Header}
use Rattle.ode_keep.specs.Entries.{Entries}
use Rattle.ode_paging.specs.Meaning as of_pages
use Rattle.ode_paging.specs.Meaning.{PagesMean}

-- under this header: the records of its two areas, or those of its pages
abbrev pub HasMap : Header → List ℕ → Entries → Type 0
HasMap header file entries = (IsOfAreas header × of_areas.HasMap header file entries) ⊎ (IsOfPages header × of_pages.HasMap header file entries)

-- under this header: the snapshot or the journal is bad at this place
abbrev pub IsBadJournal : Header → List ℕ → ℕ → Type 0
IsBadJournal header file at = (IsOfAreas header × of_areas.IsBadAt header file at) ⊎ (IsOfPages header × of_pages.IsBadJournal header file at)

-- under this header: this is the first page that is bad, behind a journal that is whole
abbrev pub IsBadPage : Header → List ℕ → ℕ → Type 0
IsBadPage header file page = IsOfPages header × of_pages.IsBadPage header file page

-- the image stands for these records, in one layout or the other
abbrev pub FileMeans : List ℕ → Entries → Type 0
FileMeans image entries = AreasMean image entries ⊎ PagesMean image entries
