-- The map of a file of pages: what its header, its journal and its pages make together.
use Rattle.std.specs.Prelude.{◌≡◌, ◌<◌, ℕ, List, [], length}
use Rattle.ode_gate.specs.declared.header.Header.{Header}
use Rattle.ode_gate.specs.Headers.{IsOfPages}
use Rattle.ode_gate.specs.Slots.{Counts}
use Rattle.ode_journal.specs.Frames.{IsJournal}
use Rattle.ode_journal.specs.Histories.{ArePayloads, IsBadFrom, in_turn}
use Rattle.ode_keep.specs.Entries.{Entries}
use Rattle.ode_paging.specs.Gathering.{AreApart, HaveNewKeys, gathered}
use Rattle.ode_paging.specs.Images.{Image, IsPayload}
use Rattle.ode_paging.specs.Overlays.{laid}
use Rattle.ode_paging.specs.Standing.{HasPage, HavePages, page_count}

-- under this header: the images of the journal
pub record HasImages (header : Header) (file : List ℕ) (images : List Image) : Type 0 where
  pub frames : List (List ℕ)
  pub journal : IsJournal header.journal_at header.journal_end frames file
  pub overlays : List (List Image)
  pub payloads : ArePayloads IsPayload overlays frames
  pub laid : images ≡ in_turn laid overlays []

-- under this header: the entries of all pages, of which no two have a key in common
pub record HasMap (header : Header) (file : List ℕ) (entries : Entries) : Type 0 where
  pub images : List Image
  pub over : HasImages header file images
  pub pages : List Entries
  pub count : length pages ≡ page_count header.body_len images
  pub each : HavePages header images file 0 pages
  pub apart : HaveNewKeys [] pages
  pub map : entries ≡ gathered [] pages

-- the journal is bad at this place
abbrev pub IsBadJournal : Header → List ℕ → ℕ → Type 0
IsBadJournal header file at = IsBadFrom IsPayload header.journal_at header.journal_end at file

-- The journal is whole, and so are the pages before this one. It has no entries with keys of its own.
pub record IsBadPage (header : Header) (file : List ℕ) (page : ℕ) : Type 0 where
  pub images : List Image
  pub over : HasImages header file images
  pub front : List Entries
  pub place : page ≡ length front
  pub within : page < page_count header.body_len images
  pub each : HavePages header images file 0 front
  pub apart : HaveNewKeys [] front
  pub bad : (entries : Entries) → HasPage header images file page entries → AreApart entries (gathered [] front) → ⊥

-- the image stands for these records
pub record PagesMean (image : List ℕ) (entries : Entries) : Type 0 where
  pub header : Header
  pub counts : Counts image header
  pub pages : IsOfPages header
  pub has : HasMap header image entries

-- and it has this format
pub record PagesMeanIn (format : ℕ) (image : List ℕ) (entries : Entries) : Type 0 where
  pub means : PagesMean image entries
  pub is : means.header.format ≡ format
