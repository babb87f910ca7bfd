-- What the writes of a commit need and leave.
use Rattle.std.specs.Prelude.{◌≡◌, ◌≢◌, ℕ, ◌+◌, ◌*◌, List, [], length, Option, Some, None}
use Rattle.std.specs.List.{slice_get}
use Rattle.ode_gate.specs.declared.header.Header.{Header}
use Rattle.ode_gate.specs.declared.places.TheConstants.{PAGE_LEN}
use Rattle.ode_gate.specs.Changes.{header_change_length}
use Rattle.ode_gate.specs.Headers.{IsHeader, IsOfPages, next_generation}
use Rattle.ode_gate.specs.Slots.{Counts, IsSlot}
use Rattle.ode_host.specs.Host.{Stands}
use Rattle.ode_host.specs.View.{View}
use Rattle.ode_journal.specs.declared.journal.Journal.{Journal}
use Rattle.ode_journal.specs.Appends.{SameOutside}
use Rattle.ode_journal.specs.Frames.{gate_behind}
use Rattle.ode_keep.specs.Entries.{Changes, Entries, applied}
use Rattle.ode_pages.specs.Pages.{IsPage}
use Rattle.ode_paging.specs.Gathering.{HaveNewKeys, gathered}
use Rattle.ode_paging.specs.Images.{Image, IsPayload}
use Rattle.ode_paging.specs.Meaning.{HasImages, PagesMeanIn}
use Rattle.ode_paging.specs.Overlays.{laid}
use Rattle.ode_paging.specs.Standing.{HavePages, filled, image_of, page_count}
use Rattle.ode_pagemap.specs.declared.checkpoint.Checkpoint.{Checkpoint}

-- a header that may follow another: of its format, of the other region, and in the other slot
pub record IsNext (older h : Header) : Type 0 where
  pub format : h.format ≡ older.format
  pub rules : IsHeader h
  pub pages : IsOfPages h
  pub other : h.journal_at ≢ older.journal_at
  pub slot : IsSlot h.slot
  pub beside : h.slot ≢ older.slot
  pub next : h.generation ≡ next_generation older.generation

-- Under this header the file has these pages, no two with a key in common. The images are those of its journal, whose last
-- gate stands at this place.
pub record StandIn (header : Header) (place : Journal) (images : List Image) (pages : List Entries) (file : List ℕ) : Type 0 where
  pub form : IsOfPages header
  pub over : HasImages header file images
  pub gate : place ≡ record { at = gate_behind header.journal_at over.frames; end = header.journal_end }
  pub count : length pages ≡ page_count header.body_len images
  pub each : HavePages header images file 0 pages
  pub apart : HaveNewKeys [] pages

-- a file stands on the disk in which this header counts, and under it the file has these pages
pub record StandUnder (header : Header) (place : Journal) (images : List Image) (pages : List Entries) (view : View) : Type 0 where
  pub file : List ℕ
  pub stands : Stands file view
  pub counts : Counts file header
  pub has : StandIn header place images pages file

-- a file stands on the disk that is the same as this one outside the region of the journal
pub record ChangesRegion (header : Header) (place : Journal) (file : List ℕ) (view : View) : Type 0 where
  pub next : List ℕ
  pub stands : Stands next view
  pub outside : SameOutside header.journal_at place.end file next

-- the image has this format and stands for the entries of these pages, and the text is as it was
pub record LeavesPages (format : ℕ) (pages : List Entries) (old : View) (image out : List ℕ) : Type 0 where
  pub means : PagesMeanIn format image (gathered [] pages)
  pub text : old.text ≡ Some out

-- the journal of a header, where it is empty
abbrev pub empty_under : Header → Journal
empty_under h = record { at = h.journal_at; end = h.journal_end }

-- the file has these pages under the next header too, in their places alone
pub record BothStand (older : Header) (place : Journal) (images : List Image) (h : Header) (pages : List Entries) (view : View) : Type 0 where
  pub stand : StandUnder older place images pages view
  pub next : StandIn h (empty_under h) [] pages stand.file

-- the checkpoint writes these images, and counts these pages
pub record IsOf (images : List Image) (pages : List Entries) (checkpoint : Checkpoint) : Type 0 where
  pub images_are : checkpoint.images ≡ images
  pub count : checkpoint.count ≡ length pages

-- the bytes of a checkpoint: each image as a whole page, a gate, and the change of the header
abbrev pub checkpoint_length : List Image → ℕ
checkpoint_length images = PAGE_LEN * length images + 1 + header_change_length

-- with these images the pages are the new ones, no two with a key in common
pub record AreRenewed (over : List Image) (old new : List Entries) : Type 0 where
  pub count : length new ≡ page_count (length old) over
  pub others : (page : ℕ) → image_of over page ≡ None → slice_get new page ≡ slice_get old page
  pub each : (page : ℕ) (used : List ℕ) → image_of over page ≡ Some used → (entries : Entries) × (slice_get new page ≡ Some entries) × IsPage PAGE_LEN entries (filled used)
  pub apart : HaveNewKeys [] new

-- the payload spells these images, with which the pages are the new ones: their entries are the old ones after the changes
pub record Makes (changes : Changes) (over : List Image) (payload : List ℕ) (old new : List Entries) : Type 0 where
  pub payload_is : IsPayload over payload
  pub renewed : AreRenewed over old new
  pub map : applied changes (gathered [] old) ≡ gathered [] new

-- what a checkpoint before a frame writes, if one is due
abbrev pub bytes_before : Option Checkpoint → ℕ
bytes_before None = 0
bytes_before (Some c) = checkpoint_length c.images

-- the images of the journal behind a frame of these: laid over the others, or alone where a checkpoint was due
abbrev pub images_after : Option Checkpoint → List Image → List Image → List Image
images_after None over images = laid over images
images_after (Some c) over images = over
