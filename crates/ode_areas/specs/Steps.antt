-- What the writes of a commit need and leave.
use Rattle.std.specs.Prelude.{◌≡◌, ◌≢◌, ◌+◌, ◌<◌, ◌≤◌, ◌⊎◌, ℕ, List, [], ◌∷◌, ◌++◌, length, Option, Some, None}
use Rattle.ode_gate.specs.declared.header.Header.{Header}
use Rattle.ode_gate.specs.Changes.{header_change_length}
use Rattle.ode_gate.specs.Headers.{IsHeader, IsOfAreas, next_generation}
use Rattle.ode_gate.specs.Slots.{Counts, IsSlot}
use Rattle.ode_gate.specs.declared.gate.TheConstants.{SHUT}
use Rattle.ode_gate.specs.declared.places.TheConstants.{AREA_LEN}
use Rattle.ode_host.specs.View.{View}
use Rattle.ode_journal.specs.declared.journal.Journal.{Journal}
use Rattle.ode_journal.specs.Appends.{JournalStands, room_of}
use Rattle.ode_keep.specs.Entries.{Entries}
use Rattle.ode_value.specs.Records.{snapshot}
use Rattle.ode_areas.specs.declared.plan.Checkpoint.{Checkpoint}
use Rattle.ode_areas.specs.Image.{AreasMean, HasMap}

-- on the disk these records stand, under this header and up to this place of its journal
pub record StandUnder (header : Header) (place : Journal) (entries : Entries) (view : View) : Type 0 where
  pub file : List ℕ
  pub counts : Counts file header
  pub areas : IsOfAreas header
  pub has : HasMap header file entries
  pub journal : JournalStands header.journal_at has.frames file place view
  pub end : place.end ≡ header.journal_end

-- the image stands for these records, and the text is as it was
pub record LeavesMap (entries : Entries) (old : View) (image out : List ℕ) : Type 0 where
  pub means : AreasMean image entries
  pub text : old.text ≡ Some out

-- a header that may follow another: of the other area, and in the other slot
pub record IsNext (older h : Header) : Type 0 where
  pub rules : IsHeader h
  pub areas : IsOfAreas h
  pub other : h.body_at ≢ older.body_at
  pub slot : IsSlot h.slot
  pub beside : h.slot ≢ older.slot
  pub next : h.generation ≡ next_generation older.generation

-- a header that may follow, and what is written under it: a snapshot of these records and a shut gate
pub record MovesOver (older : Header) (entries : Entries) (h : Header) (bytes : List ℕ) : Type 0 where
  pub follows : IsNext older h
  pub long : h.body_len ≡ length (snapshot entries)
  pub spelled : bytes ≡ snapshot entries ++ SHUT ∷ []

-- the journal of a header, where it is empty
abbrev pub empty_under : Header → Journal
empty_under h = record { at = h.journal_at; end = h.journal_end }

-- what is written before a frame: nothing, or a snapshot with a shut gate, and the change of the header
abbrev pub bytes_before : Option Checkpoint → ℕ
bytes_before None = 0
bytes_before (Some c) = length c.bytes.items + header_change_length

-- a checkpoint of these records
abbrev pub checkpoint_length : Entries → ℕ
checkpoint_length entries = length (snapshot entries) + 1 + header_change_length

-- a frame that takes so many bytes fits its journal, or an area behind a snapshot of these records
abbrev pub HasPlace : Journal → Entries → ℕ → Type 0
HasPlace place entries need = (need ≤ room_of place) ⊎ (length (snapshot entries) + need ≤ AREA_LEN)

-- and it fits neither
abbrev pub HasNoPlace : Journal → Entries → ℕ → Type 0
HasNoPlace place entries need = (room_of place < need) × (AREA_LEN < length (snapshot entries) + need)
