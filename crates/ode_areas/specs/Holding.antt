-- What a keeper of two areas holds on a host.
use Rattle.std.specs.Prelude.{◌≡◌, ◌≤◌, ℕ, List, Bool}
use Rattle.ode_gate.specs.Headers.{IsOfAreas}
use Rattle.ode_gate.specs.declared.header.Header.{Header}
use Rattle.ode_gate.specs.declared.places.TheConstants.{AREA_1}
use Rattle.ode_gate.specs.Slots.{Counts}
use Rattle.ode_host.specs.View.{View}
use Rattle.ode_journal.specs.Appends.{JournalStands, need_of, room_of}
use Rattle.ode_keep.specs.Entries.{Changes, Entries, record_bytes}
use Rattle.ode_areas.specs.declared.areas.Areas.{Areas}
use Rattle.ode_areas.specs.Image.{HasMap}
use Rattle.ode_keep.specs.Payloads.{payload_of}
use Rattle.ode_keep.specs.declared.limits.TheConstants.{MAX_RECORD_BYTES}

-- whether the disk never failed it
abbrev pub is_live : Areas → Bool
is_live keeper = keeper.is_live

-- how many bytes its records may have
abbrev pub most : Areas → ℕ
most keeper = MAX_RECORD_BYTES

-- the records that it has in memory
abbrev pub held : Areas → Entries
held keeper = keeper.map

-- and their bytes
abbrev pub held_bytes : Areas → ℕ
held_bytes keeper = record_bytes (held keeper)

-- the header under which its records stand
abbrev pub header_of : Areas → Header
header_of keeper = keeper.header

-- they stand in area 1
abbrev pub IsInOne : Areas → Type 0
IsInOne keeper = keeper.header.body_at ≡ AREA_1

-- the frame of these changes fits behind the journal
abbrev pub FitsJournal : Areas → Changes → Type 0
FitsJournal keeper changes = need_of (payload_of changes) ≤ room_of keeper.journal

-- It holds these records: a file stands on the disk in which its header counts, and that has them under this header. It
-- has them in memory too, and knows where the journal ends.
pub record AreasHold (keeper : Areas) (view : View) (entries : Entries) : Type 0 where
  pub file : List ℕ
  pub counts : Counts file keeper.header
  pub areas : IsOfAreas keeper.header
  pub has : HasMap keeper.header file entries
  pub journal : JournalStands keeper.header.journal_at has.frames file keeper.journal view
  pub end : keeper.journal.end ≡ keeper.header.journal_end
  pub map : keeper.map ≡ entries
