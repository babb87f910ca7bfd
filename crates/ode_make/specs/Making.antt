-- A file is made: what it was, and what it has become.
use Rattle.std.specs.Prelude.{◌≡◌, ◌≢◌, ◌<◌, ◌≤◌, ◌⊎◌, ℕ, ◌+◌, max, List, [], ◌∷◌, ◌++◌, length, take, drop, Some, slice_get}
use Rattle.std.specs.Int.{w16, to_be_bytes}
use Rattle.ode_codec.specs.StoredRows.{counters_row}
use Rattle.ode_gate.specs.declared.header.Header.{Header}
use Rattle.ode_gate.specs.declared.gate.TheConstants.{OPEN}
use Rattle.ode_gate.specs.Slots.{HasOpenSlot, Spells, bytes_of}
use Rattle.ode_gate.specs.declared.places.TheConstants.{FORMAT, PAGES, PAGES_AT, REGION_0, REGION_1, SLOT_LEN, SLOT_STEP}
use Rattle.ode_journal.specs.Frames.{framed}
use Rattle.ode_make.specs.declared.make.TheConstants.{FIRST_LEN, MAX_TAKEN_OVER}
use Rattle.ode_paging.specs.Images.{Image, payload_of}
use Rattle.ode_value.specs.Records.{Row, snapshot}
use Rattle.ode_value.specs.Worlds.{empty_bones}

-- the records of a fresh database: its counters alone
abbrev pub first_rows : List Row
first_rows = counters_row empty_bones ∷ []

-- page 0 with these records: their number and their bytes, without the zeros behind them
abbrev pub first_image : Image
first_image = (0, to_be_bytes w16 (length first_rows) ++ snapshot first_rows)

-- the payload of this image alone
abbrev pub first_payload : List ℕ
first_payload = payload_of (first_image ∷ [])

-- an open gate, and the frame with this payload
abbrev pub first_frame : List ℕ
first_frame = OPEN ∷ framed first_payload

-- the header of a file that was just made: no page is in its place
abbrev pub first_header : Header
first_header = record {
  format = FORMAT;
  layout = PAGES;
  generation = 1;
  body_at = PAGES_AT;
  body_len = 0;
  journal_at = REGION_0;
  journal_end = REGION_1;
  slot = 0;
}

-- where a file that was just made ends: behind the frame and a gate
abbrev pub made_end : ℕ
made_end = REGION_0 + FIRST_LEN + 1

-- a gate stands there that isn't open
abbrev pub IsShutAt : List ℕ → ℕ → Type 0
IsShutAt image at = (gate : ℕ) × (slice_get image at ≡ Some gate) × (gate ≢ OPEN)

-- no byte of the first slot, of the second one's gate, or of the frame and the gates at its ends
abbrev pub IsElsewhere : ℕ → Type 0
IsElsewhere i = (SLOT_LEN ≤ i) × (i ≢ SLOT_STEP) × ((i < REGION_0) ⊎ (made_end ≤ i))

-- The file has become an image with this gate and frame under the first header, and every other byte of it is as it was.
pub record IsInitialised (frame file image : List ℕ) : Type 0 where
  pub long : length image ≡ max (length file) made_end
  pub slot : Spells (bytes_of 0 image) first_header
  pub other_slot : IsShutAt image SLOT_STEP
  pub stands : take FIRST_LEN (drop REGION_0 image) ≡ frame
  pub gate : IsShutAt image (REGION_0 + FIRST_LEN)
  pub rest : (i : ℕ) → i < length file → IsElsewhere i → slice_get image i ≡ slice_get file i

-- a file that has no room for a new one: it is long, or a slot is open
abbrev pub IsInUse : List ℕ → Type 0
IsInUse file = (MAX_TAKEN_OVER < length file) ⊎ HasOpenSlot file
