-- Header slots, and the header that counts.
use Rattle.std.specs.Prelude.{◌≡◌, ◌<◌, ◌≤◌, ◌⊎◌, ℕ, ◌+◌, ◌-◌, ◌*◌, List, [], ◌∷◌, length, take, drop, Option, Some, None, IsSome, if◌then◌else◌, ◌==◌}
use Rattle.std.specs.Int.{w32, byte_len}
use Rattle.ode_host.specs.Fields.{number_at}
use Rattle.ode_gate.specs.declared.header.Header.{Header}
use Rattle.ode_gate.specs.declared.places.TheConstants.{FORMAT, FORMAT_AT, SLOT_LEN, SLOT_STEP}
use Rattle.ode_gate.specs.Headers.{IsHeader, header_bytes, next_generation}
use Rattle.ode_gate.specs.declared.gate.TheConstants.{OPEN}

-- there are two slots, 0 and 1
abbrev pub IsSlot : ℕ → Type 0
IsSlot slot = slot ≤ 1

-- slot 0 stands at 0, and slot 1 a step behind it
abbrev pub place_of : ℕ → ℕ
place_of slot = SLOT_STEP * slot

-- 1 beside 0, and 0 beside 1
abbrev pub other_slot : ℕ → ℕ
other_slot slot = 1 - slot

-- a slot is a gate and a header, as far as the file reaches
abbrev pub slot_at : ℕ → List ℕ → List ℕ
slot_at place image = take SLOT_LEN (drop place image)

abbrev pub bytes_of : ℕ → List ℕ → List ℕ
bytes_of slot image = slot_at (place_of slot) image

-- what stands behind the gate, where that is open
abbrev pub open_body : List ℕ → Option (List ℕ)
open_body [] = None
open_body (gate ∷ body) = if gate == OPEN then Some body else None

abbrev pub IsOpen : List ℕ → Type 0
IsOpen bytes = IsSome (open_body bytes)

abbrev pub IsShut : List ℕ → Type 0
IsShut bytes = open_body bytes ≡ None

-- a slot is open, whatever it spells
abbrev pub HasOpenSlot : List ℕ → Type 0
HasOpenSlot image = IsOpen (bytes_of 0 image) ⊎ IsOpen (bytes_of 1 image)

-- a slot is open and spells this header
abbrev pub Spells : List ℕ → Header → Type 0
Spells bytes h = open_body bytes ≡ Some (header_bytes h)

-- a slot is open and spells this header, which keeps the rules
pub record HoldsHeader (bytes : List ℕ) (h : Header) : Type 0 where
  pub spells : Spells bytes h
  pub rules : IsHeader h

-- an open slot has a format above the last known one, whatever else it has
pub record IsNewer (bytes : List ℕ) (format : ℕ) : Type 0 where
  pub opened : IsOpen bytes
  pub there : FORMAT_AT + byte_len w32 ≤ length bytes
  pub says : format ≡ number_at w32 bytes FORMAT_AT
  pub above : FORMAT < format

-- an open slot holds no header: it is cut by the file's end, or a rule is broken
pub record IsBroken (bytes : List ℕ) : Type 0 where
  pub opened : IsOpen bytes
  pub holds_none : (h : Header) → HoldsHeader bytes h → ⊥

-- The first of two slots holds this header, and the other leaves the count to it: that one is shut, or this header comes
-- after the one that it holds.
pub record Leads (own other : List ℕ) (h : Header) : Type 0 where
  pub holds : HoldsHeader own h
  pub over : IsShut other ⊎ ((older : Header) × HoldsHeader other older × (h.generation ≡ next_generation older.generation))

-- the header that counts, with its slot
pub record Counts (image : List ℕ) (h : Header) : Type 0 where
  pub slot : IsSlot h.slot
  pub leads : Leads (bytes_of h.slot image) (bytes_of (other_slot h.slot) image) h

-- both slots are open with headers of one generation
pub record HaveOneGeneration (first second : List ℕ) : Type 0 where
  pub h : Header
  pub older : Header
  pub first_holds : HoldsHeader first h
  pub second_holds : HoldsHeader second older
  pub same : h.generation ≡ older.generation
