-- What the two slots of an image say of its header.
use Rattle.std.specs.Prelude.{◌≡◌, ◌⊎◌, ℕ, List, if◌then◌else◌, ◌==◌, Result, Ok, Err}
use Rattle.ode_gate.specs.declared.error.GateError.{GateError}
use Rattle.ode_gate.specs.declared.error.GateError.TheVariants.{NoDatabase, BadHeader, NewerFormat}
use Rattle.ode_gate.specs.declared.header.Header.{Header}
use Rattle.ode_gate.specs.declared.slot.Slot.{Slot}
use Rattle.ode_gate.specs.declared.slot.Slot.TheVariants.{Shut, Newer, Broken, Good}
use Rattle.ode_gate.specs.Headers.{next_generation}
use Rattle.ode_gate.specs.Slots.{HoldsHeader, IsShut, IsNewer, IsBroken, HaveOneGeneration, bytes_of, place_of}

-- what stands in the slot of this number, which has these bytes
abbrev pub ReadsAs : ℕ → List ℕ → Slot → Type 0
ReadsAs slot bytes Shut = IsShut bytes
ReadsAs slot bytes (Newer format) = IsNewer bytes format
ReadsAs slot bytes Broken = IsBroken bytes × ((format : ℕ) → IsNewer bytes format → ⊥)
ReadsAs slot bytes (Good h) = (h.slot ≡ slot) × HoldsHeader bytes h

-- of two headers the one that comes after the other
abbrev pub later_of : Header → Header → Result Header GateError
later_of g h =
    if g.generation == h.generation then Err (BadHeader (place_of 0))
    else if g.generation == next_generation h.generation then Ok g else Ok h

-- What two slots say: a newer format first, then a broken slot, then the header that counts.
abbrev pub said_by : Slot → Slot → Result Header GateError
said_by (Newer format) second = Err (NewerFormat format)
said_by first (Newer format) = Err (NewerFormat format)
said_by Broken second = Err (BadHeader (place_of 0))
said_by first Broken = Err (BadHeader (place_of 1))
said_by Shut Shut = Err NoDatabase
said_by (Good h) Shut = Ok h
said_by Shut (Good h) = Ok h
said_by (Good g) (Good h) = later_of g h

-- what an image says
pub record Says (image : List ℕ) (answer : Result Header GateError) : Type 0 where
  pub first : Slot
  pub second : Slot
  pub reads_first : ReadsAs 0 (bytes_of 0 image) first
  pub reads_second : ReadsAs 1 (bytes_of 1 image) second
  pub said : answer ≡ said_by first second

-- neither slot is open
abbrev pub HasNone : List ℕ → Type 0
HasNone image = IsShut (bytes_of 0 image) × IsShut (bytes_of 1 image)

-- no slot has a newer format
abbrev pub NoneNewer : List ℕ → Type 0
NoneNewer image = (format : ℕ) → IsNewer (bytes_of 0 image) format ⊎ IsNewer (bytes_of 1 image) format → ⊥

-- this is the first newer format
abbrev pub IsFirstNewer : List ℕ → ℕ → Type 0
IsFirstNewer image format =
    IsNewer (bytes_of 0 image) format
    ⊎ (((other : ℕ) → IsNewer (bytes_of 0 image) other → ⊥) × IsNewer (bytes_of 1 image) format)

-- the first broken slot stands at this place, or no slot is broken, and both have one generation
abbrev pub IsBadAt : List ℕ → ℕ → Type 0
IsBadAt image at =
    ((at ≡ place_of 0) × IsBroken (bytes_of 0 image))
    ⊎ ((at ≡ place_of 1) × (IsBroken (bytes_of 0 image) → ⊥) × IsBroken (bytes_of 1 image))
    ⊎ ((at ≡ place_of 0) × HaveOneGeneration (bytes_of 0 image) (bytes_of 1 image))
