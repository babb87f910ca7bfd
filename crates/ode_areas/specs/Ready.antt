-- What a commit has at hand before its first write.
use Rattle.std.specs.Prelude.{◌≡◌, ◌<◌, ◌≤◌, MatchOption, Option, length}
use Rattle.std.specs.List.{AllByRecursion}
use Rattle.std.specs.Option.{IfSome}
use Rattle.ode_gate.specs.declared.header.Header.{Header}
use Rattle.ode_gate.specs.declared.places.TheConstants.{AREA_LEN}
use Rattle.ode_gate.specs.Slots.{IsSlot}
use Rattle.ode_journal.specs.declared.journal.Journal.{Journal}
use Rattle.ode_journal.specs.Appends.{need_of, room_of}
use Rattle.ode_journal.specs.Filling.{Filling}
use Rattle.ode_keep.specs.Entries.{Changes, Entries, applied}
use Rattle.ode_areas.specs.declared.plan.Checkpoint.{Checkpoint}
use Rattle.ode_areas.specs.declared.plan.Ready.{Ready}
use Rattle.ode_areas.specs.declared.plan.Ready.TheVariants.{Framed, Moved}
use Rattle.ode_keep.specs.Payloads.{FitsChange, IsPayload, payload_of}
use Rattle.ode_value.specs.Records.{snapshot}
use Rattle.ode_areas.specs.Steps.{HasNoPlace, MovesOver, empty_under}

-- a full frame of the changes, and a checkpoint where the frame does not fit its journal, so that it does then
pub record IsFramed (changes : Changes) (header : Header) (place : Journal) (entries : Entries) (frame : Filling) (due : Option Checkpoint) : Type 0 where
  pub payload : IsPayload changes frame.payload
  pub full : frame.spare ≡ 0
  pub slot : IfSome due (λ c. IsSlot c.header.slot)
  pub room : MatchOption due (need_of frame.payload ≤ room_of place) (λ c. need_of frame.payload ≤ room_of (empty_under c.header))
  pub needed : IfSome due (λ c. room_of place < need_of frame.payload)
  pub moves : IfSome due (λ c. MovesOver header entries c.header c.bytes.items)

-- a checkpoint of the records behind the changes, whose frame has no place
pub record IsMoved (changes : Changes) (header : Header) (place : Journal) (entries : Entries) (checkpoint : Checkpoint) : Type 0 where
  pub each : AllByRecursion FitsChange changes
  pub none : HasNoPlace place entries (need_of (payload_of changes))
  pub small : length (snapshot (applied changes entries)) < AREA_LEN
  pub moves : MovesOver header (applied changes entries) checkpoint.header checkpoint.bytes.items

-- one of the two
abbrev pub IsReady : Changes → Header → Journal → Entries → Ready → Type 0
IsReady changes header place entries (Framed frame due) = IsFramed changes header place entries frame due
IsReady changes header place entries (Moved checkpoint) = IsMoved changes header place entries checkpoint
