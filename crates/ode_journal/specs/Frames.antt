-- What a journal of frames is, in the bytes of a file.
use Rattle.std.specs.Prelude.{◌≡◌, ◌≢◌, ◌<◌, ◌≤◌, ◌⊎◌, ℕ, ◌+◌, ◌^◌, min, max, List, ◌∷◌, ◌++◌, length, drop, Option, Some, None}
use Rattle.std.specs.Int.{w32, to_be_bytes}
use Rattle.std.specs.List.{AllByRecursion, flat_map}
use Rattle.ode_journal.specs.declared.frame.TheConstants.{FRAME_HEAD}
use Rattle.ode_gate.specs.declared.gate.TheConstants.{OPEN}
use Rattle.ode_host.specs.Fields.{number_at}

-- its length, and the payload
abbrev pub framed : List ℕ → List ℕ
framed payload = to_be_bytes w32 (length payload) ++ payload

-- frames one behind the other, each behind its open gate
abbrev pub spelled : List (List ℕ) → List ℕ
spelled frames = flat_map (λ payload. OPEN ∷ framed payload) frames

-- each payload's length fits its field
abbrev pub AreShort : List (List ℕ) → Type 0
AreShort frames = AllByRecursion (λ payload. length payload < 2 ^ 32) frames

-- where the gate behind these frames stands, if the first one's gate stands at `start`
abbrev pub gate_behind : ℕ → List (List ℕ) → ℕ
gate_behind start frames = start + length (spelled frames)

abbrev pub HasGate : ℕ → ℕ → List ℕ → Type 0
HasGate at gate file = drop at file ≡ gate ∷ drop (at + 1) file

-- a gate stands at this place, before the end, and isn't open
pub record IsShut (end at : ℕ) (file : List ℕ) : Type 0 where
  pub within : at < end
  pub gate : ℕ
  pub shut : gate ≢ OPEN
  pub stands : HasGate at gate file

-- an open gate stands at this place, and behind it a whole frame that doesn't run past the end
pub record IsFramed (end at : ℕ) (payload file : List ℕ) : Type 0 where
  pub within : at + FRAME_HEAD + length payload ≤ end
  pub short : length payload < 2 ^ 32
  pub stands : drop at file ≡ (OPEN ∷ framed payload) ++ drop (at + FRAME_HEAD + length payload) file

-- where the room for frames ends: at the end that was given, or with the file
abbrev pub limit : ℕ → List ℕ → ℕ
limit end file = min end (length file)

-- A gate at this place would stand past the limit, or it is open and its length runs past the limit.
abbrev pub IsBad : ℕ → ℕ → List ℕ → Type 0
IsBad end at file = (limit end file ≤ at) ⊎ (HasGate at OPEN file × (limit end file < at + FRAME_HEAD + number_at w32 file (at + 1)))

-- from `start` on these frames stand whole, and none runs past the end
pub record HasFrames (start end : ℕ) (frames : List (List ℕ)) (file : List ℕ) : Type 0 where
  pub stand : drop start file ≡ spelled frames ++ drop (gate_behind start frames) file
  pub short : AreShort frames
  pub within : gate_behind start frames ≤ max start end

-- from `start` on these frames, and then a gate that is shut; what stands behind it doesn't count
pub record IsJournal (start end : ℕ) (frames : List (List ℕ)) (file : List ℕ) : Type 0 where
  pub has : HasFrames start end frames file
  pub shut : IsShut end (gate_behind start frames) file

-- from `start` on some whole frames, and then at this place what is bad
pub record IsBroken (start end at : ℕ) (file : List ℕ) : Type 0 where
  pub frames : List (List ℕ)
  pub has : HasFrames start end frames file
  pub place : at ≡ gate_behind start frames
  pub bad : IsBad end at file

-- what stands at a place: a gate that is shut, or a whole frame behind an open one
abbrev pub NextIs : ℕ → ℕ → Option (List ℕ) → List ℕ → Type 0
NextIs end at None file = IsShut end at file
NextIs end at (Some payload) file = IsFramed end at payload file
