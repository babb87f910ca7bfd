-- A stream: whole frames, and what stands behind them.
use Rattle.std.specs.Prelude.{◌≡◌, ◌<◌, ◌≤◌, ◌+◌, ◌++◌, ◌⊎◌, ℕ, List, length, true, false}
use Rattle.std.specs.Int.{w32, to_be_bytes}
use Rattle.std.specs.List.{AllByRecursion, flat_map}
use Rattle.ode_host.specs.Fields.{number_at}
use Rattle.ode_ship.specs.Frames.{Frame, IsFrame, IsPayloadOf, frame_bytes, is_length}
use Rattle.ode_ship.specs.declared.framing.TheConstants.{HEAD_LEN}

-- the bytes are these frames, each of the form, and what stands behind them
pub record AreFrames (bytes : List ℕ) (frames : List Frame) (rest : List ℕ) : Type 0 where
  pub spelled : bytes ≡ flat_map frame_bytes frames ++ rest
  pub form : AllByRecursion IsFrame frames

-- the length that the bytes begin with
abbrev pub told : List ℕ → ℕ
told bytes = number_at w32 bytes 0

-- a frame is begun and not yet whole, and its length, where it is there, may be that of a payload
abbrev pub IsBegun : List ℕ → Type 0
IsBegun bytes = (length bytes < HEAD_LEN) ⊎ ((is_length (told bytes) ≡ true) × (length bytes < HEAD_LEN + told bytes))

-- the length is there, and no payload has it
pub record HasNoLength (bytes : List ℕ) : Type 0 where
  pub there : HEAD_LEN ≤ length bytes
  pub outside : is_length (told bytes) ≡ false

-- a payload of a length that it may have stands in front, behind its length
pub record IsWhole (bytes payload rest : List ℕ) : Type 0 where
  pub long : is_length (length payload) ≡ true
  pub spelled : bytes ≡ to_be_bytes w32 (length payload) ++ (payload ++ rest)

-- the payload is whole, and outside the form
pub record HasNoForm (bytes : List ℕ) : Type 0 where
  pub payload : List ℕ
  pub rest : List ℕ
  pub whole : IsWhole bytes payload rest
  pub outside : (f : Frame) → IsPayloadOf f payload → ⊥

-- no frame of the form can begin so
abbrev pub IsBad : List ℕ → Type 0
IsBad bytes = HasNoLength bytes ⊎ HasNoForm bytes
