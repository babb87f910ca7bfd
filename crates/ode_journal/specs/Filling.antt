-- A frame that is being filled.
use Rattle.std.specs.Prelude.{◌≡◌, ◌<◌, ◌≤◌, ℕ, ◌+◌, ◌-◌, ◌^◌, List, [], ◌∷◌, ◌++◌, length, take, drop, replicate}
use Rattle.std.specs.Int.{w32, to_be_bytes}
use Rattle.ode_journal.specs.Frames.{framed}
use Rattle.ode_journal.specs.declared.frame.TheConstants.{LENGTH_LEN}

-- what a contract sees of a frame: its payload so far, and how many bytes it can still take
pub record Filling : Type 0 where
  pub payload : List ℕ
  pub spare : ℕ

-- the frame with these bytes behind its payload
abbrev pub filled_by : Filling → List ℕ → Filling
filled_by frame bytes = record { payload = frame.payload ++ bytes; spare = frame.spare - length bytes }

-- The bytes of a frame: its length, so much of its payload, and zeros, of which the last is the shut gate behind it.
pub record IsShaped (bytes : List ℕ) (filled : ℕ) : Type 0 where
  pub long : filled + (LENGTH_LEN + 1) ≤ length bytes
  pub short : length bytes < 2 ^ 32 + (LENGTH_LEN + 1)
  pub head : take LENGTH_LEN bytes ≡ to_be_bytes w32 (length bytes - (LENGTH_LEN + 1))
  pub tail : drop (LENGTH_LEN + filled) bytes ≡ replicate (length bytes - (LENGTH_LEN + filled)) 0

abbrev pub filling_of : List ℕ → ℕ → Filling
filling_of bytes filled = record { payload = take filled (drop LENGTH_LEN bytes); spare = length bytes - (LENGTH_LEN + 1) - filled }

-- the bytes of a full frame, and the shut gate behind it
pub record IsFrame (payload bytes : List ℕ) : Type 0 where
  pub bytes_are : bytes ≡ framed payload ++ 0 ∷ []
  pub short : length payload < 2 ^ 32
