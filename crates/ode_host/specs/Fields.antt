-- Big-endian fields at a place in some bytes.
use Rattle.std.specs.Prelude.{ℕ, List, take, drop}
use Rattle.std.specs.Int.{Width, byte_len, from_be_bytes}

-- the number in the bytes at a place
abbrev pub number_at : Width → List ℕ → ℕ → ℕ
number_at w bytes at = from_be_bytes w (take (byte_len w) (drop at bytes))
