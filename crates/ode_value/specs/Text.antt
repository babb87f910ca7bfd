-- What a text and a name may hold.
use Rattle.std.specs.Prelude.{◌≡◌, ℕ, ◌≤◌, ◌<◌, List, length, Bool, ◌||◌, ◌&&◌, not, nat_lt, nat_le, ◌==◌, None, position}
use Rattle.std.specs.Option.{is_none}
use Rattle.ode_value.specs.Limits.{name_limit, text_limit}

-- a byte outside 0x20 to 0x7E
abbrev pub is_bad_byte : ℕ → Bool
is_bad_byte b = nat_lt b 0x20 || nat_lt 0x7E b

-- the bytes of a text: not too many, none of them bad
pub record IsText (bytes : List ℕ) : Type 0 where
  pub short : length bytes ≤ text_limit
  pub each : position is_bad_byte bytes ≡ None

-- the same as a test
abbrev pub is_text : List ℕ → Bool
is_text bytes = nat_le (length bytes) text_limit && is_none (position is_bad_byte bytes)

-- a letter, a digit or an underscore
abbrev pub is_name_byte : ℕ → Bool
is_name_byte b = (nat_le 48 b && nat_le b 57) || (nat_le 65 b && nat_le b 90) || (b == 95) || (nat_le 97 b && nat_le b 122)

-- some name bytes, not too many
pub record IsName (bytes : List ℕ) : Type 0 where
  pub some : 0 < length bytes
  pub short : length bytes ≤ name_limit
  pub each : position (λ b. not (is_name_byte b)) bytes ≡ None

-- the same as a test
abbrev pub is_name : List ℕ → Bool
is_name bytes = nat_lt 0 (length bytes) && (nat_le (length bytes) name_limit && is_none (position (λ b. not (is_name_byte b)) bytes))
