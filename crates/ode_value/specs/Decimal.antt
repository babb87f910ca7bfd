-- Numbers in decimal.
use Rattle.std.specs.Prelude.{◌≡◌, ℕ, ◌<◌, ℤ, List, length, slice_index}
use Rattle.std.specs.Fmt.{decimal, signed_decimal}

-- the digits of a number below 2^64, not led by 0: `7`, `0`
abbrev pub digits_of : ℕ → List ℕ
digits_of n = decimal n

-- the same of a signed number, with its minus: `7`, `-7`
abbrev pub int_digits : ℤ → List ℕ
int_digits z = signed_decimal z

-- as a number begins: with some byte, and with a `0` only where it stands alone
pub record BeginsAsNumber (digits : List ℕ) : Type 0 where
  pub some : 0 < length digits
  pub zero_alone : slice_index digits 0 ≡ 48 → length digits ≡ 1
