-- The numbers that runs of digits spell.
use Rattle.std.specs.Prelude.{ℕ, nat_le, ◌==◌, ◌&&◌, not, Bool, true, false, if◌then◌else◌, List, [], ◌∷◌, length, Option, None, Some}
use Rattle.std.specs.Char.{is_ascii_digit}
use Rattle.std.specs.List.{take_while}
use Rattle.std.specs.Str.Parse.{digits_value}

-- there is a digit, and no 0 leads others (48 is `0`)
abbrev pub is_plain : List ℕ → Bool
is_plain [] = false
is_plain (d ∷ []) = true
is_plain (d ∷ e ∷ more) = not (d == 48)

-- the number from `least` to `most` that all the digits at the front spell, not led by 0, and how many digits they are
unfoldable pub numeral_at : ℕ → ℕ → List ℕ → Option (ℕ × ℕ)
numeral_at least most bytes =
    let digits = take_while is_ascii_digit bytes in
    let number = digits_value 10 digits in
    if is_plain digits && (nat_le least number && nat_le number most) then Some (number, length digits) else None
