-- Which records have a form that the first format knows.
use Rattle.std.specs.Prelude.{ℕ, ◌^◌, List, length, Bool, true, false, cond, nat_le, nat_lt, ◌==◌, drop}
use Rattle.std.specs.Int.{w16}
use Rattle.std.specs.Option.{option_map_or}
use Rattle.ode_value.specs.Keys.{added_kind, counters_kind, version_kind}
use Rattle.ode_value.specs.declared.key.Key.{Key}
use Rattle.ode_codec.specs.Formats.{number_in}

-- no stamp follows the count of a version's fields, which stands behind its parent
abbrev pub is_unstamped : List ℕ → Bool
is_unstamped bytes = option_map_or (λ (n : ℕ × List ℕ). nat_lt n.0 (2 ^ 15)) (number_in w16 (drop 4 bytes)) true

-- no added field, no stamp, and no count of added fields
abbrev pub is_of_first : Key → List ℕ → Bool
is_of_first k bytes =
    cond (k.kind == added_kind) false
    (cond (k.kind == counters_kind) (nat_le (length bytes) 45)
    (cond (k.kind == version_kind) (is_unstamped bytes) true))
