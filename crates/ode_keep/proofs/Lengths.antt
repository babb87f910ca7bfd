-- How long records and changes are.
use Rattle.std.proofs.Common.{◌≤◌, suc, ◌+◌, ◌*◌, List, ℕ, [], ◌∷◌, length, Option, None, ◌≡◌, refl, arith, length-append}
use Rattle.std.specs.List.{AllByRecursion}
use Rattle.std.specs.Option.{IfSome}
use Rattle.ode_value.specs.declared.key.Key.{Key}
use Rattle.ode_value.specs.Records.{key_bytes, row_bytes, snapshot}
use Rattle.ode_keep.specs.Entries.{Changes, Entries, record_bytes}
use Rattle.ode_keep.specs.ShortValues.{HasShortValues}
use Rattle.ode_keep.specs.declared.limits.TheConstants.{MAX_VALUE}
use Rattle.ode_keep.specs.declared.spelling.TheConstants.{KEY_LEN}

-- a change whose value is short enough for a batch
abbrev pub IsShortChange : Key × Option (List ℕ) → Type 0
IsShortChange c = IfSome c.1 (λ v. length v ≤ MAX_VALUE)

pub short_each : (cs : Changes) → HasShortValues cs → AllByRecursion IsShortChange cs
short_each [] all = tt
short_each (c ∷ cs) all = (all 0 None (omega arith), short_each cs (λ k d within. all (suc k) d (omega arith)))

-- each record has two bytes more in a snapshot than it counts
pub length-snapshot : (es : Entries) → length (snapshot es) ≡ record_bytes es + 2 * length es
length-snapshot [] = refl
length-snapshot (e ∷ es) = omega (arith, length-append (row_bytes e) (snapshot es), length-append (key_bytes e.0) e.1, length-snapshot es)

-- and counts its key at least
pub keys_count : (es : Entries) → KEY_LEN * length es ≤ record_bytes es
keys_count [] = omega arith
keys_count (e ∷ es) = omega (arith, keys_count es)
