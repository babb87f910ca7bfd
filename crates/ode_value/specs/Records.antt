-- Records: the bytes of keys, values and records, and how they count.
use Rattle.std.specs.Prelude.{ℕ, zero, suc, ◌+◌, ◌%◌, ◌^◌, List, [], ◌∷◌, ◌++◌, length, cond, Option, Some, None}
use Rattle.std.specs.Int.{w16, w32, w64, to_be_bytes, cast_unsigned}
use Rattle.std.specs.List.{flat_map}
use Rattle.std.specs.Option.{unwrap_or}
use Rattle.ode_value.specs.declared.class.Field.{Field}
use Rattle.ode_value.specs.declared.key.Key.{Key}
use Rattle.ode_value.specs.declared.value.Value.{Value}
use Rattle.ode_value.specs.declared.value.Value.TheVariants as value
use Rattle.ode_value.specs.Fields.{born_values}
use Rattle.ode_value.specs.Keys.{version_key}
use Rattle.ode_value.specs.Lengths.{record_length}
use Rattle.ode_value.specs.Versions.{Version}
use Rattle.ode_value.specs.Worlds.{Position}

-- one byte
abbrev pub byte : ℕ → List ℕ
byte n = n ∷ []

-- how many arguments there are; no trigger has more than a byte counts
abbrev pub counted : List Value → List ℕ
counted args = byte (length args % 2 ^ 8)

-- a value: its tag and its content
abbrev pub spelled_value : Value → List ℕ
spelled_value (value.Int n) = byte 0 ++ to_be_bytes w64 (cast_unsigned w64 n)
spelled_value (value.Bool b) = byte 1 ++ byte (cond b 1 0)
spelled_value (value.Text t) = byte 2 ++ to_be_bytes w16 (length t) ++ t
spelled_value (value.Reference r) = byte 3 ++ to_be_bytes w64 r.object ++ to_be_bytes w32 (unwrap_or r.version 0)

-- the clock's position, or zeros
abbrev pub clock_bytes : Option Position → List ℕ
clock_bytes None = byte 0 ++ to_be_bytes w64 0 ++ to_be_bytes w64 0 ++ to_be_bytes w32 0
clock_bytes (Some p) = byte 1 ++ to_be_bytes w64 (cast_unsigned w64 p.instant) ++ to_be_bytes w64 p.object ++ to_be_bytes w32 p.place

-- a record: its key and its value
abbrev pub Row : Type 0
Row = Key × List ℕ

-- a stamp, or how many fields were added; 0 isn't spelled
abbrev pub stamp_bytes : ℕ → List ℕ
stamp_bytes zero = []
stamp_bytes (suc n) = to_be_bytes w32 (suc n)

-- how many fields a version has; a high bit says that a stamp follows
abbrev pub stamped_count : ℕ → ℕ → ℕ
stamped_count zero count = count
stamped_count (suc n) count = count + 2 ^ 15

-- the value of a version, by its parent, its stamp and the fields that it has
abbrev pub version_bytes : ℕ → ℕ → List Value → List ℕ
version_bytes parent stamp fields =
    to_be_bytes w32 parent ++ to_be_bytes w16 (stamped_count stamp (length fields)) ++ stamp_bytes stamp ++ flat_map spelled_value fields

-- a version, under its number in the object of this one, by the fields of its class
abbrev pub version_row : ℕ → List Field → Version → Row
version_row id fields v = (version_key id v.number, version_bytes (unwrap_or v.parent 0) v.stamp (born_values v.stamp fields v.fields))

-- how many bytes a record counts
abbrev pub row_weight : Row → ℕ
row_weight r = record_length (length r.1)

-- and these records together
abbrev pub total_weight : List Row → ℕ
total_weight [] = 0
total_weight (r ∷ rs) = row_weight r + total_weight rs

-- the bytes of a key
abbrev pub key_bytes : Key → List ℕ
key_bytes k = byte k.kind ++ to_be_bytes w64 k.a ++ to_be_bytes w64 k.b

-- those of a record: its key, the length of its value, and its value
abbrev pub row_bytes : Row → List ℕ
row_bytes r = key_bytes r.0 ++ to_be_bytes w16 (length r.1) ++ r.1

-- a snapshot: records one behind the other
abbrev pub snapshot : List Row → List ℕ
snapshot rs = flat_map row_bytes rs
