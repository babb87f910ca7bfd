-- The lengths of values and versions are those of their bytes.
use Rattle.std.proofs.Common.{◌≡◌, ℕ, zero, suc, List, [], ◌∷◌, ◌++◌, length, refl, ap, arith, length-append}
use Rattle.std.proofs.lemmas.List.Sums.{sum_by-cons}
use Rattle.std.specs.Int.{w16, w32, to_be_bytes}
use Rattle.std.specs.List.{flat_map}
use Rattle.std.specs.Option.{unwrap_or}
use Rattle.ode_value.specs.Lengths.{record_length, stamp_length, value_length, values_length, version_length, version_size}
use Rattle.ode_value.specs.Records.{byte, spelled_value, row_weight, stamp_bytes, stamped_count, version_bytes, version_row}
use Rattle.ode_value.specs.Fields.{born_values}
use Rattle.ode_value.specs.Versions.{Version}
use Rattle.ode_value.specs.declared.class.Field.{Field}
use Rattle.ode_value.specs.declared.value.Value.{Value}
use Rattle.ode_value.specs.declared.value.Value.TheVariants as value

length-value : (v : Value) → length (spelled_value v) ≡ value_length v
length-value (value.Int n) = refl
length-value (value.Bool b) = refl
length-value (value.Text t) = omega (arith, length-append (byte 2 ++ to_be_bytes w16 (length t)) t)
length-value (value.Reference r) = refl

length-values : (vs : List Value) → length (flat_map spelled_value vs) ≡ values_length vs
length-values [] = refl
length-values (v ∷ vs) = omega (arith, length-append (spelled_value v) (flat_map spelled_value vs), length-value v, length-values vs, sum_by-cons value_length v vs)

pub length-stamp : (stamp : ℕ) → length (stamp_bytes stamp) ≡ stamp_length stamp
length-stamp zero = refl
length-stamp (suc n) = refl

length-bytes : (parent stamp : ℕ) (fields : List Value) → length (version_bytes parent stamp fields) ≡ version_size stamp fields
length-bytes parent stamp fields =
    omega (
      arith,
      length-append (to_be_bytes w32 parent ++ to_be_bytes w16 (stamped_count stamp (length fields))) (stamp_bytes stamp ++ flat_map spelled_value fields),
      length-append (stamp_bytes stamp) (flat_map spelled_value fields),
      length-stamp stamp,
      length-values fields,
    )

pub length-version : (id : ℕ) (fields : List Field) (v : Version) → row_weight (version_row id fields v) ≡ version_length v.stamp (born_values v.stamp fields v.fields)
length-version id fields v = ap record_length (length-bytes (unwrap_or v.parent 0) v.stamp (born_values v.stamp fields v.fields))
