-- A payload: the changes of a batch in rising order of their keys, behind their number.
use Rattle.std.specs.Prelude.{◌<◌, ◌^◌, ℕ, List, ◌++◌, length, Option, Some, None}
use Rattle.std.specs.Option.{IfSome}
use Rattle.ode_value.specs.declared.key.Key.{Key}
use Rattle.ode_value.specs.Records.{byte, key_bytes, row_bytes}
use Rattle.ode_value.specs.Keys.{key_cmp}
use Rattle.ode_keep.specs.Counted.{IsCountedList, counted}
use Rattle.ode_keep.specs.Entries.{Changes}
use Rattle.ode_keep.specs.Snapshots.{FitsKey}
use Rattle.ode_keep.specs.declared.spelling.TheConstants.{PUT, REMOVAL}

-- a removal: its mark and the key; a put: its mark and the record
abbrev pub spelled_change : Key → Option (List ℕ) → List ℕ
spelled_change k None = byte REMOVAL ++ key_bytes k
spelled_change k (Some v) = byte PUT ++ row_bytes (k, v)

abbrev pub change_bytes : Key × Option (List ℕ) → List ℕ
change_bytes c = spelled_change c.0 c.1

abbrev pub payload_of : Changes → List ℕ
payload_of changes = counted change_bytes changes

-- a change whose key and whose value's length fit their fields
pub record FitsChange (c : Key × Option (List ℕ)) : Type 0 where
  pub key : FitsKey c.0
  pub value : IfSome c.1 (λ v. length v < 2 ^ 16)

-- the bytes are the payload of these changes
abbrev pub IsPayload : Changes → List ℕ → Type 0
IsPayload = IsCountedList change_bytes FitsChange key_cmp
