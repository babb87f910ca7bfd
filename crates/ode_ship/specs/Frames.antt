-- A frame: the number of a settled transaction, and the changes of its records.
use Rattle.std.specs.Prelude.{◌≡◌, ◌<◌, ◌≤◌, ◌^◌, ◌+◌, ◌++◌, ◌&&◌, ℕ, List, [], ◌∷◌, Bool, length, nat_le, Option, Some, None, if◌then◌else◌, IsTrue}
use Rattle.std.specs.BTreeMap.{is_at}
use Rattle.std.specs.Int.{w32, w64, to_be_bytes}
use Rattle.std.specs.List.{AllByRecursion}
use Rattle.std.specs.Option.{is_some}
use Rattle.ode_value.specs.Keys.{counters_key, key_cmp}
use Rattle.ode_value.specs.declared.key.Key.{Key}
use Rattle.ode_codec.specs.Formats.{◌>>=◌}
use Rattle.ode_codec.specs.Reading.{record_under}
use Rattle.ode_codec.specs.declared.record.Record.{Record}
use Rattle.ode_codec.specs.declared.record.Record.TheVariants as of
use Rattle.ode_keep.specs.Entries.{Changes, HasRisingKeys}
use Rattle.ode_keep.specs.Payloads.{FitsChange, payload_of}
use Rattle.ode_keep.specs.ShortValues.{HasShortValues}
use Rattle.ode_keep.specs.declared.limits.TheConstants.{MAX_CHANGES, MAX_VALUE}
use Rattle.ode_ship.specs.declared.framing.TheConstants.{MAX_LENGTH, MIN_LENGTH}

abbrev pub Frame : Type 0
Frame = ℕ × Changes

-- ---- the bytes

-- the payload: the number, and the changes as a keeper spells them
abbrev pub shipped_payload : Frame → List ℕ
shipped_payload f = to_be_bytes w64 f.0 ++ payload_of f.1

-- the length of the payload, and the payload
abbrev pub frame_bytes : Frame → List ℕ
frame_bytes f = to_be_bytes w32 (length (shipped_payload f)) ++ shipped_payload f

-- whether a payload may have this length
abbrev pub is_length : ℕ → Bool
is_length n = nat_le MIN_LENGTH n && nat_le n MAX_LENGTH

-- ---- the form

-- a value, if there is one, is short enough for a keeper and that of a record
abbrev pub IsStored : Key → Option (List ℕ) → Type 0
IsStored k None = Unit {0}
IsStored k (Some v) = (length v ≤ MAX_VALUE) × IsTrue (is_some (record_under k v))

-- a change whose key and whose value fit their fields, and whose value is stored
pub record IsShipped (c : Key × Option (List ℕ)) : Type 0 where
  pub fits : FitsChange c
  pub stored : IsStored c.0 c.1

-- the next transaction's number, by the counters
abbrev pub next_in : Record → Option ℕ
next_in (of.Counters c) = Some c.next_transaction
next_in _ = None

-- as the value under the counters' key tells it
abbrev pub next_by : Option (List ℕ) → Option ℕ
next_by value = value >>= λ v. record_under counters_key v >>= next_in

-- as changes tell it
abbrev pub next_told : Changes → Option ℕ
next_told [] = None
next_told (c ∷ cs) = if is_at (key_cmp counters_key) c.0 then next_by c.1 else next_told cs

-- the form of a frame: few changes with rising keys, and counters among them that tell the next number
pub record IsFrame (f : Frame) : Type 0 where
  pub number : f.0 < 2 ^ 64
  pub few : length f.1 ≤ MAX_CHANGES
  pub each : AllByRecursion IsShipped f.1
  pub rising : HasRisingKeys f.1
  pub next : next_told f.1 ≡ Some (f.0 + 1)

-- whatever its values are: a number and changes that fit their fields, few and with rising keys, whose values a keeper takes
pub record FitsFrame (f : Frame) : Type 0 where
  pub number : f.0 < 2 ^ 64
  pub few : length f.1 ≤ MAX_CHANGES
  pub each : AllByRecursion FitsChange f.1
  pub short : HasShortValues f.1
  pub rising : HasRisingKeys f.1

-- the bytes are the payload of a frame of the form
pub record IsPayloadOf (f : Frame) (bytes : List ℕ) : Type 0 where
  pub spelled : bytes ≡ shipped_payload f
  pub form : IsFrame f
