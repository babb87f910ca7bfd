-- The one spelling of each record: its key and its value.
use Rattle.std.specs.Prelude.{ℕ, ◌+◌, ◌*◌, List, ◌++◌, length, cond, Bool}
use Rattle.std.specs.Int.{w16, w32, w64, to_be_bytes, cast_unsigned}
use Rattle.std.specs.List.{flat_map}
use Rattle.ode_value.specs.Keys.{key, counters_kind, class_head_kind, class_piece_kind, table_head_kind, table_piece_kind, object_kind, version_kind, activation_kind, entry_kind, added_kind}
use Rattle.ode_value.specs.Records.{byte, counted, spelled_value, stamp_bytes, version_bytes}
use Rattle.ode_value.specs.declared.key.Key.{Key}
use Rattle.ode_value.specs.declared.value.Value.{Value}
use Rattle.ode_codec.specs.declared.record.Activation.{Activation}
use Rattle.ode_codec.specs.declared.record.Counters.{Counters}
use Rattle.ode_codec.specs.declared.record.Entry.{Entry}
use Rattle.ode_codec.specs.declared.record.Record.{Record}
use Rattle.ode_codec.specs.declared.record.Record.TheVariants as of
use Rattle.ode_codec.specs.declared.record.TheConstants.{TABLE_PLACES}

abbrev pub u16 : ℕ → List ℕ
u16 n = to_be_bytes w16 n

abbrev pub u32 : ℕ → List ℕ
u32 n = to_be_bytes w32 n

abbrev pub u64 : ℕ → List ℕ
u64 n = to_be_bytes w64 n

abbrev pub truth : Bool → List ℕ
truth b = byte (cond b 1 0)

abbrev pub values : List Value → List ℕ
values vs = flat_map spelled_value vs

-- the clock is all zeros behind its first byte where it isn't set
abbrev pub clock_value : Counters → List ℕ
clock_value c = truth c.clock_set ++ (u64 (cast_unsigned w64 c.instant) ++ (u64 c.object ++ u32 c.place))

abbrev pub nexts_value : Counters → List ℕ
nexts_value c = u64 c.next_number ++ (u64 c.next_transaction ++ (u64 c.next_entry ++ clock_value c))

abbrev pub counters_value : Counters → List ℕ
counters_value c = nexts_value c ++ stamp_bytes c.added

abbrev pub activation_value : Activation → List ℕ
activation_value a = u32 a.class ++ (u16 a.trigger ++ (u16 a.state ++ (counted a.args ++ values a.args)))

abbrev pub entry_value : Entry → List ℕ
entry_value e = u64 e.object ++ (u32 e.class ++ (u16 e.trigger ++ (byte e.generation ++ (counted e.args ++ values e.args))))

-- the value of a record
unfoldable pub value_of : Record → List ℕ
value_of (of.Counters c) = counters_value c
value_of (of.ClassHead class name parent text_length triggers) = (byte (length name) ++ name) ++ (u32 parent ++ (u32 text_length ++ u16 triggers))
value_of (of.ClassPiece class piece bytes) = bytes
value_of (of.TableHead class trigger states symbols) = u16 states ++ byte symbols
value_of (of.TablePiece class trigger piece bytes) = bytes
value_of (of.Object object class last) = u32 class ++ u32 last
value_of (of.Version object number parent stamp fields) = version_bytes parent stamp fields
value_of (of.Activation a) = activation_value a
value_of (of.Entry number e) = entry_value e
value_of (of.Added class birth name sort refers literal) = (byte (length name) ++ name) ++ (byte sort ++ (u32 refers ++ spelled_value literal))

-- its key
unfoldable pub key_of : Record → Key
key_of (of.Counters c) = key counters_kind 0 0
key_of (of.ClassHead class name parent text_length triggers) = key class_head_kind class 0
key_of (of.ClassPiece class piece bytes) = key class_piece_kind class piece
key_of (of.TableHead class trigger states symbols) = key table_head_kind class trigger
key_of (of.TablePiece class trigger piece bytes) = key table_piece_kind class (trigger * TABLE_PLACES + piece)
key_of (of.Object object class last) = key object_kind object 0
key_of (of.Version object number parent stamp fields) = key version_kind object number
key_of (of.Activation a) = key activation_kind a.object a.number
key_of (of.Entry number e) = key entry_kind number 0
key_of (of.Added class birth name sort refers literal) = key added_kind class birth

abbrev pub spelled : Record → Key × List ℕ
spelled r = (key_of r, value_of r)
