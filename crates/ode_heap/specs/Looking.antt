-- What there is in records, in the order of their keys.
use Rattle.std.specs.Prelude.{ℕ, List, [], ◌∷◌, length, fold, Bool, cond, true, false, nat_le, nat_lt, ◌==◌, ◌&&◌, ◌||◌, Option, Some, None}
use Rattle.std.specs.List.{enumerate_from, find, insert}
use Rattle.std.specs.Map.{keys_of}
use Rattle.std.specs.Option.{option_map, option_map_or}
use Rattle.ode_codec.specs.Reading.{record_under}
use Rattle.ode_codec.specs.Sorts.{has_sort}
use Rattle.ode_codec.specs.declared.record.Counters.{Counters}
use Rattle.ode_codec.specs.declared.record.Entry.{Entry}
use Rattle.ode_codec.specs.declared.record.Record.{Record}
use Rattle.ode_codec.specs.declared.record.Record.TheVariants as of
use Rattle.ode_heap.specs.Answers.{Found, ◌>>=◌}
use Rattle.ode_heap.specs.Answers.{There, Broken}
use Rattle.ode_heap.specs.declared.fields.Stamped.{Stamped}
use Rattle.ode_versions.specs.declared.list.Version.{Version}
use Rattle.ode_keep.specs.Entries.{Entries, least_from, value_under}
use Rattle.ode_value.specs.Fields.{is_born}
use Rattle.ode_value.specs.Lengths.{record_length}
use Rattle.ode_value.specs.Keys.{counters_key, entry_kind, object_kind, version_key}
use Rattle.ode_value.specs.declared.class.Class.{Class}
use Rattle.ode_value.specs.declared.class.Field.{Field}
use Rattle.ode_value.specs.declared.key.Key.{Key}
use Rattle.ode_value.specs.declared.value.Value.{Value}

-- ---- records by their keys

-- what was decoded under a key
abbrev pub read_as : Key → Option Record → Found Record
read_as k None = Broken k
read_as k (Some r) = There r

-- the record of this key with this value
unfoldable pub decoded : Key → List ℕ → Found Record
decoded k bytes = read_as k (record_under k bytes)

-- the record of a value that is there, or none
abbrev pub looked_at : Key → Option (List ℕ) → Found (Option Record)
looked_at k None = There None
looked_at k (Some bytes) = decoded k bytes >>= λ r. There (Some r)

-- the record under a key, if there is one
unfoldable pub looked_up : Entries → Key → Found (Option Record)
looked_up entries k = looked_at k (value_under entries k)

-- the least key at or above a key
abbrev pub least_at : Entries → Key → Found (Option Key)
least_at entries k = There (least_from entries k)

-- ---- the counters

abbrev pub are_counters : Option Record → Found Counters
are_counters (Some (of.Counters c)) = There c
are_counters _ = Broken counters_key

-- the counters, which are always there
unfoldable pub counters_in : Entries → Found Counters
counters_in entries = looked_up entries counters_key >>= are_counters

-- ---- versions

-- a parent's number, where 0 is none
abbrev pub parent_of : ℕ → Option ℕ
parent_of n = cond (n == 0) None (Some n)

abbrev pub as_version : Key → Record → Found Version
as_version k (of.Version object number parent stamp fields) = There (record { number = number; parent = parent_of parent })
as_version k _ = Broken k

-- the values have the sorts, one for each
abbrev pub fit_fields : List Field → List Value → Bool
fit_fields [] [] = true
fit_fields (f ∷ fs) (v ∷ vs) = has_sort f.sort v && fit_fields fs vs
fit_fields _ _ = false

-- a field that came later than a stamp has its literal at its place
abbrev pub literal_put : ℕ → List Value → ℕ × Field → List Value
literal_put stamp values (place, f) = cond (is_born stamp f || nat_lt (length values) place) values (option_map_or (insert values place) f.literal values)

-- so have all such fields, in order
unfoldable pub with_literals : ℕ → List Field → List Value → List Value
with_literals stamp fields values = fold (literal_put stamp) values (enumerate_from 0 fields)

-- the values of all fields, with the stamp
abbrev pub stamped : Key → ℕ → List Field → List Value → Found (Option Stamped)
stamped k stamp fields values = cond (fit_fields fields values) (There (Some (record { stamp = stamp; fields = values }))) (Broken k)

abbrev pub fields_of : Key → List Field → Option Record → Found (Option Stamped)
fields_of k fields None = There None
fields_of k fields (Some (of.Version object number parent stamp values)) = stamped k stamp fields (with_literals stamp fields values)
fields_of k fields _ = Broken k

-- the stamp and the fields of a version of an object of this class, if there is that version
unfoldable pub stamped_in : Entries → ℕ → ℕ → Class → Found (Option Stamped)
stamped_in entries id number class = looked_up entries (version_key id number) >>= fields_of (version_key id number) class.fields

-- the fields alone
abbrev pub version_in : Entries → ℕ → ℕ → Class → Found (Option (List Value))
version_in entries id number class = stamped_in entries id number class >>= λ found. There (option_map (λ (s : Stamped). s.fields) found)

-- the bytes of its record, if there is that version
abbrev pub bytes_in : Entries → ℕ → ℕ → Option ℕ
bytes_in entries id number = option_map (λ bytes. record_length (length bytes)) (value_under entries (version_key id number))

-- ---- what comes next

-- the number of the least object at or above one
abbrev pub is_object_from : ℕ → Key → Bool
is_object_from id k = k.kind == object_kind && nat_le id k.a

unfoldable pub object_from : Entries → ℕ → Option ℕ
object_from entries id = option_map (λ (k : Key). k.a) (find (is_object_from id) (keys_of entries))

-- the number of the object with a key, if it is an object's
abbrev pub object_number : Option Key → Option ℕ
object_number None = None
object_number (Some k) = cond (k.kind == object_kind) (Some k.a) None

-- the entry with the least number at or above one
abbrev pub is_entry_from : ℕ → Key → Bool
is_entry_from number k = k.kind == entry_kind && nat_le number k.a

abbrev pub as_entry : Key → Option Record → Found (Option (ℕ × Entry))
as_entry k (Some (of.Entry number entry)) = There (Some (number, entry))
as_entry k _ = Broken k

-- its key, by the kind and the first number alone
unfoldable pub entry_key_from : Entries → ℕ → Option Key
entry_key_from entries number = find (is_entry_from number) (keys_of entries)

-- a key, if it is an entry's
abbrev pub of_entry : Option Key → Option Key
of_entry None = None
of_entry (Some k) = cond (k.kind == entry_kind) (Some k) None

abbrev pub entry_at : Entries → Option Key → Found (Option (ℕ × Entry))
entry_at entries None = There None
entry_at entries (Some k) = looked_up entries k >>= as_entry k

unfoldable pub entry_from : Entries → ℕ → Found (Option (ℕ × Entry))
entry_from entries number = entry_at entries (entry_key_from entries number)
