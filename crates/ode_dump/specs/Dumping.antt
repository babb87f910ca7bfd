-- What `check` and `dump` print of the records of a database.
use Rattle.std.specs.Prelude.{◌≡◌, ℕ, List, ◌++◌, ◌==◌, codes, map, true}
use Rattle.std.specs.List.{AllByRecursion, count_by}
use Rattle.std.specs.Map.{keys_of}
use Rattle.std.specs.Option.{is_some}
use Rattle.ode_codec.specs.Reading.{record_under}
use Rattle.ode_keep.specs.Entries.{Entries}
use Rattle.ode_passes.specs.Walking.{within}
use Rattle.ode_value.specs.Decimal.{digits_of}
use Rattle.ode_value.specs.Keys.{class_head_kind, object_kind, activation_kind, entry_kind}
use Rattle.ode_value.specs.Records.{Row}
use Rattle.ode_value.specs.Texts.{line}
use Rattle.ode_value.specs.declared.class.Class.{Class}
use Rattle.ode_value.specs.declared.key.Key.{Key}
use Rattle.ode_dump.specs.Lines.{entry_text}
use Rattle.ode_dump.specs.Order.{Lines, in_order}

-- all records; the numbers of their keys have 8 bytes
abbrev pub all : Entries → Entries
all entries = within 0 255 entries

-- every record decodes
abbrev pub AreRecords : Entries → Type 0
AreRecords entries = AllByRecursion (λ (e : Row). is_some (record_under e.0 e.1) ≡ true) (all entries)

-- how many keys are of a kind
abbrev pub count_keys : ℕ → List Key → ℕ
count_keys kind keys = count_by (λ (k : Key). k.kind == kind) keys

-- a text, and how many they are behind it
abbrev pub counted : List ℕ → ℕ → List Key → List ℕ
counted front kind keys = front ++ digits_of (count_keys kind keys)

-- `good classes C objects O activations A entries E`, by the keys of records
abbrev pub check_line : List Key → List ℕ
check_line keys =
    line (
    counted (codes "good classes ") class_head_kind keys ++ counted (codes " objects ") object_kind keys
    ++ counted (codes " activations ") activation_kind keys ++ counted (codes " entries ") entry_kind keys
    )

-- how many records there are of these kinds
unfoldable pub check_text : Entries → List ℕ
check_text entries = check_line (keys_of (all entries))

-- each record's line under its key
abbrev pub lines_of : List Class → Entries → Lines
lines_of classes entries = map (λ (e : Row). (e.0, entry_text classes e)) entries

-- the lines of all records, in the order of a dump
unfoldable pub dump_text : List Class → Entries → List ℕ
dump_text classes entries = in_order (lines_of classes (all entries))
