-- The records of a change, by the classes as they were checked.
use Rattle.std.specs.Prelude.{ℕ, ◌+◌, ◌==◌, ◌&&◌, not, cond, List, [], ◌∷◌, map}
use Rattle.std.specs.Option.{option_map_or}
use Rattle.ode_class_records.specs.Puts.{with_rows}
use Rattle.ode_codec.specs.Spelling.{spelled}
use Rattle.ode_codec.specs.StoredRows.{sort_number}
use Rattle.ode_codec.specs.declared.record.Counters.{Counters}
use Rattle.ode_codec.specs.declared.record.Record.{Record}
use Rattle.ode_codec.specs.declared.record.Record.TheVariants as of
use Rattle.ode_keep.specs.Entries.{Changes}
use Rattle.ode_types.specs.Families.{class_named}
use Rattle.ode_value.specs.Changing.{added_by}
use Rattle.ode_value.specs.Records.{Row}
use Rattle.ode_value.specs.declared.change.Added.{Added}
use Rattle.ode_value.specs.declared.change.Change.{Change}
use Rattle.ode_value.specs.declared.class.Class.{Class}
use Rattle.ode_value.specs.declared.statement.Sort.{Sort}
use Rattle.ode_value.specs.declared.statement.Sort.TheVariants as sort

-- the number of the class of a name
abbrev pub number_named : List Class → List ℕ → ℕ
number_named classes name = option_map_or (λ (c : Class). c.number) (class_named classes name) 0

-- and of the class that a sort refers to
abbrev pub referred_by : List Class → Sort → ℕ
referred_by classes (sort.Reference name) = number_named classes name
referred_by classes _ = 0

-- an added field
abbrev pub record_of : List Class → Added → Record
record_of classes a = of.Added a.class a.birth a.name (sort_number a.sort) (referred_by classes a.sort) a.value

abbrev pub added_row_by : List Class → Added → Row
added_row_by classes a = spelled (record_of classes a)

-- the fields that a change adds behind so many
abbrev pub new_in : List Class → ℕ → Change → List Added
new_in classes before c = added_by (number_named classes c.class) before c

-- the changes that put their records
abbrev pub fields_put : List Class → List Added → Changes
fields_put classes added = with_rows (map (added_row_by classes) added) []

-- the counters behind the transaction of a change, with so many added fields
abbrev pub counters_behind : Counters → ℕ → Counters
counters_behind c added = record c { next_transaction = c.next_transaction + 1; added = added }

-- with the change that puts them
abbrev pub with_counters : Counters → ℕ → Changes → Changes
with_counters c added changes = with_rows (spelled (of.Counters (counters_behind c added)) ∷ []) changes

-- what the counters take more with the first added field, where so many are new
abbrev pub count_more : ℕ → ℕ → ℕ
count_more before new = cond (before == 0 && not (new == 0)) 4 0
