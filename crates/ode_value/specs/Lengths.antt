-- How many bytes records take: those of a key, and the value's.
use Rattle.std.specs.Prelude.{ℕ, zero, suc, ◌+◌, ◌-◌, ◌*◌, ◌/◌, List, length}
use Rattle.std.specs.List.{sum_by}
use Rattle.ode_value.specs.Limits.{value_limit}
use Rattle.ode_value.specs.declared.value.Value.{Value}
use Rattle.ode_value.specs.declared.value.Value.TheVariants as value

-- a value in a field or among arguments: its tag and its content
abbrev pub value_length : Value → ℕ
value_length (value.Int n) = 9
value_length (value.Bool b) = 2
value_length (value.Text t) = 3 + length t
value_length (value.Reference r) = 13

-- values together
abbrev pub values_length : List Value → ℕ
values_length values = sum_by value_length values

-- the bytes of a key: its kind, and two numbers
abbrev pub key_length : ℕ
key_length = 17

-- a record whose value has this length
abbrev pub record_length : ℕ → ℕ
record_length n = key_length + n

-- A text or a table is cut into pieces as long as a value may be, of which the last may be shorter.
abbrev pub piece_count : ℕ → ℕ
piece_count n = (n + (value_limit - 1)) / value_limit

-- the records of the pieces of so many bytes
abbrev pub pieces_length : ℕ → ℕ
pieces_length n = key_length * piece_count n + n

-- numbers of two bytes for each state and symbol, and a byte for each state
abbrev pub table_length : ℕ → ℕ → ℕ
table_length states symbols = 2 * (states * symbols) + states

-- a stamp, or how many fields were added; 0 isn't spelled
abbrev pub stamp_length : ℕ → ℕ
stamp_length zero = 0
stamp_length (suc n) = 4

-- the counters, by how many fields were added
abbrev pub counters_length : ℕ → ℕ
counters_length added = record_length (45 + stamp_length added)

-- a class's head, by its name, and its text, by the text's length
abbrev pub class_length : List ℕ → ℕ → ℕ
class_length name text = record_length (11 + length name) + pieces_length text

-- a trigger's table, its head and its pieces
abbrev pub trigger_length : ℕ → ℕ → ℕ
trigger_length states symbols = record_length 3 + pieces_length (table_length states symbols)

-- an object
abbrev pub object_length : ℕ
object_length = record_length 8

-- the value of a version, by its stamp and the fields that it has
abbrev pub version_size : ℕ → List Value → ℕ
version_size stamp fields = 6 + stamp_length stamp + values_length fields

-- a version
abbrev pub version_length : ℕ → List Value → ℕ
version_length stamp fields = record_length (version_size stamp fields)

-- an added field, by its name and its literal
abbrev pub added_length : List ℕ → Value → ℕ
added_length name literal = record_length (6 + length name + value_length literal)

-- an activation
abbrev pub activation_length : List Value → ℕ
activation_length args = record_length (9 + values_length args)

-- an entry, which the limit on all records doesn't count
abbrev pub entry_length : List Value → ℕ
entry_length args = record_length (16 + values_length args)

-- how many records a class takes, by the length of its text and its triggers' states and symbols
abbrev pub table_records : ℕ × ℕ → ℕ
table_records t = 1 + piece_count (table_length t.0 t.1)

abbrev pub class_records : ℕ → List (ℕ × ℕ) → ℕ
class_records text tables = 1 + piece_count text + sum_by table_records tables
