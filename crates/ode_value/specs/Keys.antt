-- The keys of records: ten kinds, and the numbers that follow each.
use Rattle.std.specs.Prelude.{ℕ}
use Rattle.std.specs.Ordering.{nat_cmp, ordering_then}
use Rattle.std.specs.declared.cmp.Ordering.{Ordering}
use Rattle.ode_value.specs.declared.key.Key.{Key}

-- a key by its kind and its two numbers
abbrev pub key : ℕ → ℕ → ℕ → Key
key kind a b = record { kind = kind; a = a; b = b }

-- the order of keys: by kind, then by the first number, then by the second
abbrev pub key_cmp : Key → Key → Ordering
key_cmp k l = ordering_then (nat_cmp k.kind l.kind) (ordering_then (nat_cmp k.a l.a) (nat_cmp k.b l.b))

-- ---- the kinds

-- the counters of a world, the clock among them
abbrev pub counters_kind : ℕ
counters_kind = 1

-- the head of a class
abbrev pub class_head_kind : ℕ
class_head_kind = 2

-- a piece of its printed text
abbrev pub class_piece_kind : ℕ
class_piece_kind = 3

-- the head of a trigger's table
abbrev pub table_head_kind : ℕ
table_head_kind = 4

-- a piece of its bytes
abbrev pub table_piece_kind : ℕ
table_piece_kind = 5

-- an object
abbrev pub object_kind : ℕ
object_kind = 6

-- a version of an object
abbrev pub version_kind : ℕ
version_kind = 7

-- an activation of a trigger for an object
abbrev pub activation_kind : ℕ
activation_kind = 8

-- an entry of the queue
abbrev pub entry_kind : ℕ
entry_kind = 9

-- a field that was added to a class
abbrev pub added_kind : ℕ
added_kind = 10

-- ---- the keys

-- of the counters
abbrev pub counters_key : Key
counters_key = key counters_kind 0 0

-- of a class's head
abbrev pub class_head_key : (class : ℕ) → Key
class_head_key class = key class_head_kind class 0

-- of a piece of its text, by the piece's number
abbrev pub class_piece_key : (class piece : ℕ) → Key
class_piece_key class piece = key class_piece_kind class piece

-- of an object
abbrev pub object_key : (id : ℕ) → Key
object_key id = key object_kind id 0

-- of a version of an object
abbrev pub version_key : (id number : ℕ) → Key
version_key id number = key version_kind id number

-- of an activation of an object
abbrev pub activation_key : (id number : ℕ) → Key
activation_key id number = key activation_kind id number

-- of an entry
abbrev pub entry_key : (number : ℕ) → Key
entry_key number = key entry_kind number 0

-- of an added field, by its class and its birth
abbrev pub added_key : (class birth : ℕ) → Key
added_key class birth = key added_kind class birth
