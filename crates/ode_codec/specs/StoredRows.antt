-- A database as it is stored: a world with a state number for each activation, the tables of its triggers, and the rows of both.
use Rattle.std.specs.Prelude.{ℕ, ◌+◌, ◌*◌, List, ◌∷◌, ◌++◌, map, length, take, drop, cond, Bool}
use Rattle.std.specs.Int.{w16, w32, w64, to_be_bytes}
use Rattle.std.specs.List.{flat_map, range_with_len}
use Rattle.std.specs.Option.{unwrap_or, option_map_or}
use Rattle.ode_value.specs.declared.change.Added.{Added}
use Rattle.ode_value.specs.declared.class.Class.{Class}
use Rattle.ode_value.specs.declared.statement.Sort.{Sort}
use Rattle.ode_value.specs.declared.statement.Sort.TheVariants as sort
use Rattle.ode_value.specs.declared.value.Value.{Value}
use Rattle.ode_value.specs.Changing.{added_to}
use Rattle.ode_value.specs.Fields.{fields_of}
use Rattle.ode_value.specs.Lengths.{piece_count}
use Rattle.ode_value.specs.Objects.{Activation}
use Rattle.ode_value.specs.Pasts.{Kept}
use Rattle.ode_value.specs.PrintedClasses.{decl_text}
use Rattle.ode_value.specs.Records.{Row, byte, clock_bytes, counted, spelled_value, stamp_bytes, version_row}
use Rattle.ode_value.specs.Keys.{key, counters_key, class_head_key, class_piece_key, table_head_kind, table_piece_kind, object_key, activation_key, added_key, entry_key}
use Rattle.ode_value.specs.Tables.{Table}
use Rattle.ode_value.specs.Worlds.{Declared, Entry, Object, Bones, World, class_named, kept_at}
use Rattle.ode_value.specs.Limits.{value_limit}
use Rattle.ode_codec.specs.declared.record.TheConstants.{BOOL_SORT, INT_SORT, REFERENCE_SORT, TABLE_PLACES, TEXT_SORT}

-- the table of each trigger is known by its class and its place there
pub record Stored : Type 0 where
  pub world : World (Unit {0}) ℕ
  pub tables : ℕ → ℕ → Table

-- ---- numbers and lists as bytes

-- a number of two bytes
abbrev pub u16 : ℕ → List ℕ
u16 n = to_be_bytes w16 n

-- a number of four bytes
abbrev pub u32 : ℕ → List ℕ
u32 n = to_be_bytes w32 n

-- a number of eight bytes
abbrev pub u64 : ℕ → List ℕ
u64 n = to_be_bytes w64 n

-- arguments, behind their count
abbrev pub args_bytes : List Value → List ℕ
args_bytes args = counted args ++ flat_map spelled_value args

-- a truth
abbrev pub bit : Bool → ℕ
bit b = cond b 1 0

-- a table: its states by rows, and its answers
abbrev pub table_bytes : Table → List ℕ
table_bytes t = flat_map u16 t.next ++ map bit t.yes

-- a piece of a text or a table, with its number
abbrev pub piece_of : List ℕ → ℕ → ℕ × List ℕ
piece_of bytes n = (n, take value_limit (drop (n * value_limit) bytes))

-- the pieces, of which all but the last are full
abbrev pub pieces_of : List ℕ → List (ℕ × List ℕ)
pieces_of bytes = map (piece_of bytes) (range_with_len 0 (piece_count (length bytes)))

-- ---- classes

-- the counters
abbrev pub counters_row : Bones → Row
counters_row b = (counters_key, (u64 b.next ++ u64 b.transaction ++ u64 b.next_entry ++ clock_bytes b.clock) ++ stamp_bytes (length b.added))

-- a class's head: its name, its parent, the length of its text, the count of its triggers
abbrev pub head_row : Declared → Row
head_row c = (
  class_head_key c.class.number,
  byte (length c.class.name) ++ c.class.name ++ u32 (unwrap_or c.class.parent 0)
      ++ u32 (length (decl_text c.tree)) ++ u16 (length c.class.triggers),
)

-- a piece of its text
abbrev pub text_row : ℕ → ℕ × List ℕ → Row
text_row class piece = (class_piece_key class piece.0, piece.1)

-- its text
abbrev pub text_rows : Declared → List Row
text_rows c = map (text_row c.class.number) (pieces_of (decl_text c.tree))

-- ---- tables

-- a table's head
abbrev pub table_head : ℕ → ℕ → Table → Row
table_head class place t = (key table_head_kind class place, u16 t.states ++ byte t.symbols)

-- a piece of a table
abbrev pub table_row : ℕ → ℕ → ℕ × List ℕ → Row
table_row class place piece = (key table_piece_kind class (place * TABLE_PLACES + piece.0), piece.1)

-- a table
abbrev pub table_pieces : ℕ → ℕ → Table → List Row
table_pieces class place t = map (table_row class place) (pieces_of (table_bytes t))

-- the places of a class's triggers
abbrev pub places_of : Declared → List ℕ
places_of c = range_with_len 0 (length c.class.triggers)

module _ (tables : ℕ → ℕ → Table) where
  -- the heads of a class's tables
  abbrev pub table_heads : Declared → List Row
  table_heads c = map (λ place. table_head c.class.number place (tables c.class.number place)) (places_of c)

  -- a class's tables
  abbrev pub table_rows : Declared → List Row
  table_rows c = flat_map (λ place. table_pieces c.class.number place (tables c.class.number place)) (places_of c)

-- ---- objects

-- an object
abbrev pub object_row : Object → Row
object_row o = (object_key o.id, u32 o.class ++ u32 o.last)

-- the versions of an object, by the fields of its class
abbrev pub version_rows : List Declared → Object → List Row
version_rows classes o = map (version_row o.id (fields_of classes o.class)) o.versions

-- an activation
abbrev pub activation_row : ℕ → ℕ → Activation → Row
activation_row id state a = (activation_key id a.number, u32 a.class ++ u16 a.trigger ++ u16 state ++ args_bytes a.args)

-- the state number of an activation, by what is kept of its object
abbrev pub state_in : ℕ → Kept (Unit {0}) ℕ → ℕ
state_in number kept = unwrap_or (kept_at number kept.activations) 0

-- the same in a world
abbrev pub state_of : World (Unit {0}) ℕ → ℕ → ℕ → ℕ
state_of w id number = option_map_or (state_in number) (kept_at id w.pasts) 0

-- the activations of an object
abbrev pub activation_rows : World (Unit {0}) ℕ → Object → List Row
activation_rows w o = map (λ (a : Activation). activation_row o.id (state_of w o.id a.number) a) o.activations

-- ---- the queue, and all rows in the order of their keys

-- an entry
abbrev pub entry_row : ℕ × Entry → Row
entry_row (number, e) = (entry_key number, u64 e.object ++ u32 e.class ++ u16 e.trigger ++ byte e.generation ++ args_bytes e.args)

-- ---- added fields

-- a sort as a number
abbrev pub sort_number : Sort → ℕ
sort_number sort.Int = INT_SORT
sort_number sort.Bool = BOOL_SORT
sort_number sort.Text = TEXT_SORT
sort_number (sort.Reference name) = REFERENCE_SORT
sort_number sort.Void = REFERENCE_SORT

-- the number of the class that a sort refers to
abbrev pub referred : List Declared → Sort → ℕ
referred classes (sort.Reference name) = option_map_or (λ (c : Class). c.number) (class_named name classes) 0
referred classes _ = 0

-- an added field
abbrev pub added_row : List Declared → Added → Row
added_row classes a = (
  added_key a.class a.birth,
  byte (length a.name) ++ a.name ++ byte (sort_number a.sort) ++ u32 (referred classes a.sort) ++ spelled_value a.value,
)

-- those of a class
abbrev pub added_rows : Bones → Declared → List Row
added_rows b c = map (added_row b.classes) (added_to c.class.number b.added)

-- all rows, in the order of their keys
abbrev pub rows : Stored → List Row
rows s =
    let b = s.world.bones in
    counters_row b ∷ map head_row b.classes ++ flat_map text_rows b.classes
    ++ flat_map (table_heads s.tables) b.classes ++ flat_map (table_rows s.tables) b.classes
    ++ map object_row b.objects ++ flat_map (version_rows b.classes) b.objects ++ flat_map (activation_rows s.world) b.objects
    ++ map entry_row b.queue ++ flat_map (added_rows b) b.classes
