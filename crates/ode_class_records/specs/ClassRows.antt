-- The rows of one class, by its printed text and the tables of its triggers.
use Rattle.std.specs.Prelude.{◌≡◌, ◌<◌, ℕ, List, ◌∷◌, ◌++◌, length, map}
use Rattle.std.specs.List.{enumerate_from, flat_map}
use Rattle.std.specs.Option.{unwrap_or}
use Rattle.ode_codec.specs.StoredRows.{head_row, pieces_of, places_of, table_bytes, table_head, table_heads, table_pieces, table_row, table_rows, text_row, text_rows, u16, u32}
use Rattle.ode_codec.specs.declared.record.TheConstants.{TABLE_PLACES}
use Rattle.ode_value.specs.Keys.{class_head_key}
use Rattle.ode_value.specs.Lengths.{piece_count, table_length}
use Rattle.ode_value.specs.PrintedClasses.{decl_text}
use Rattle.ode_value.specs.Records.{Row, byte}
use Rattle.ode_value.specs.Tables.{Table}
use Rattle.ode_value.specs.Worlds.{Declared}
use Rattle.ode_value.specs.declared.class.Class.{Class}
use Rattle.ode_class_records.specs.declared.pieces.Parted.{Parted}
use Rattle.ode_class_records.specs.declared.pieces.Parted.TheVariants as parted

-- ---- as they are stored of a declared class

-- all rows of a class, in the order of their keys, by the tables of its triggers
abbrev pub class_rows : (ℕ → ℕ → Table) → Declared → List Row
class_rows tables c = head_row c ∷ text_rows c ++ table_heads tables c ++ table_rows tables c

-- a declared class, the printed text of its tree, and the tables of its triggers in order
pub record IsStoredBy (tables : ℕ → ℕ → Table) (c : Declared) (class : Class) (text : List ℕ) (own : List Table) : Type 0 where
  pub class_is : c.class ≡ class
  pub text_is : decl_text c.tree ≡ text
  pub tables_are : map (tables class.number) (places_of c) ≡ own

-- ---- as they are put, part by part

-- a class's head, by the length of its text and the count of its triggers
abbrev pub class_head : Class → ℕ → ℕ → Row
class_head c text_length triggers =
    (class_head_key c.number, byte (length c.name) ++ c.name ++ u32 (unwrap_or c.parent 0) ++ u32 text_length ++ u16 triggers)

-- a piece with its number
abbrev pub piece_row : ℕ → Parted → ℕ × List ℕ → Row
piece_row class parted.Text piece = text_row class piece
piece_row class (parted.Table trigger) piece = table_row class trigger piece

-- a table's head, and its pieces, by the trigger's place
abbrev pub head_at : ℕ → ℕ × Table → Row
head_at class t = table_head class t.0 t.1

abbrev pub pieces_at : ℕ → ℕ × Table → List Row
pieces_at class t = table_pieces class t.0 t.1

-- all of them
abbrev pub own_rows : Class → List ℕ → List Table → List Row
own_rows c text tables =
    class_head c (length text) (length tables) ∷ map (text_row c.number) (pieces_of text)
    ++ map (head_at c.number) (enumerate_from 0 tables) ++ flat_map (pieces_at c.number) (enumerate_from 0 tables)

-- the bytes of a table are as many as its states and symbols make, and there are numbers for all of their pieces
pub record IsSized (t : Table) : Type 0 where
  pub bytes : length (table_bytes t) ≡ table_length t.states t.symbols
  pub few : piece_count (table_length t.states t.symbols) < TABLE_PLACES
