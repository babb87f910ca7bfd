-- Records that hold classes, in the words of what is stored.
use Rattle.std.specs.Prelude.{◌≡◌, ◌<◌, ◌^◌, ℕ, List, [], ◌++◌, map, length}
use Rattle.std.specs.List.{AllByRecursion, flat_map}
use Rattle.std.specs.Option.{unwrap_or}
use Rattle.ode_codec.specs.Standing.{HasTables}
use Rattle.ode_codec.specs.StoredRows.{added_row, head_row, table_heads, table_rows, text_rows}
use Rattle.ode_codec.specs.declared.record.Record.{Record}
use Rattle.ode_codec.specs.declared.record.Record.TheVariants as of
use Rattle.ode_keep.specs.Entries.{Entries}
use Rattle.ode_language.specs.Languages.{ode}
use Rattle.ode_opening_tables.specs.Tables.{all_triggers}
use Rattle.ode_passes.specs.Walking.{within}
use Rattle.ode_value.specs.Changing.{added_to}
use Rattle.ode_value.specs.Classes.{Trigger}
use Rattle.ode_value.specs.GoodWorlds.{AreAdded, AreClasses}
use Rattle.ode_value.specs.Keys.{added_kind, class_head_kind, table_piece_kind}
use Rattle.ode_value.specs.PrintedClasses.{decl_text}
use Rattle.ode_value.specs.Records.{Row}
use Rattle.ode_value.specs.Tables.{Table}
use Rattle.ode_value.specs.Worlds.{Declared}
use Rattle.ode_value.specs.declared.change.Added.{Added}
use Rattle.ode_value.specs.declared.class.Class.{Class}

abbrev pub class_of : Declared → Class
class_of d = d.class

-- the head of a class
abbrev pub head_of : Declared → Record
head_of d = of.ClassHead d.class.number d.class.name (unwrap_or d.class.parent 0) (length (decl_text d.tree)) (length d.class.triggers)

-- the records of classes and of the tables of their triggers
abbrev pub class_rows : (ℕ → ℕ → Table) → List Declared → List Row
class_rows tables ds = map head_row ds ++ flat_map text_rows ds ++ flat_map (table_heads tables) ds ++ flat_map (table_rows tables) ds

-- the tables of all triggers, in order
abbrev pub stored_tables : (ℕ → ℕ → Table) → List Declared → List Table
stored_tables tables ds = map (λ (t : Trigger). tables t.class t.place) (all_triggers (map class_of ds))

-- the fields that were added to a class
abbrev pub own_rows : List Declared → List Added → Declared → List Row
own_rows classes added d = map (added_row classes) (added_to d.class.number added)

-- The records of classes and tables are those of these classes with these tables and no others; each class is accepted after the earlier
-- ones with its added fields, which have the records of their kind alone, and each trigger's table means its event.
pub record HoldClasses (entries : Entries) (tables : ℕ → ℕ → Table) (added : List Added) (ds : List Declared) : Type 0 where
  pub rows : within class_head_kind table_piece_kind entries ≡ class_rows tables ds
  pub fields : within added_kind added_kind entries ≡ flat_map (own_rows ds added) ds
  pub classes : AreClasses ode added [] ds
  pub born : AreAdded ds 1 added
  pub few : length added < 2 ^ 32
  pub mean : AllByRecursion (HasTables tables) ds
