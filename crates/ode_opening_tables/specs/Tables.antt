-- The tables of the triggers of classes, as records have them; or the first trigger that has none.
use Rattle.std.specs.Prelude.{◌≡◌, ◌<◌, ◌^◌, ◌+◌, ◌-◌, ℕ, List, ◌∷◌, ◌++◌, map, Some, Ok, Err}
use Rattle.std.specs.List.{AllByRecursion, AllZip, flat_map}
use Rattle.ode_codec.specs.StoredRows.{table_head, table_pieces}
use Rattle.ode_keep.specs.Entries.{Entries, value_under}
use Rattle.ode_opening.specs.Building.{triggers_of}
use Rattle.ode_passes.specs.Rules.{Ruled}
use Rattle.ode_passes.specs.declared.cause.Cause.{Cause}
use Rattle.ode_passes.specs.declared.cause.Cause.TheVariants as cause
use Rattle.ode_schema.specs.Parts as parts
use Rattle.ode_table.specs.Whole.{IsWhole}
use Rattle.ode_value.specs.Classes.{Trigger, own_triggers}
use Rattle.ode_value.specs.Lengths.{trigger_length}
use Rattle.ode_value.specs.Records.{Row}
use Rattle.ode_value.specs.Symbols.{Alphabet, alphabet}
use Rattle.ode_value.specs.Tables.{Means, Table}
use Rattle.ode_value.specs.Weights.{trigger_weight}
use Rattle.ode_value.specs.declared.class.Class.{Class}
use Rattle.ode_value.specs.declared.member.TriggerDecl.{TriggerDecl}

-- ---- the table of a trigger

-- a record stands among these
abbrev pub IsAmong : Entries → Row → Type 0
IsAmong entries r = value_under entries r.0 ≡ Some r.1

-- the records of a table: its head, and its pieces
abbrev pub rows_of : ℕ → ℕ → Table → List Row
rows_of class place t = table_head class place t ∷ table_pieces class place t

-- A table is stored under a class and a place there: its states are counted in two bytes and its symbols in one, and its records are there.
pub record IsStored (entries : Entries) (class place : ℕ) (t : Table) : Type 0 where
  pub states : t.states < 2 ^ 16
  pub symbols : t.symbols < 2 ^ 8
  pub rows : AllByRecursion (IsAmong entries) (rows_of class place t)

-- A trigger has this table: it is stored, its parts fit each other, and it means the trigger's event, as the one does that is built: it has
-- as many symbols, and answers alike on every word that isn't empty.
pub record HasTable (entries : Entries) (t : Trigger) (table : Table) : Type 0 where
  pub stored : IsStored entries t.class t.place table
  pub whole : IsWhole table
  pub means : Means table t.decl.event

-- ---- all triggers

abbrev pub all_triggers : List Class → List Trigger
all_triggers classes = flat_map own_triggers classes

-- the alphabet of each
abbrev pub alphabets_of : List Class → List Alphabet
alphabets_of classes = map (λ (t : TriggerDecl). alphabet t.event) (triggers_of classes)

-- for each class the place of its first table, from a place on
abbrev pub places_from : ℕ → List Class → List ℕ
places_from at classes = parts.places_from at classes

-- a trigger has no table, and each one before it has its own
pub record LackTable (entries : Entries) (triggers : List Trigger) (why : Cause) : Type 0 where
  pub before : List Trigger
  pub trigger : Trigger
  pub behind : List Trigger
  pub are : triggers ≡ before ++ trigger ∷ behind
  pub tables : List Table
  pub have : AllZip (HasTable entries) before tables
  pub lacks : (table : Table) → HasTable entries trigger table → ⊥
  pub is : why ≡ cause.Table trigger.class trigger.place

-- what the rule on tables comes to: each trigger has its table, or one is the first that has none
abbrev pub TablesIn : Entries → List Trigger → Ruled (List Table) → Type 0
TablesIn entries triggers (Ok tables) = AllZip (HasTable entries) triggers tables
TablesIn entries triggers (Err why) = LackTable entries triggers why

-- ---- what tables weigh

-- the bytes that the records of a table would take more if it had as many states as its event has trees
abbrev pub spare_of : TriggerDecl → Table → ℕ
spare_of t table = trigger_weight t - trigger_length table.states table.symbols

-- those of all
abbrev pub spare_in : List TriggerDecl → List Table → ℕ
spare_in (t ∷ ts) (table ∷ tables) = spare_of t table + spare_in ts tables
spare_in _ _ = 0
