-- What a program is: the classes as they were checked, with the tables and the alphabets of their triggers.
use Rattle.std.specs.Prelude.{◌≡◌, ◌<◌, ◌^◌, ◌+◌, ℕ, zero, suc, max, List, [], ◌∷◌, length, reverse, false, Option, Some, None, slice_get, slice_index_or}
use Rattle.std.specs.List.{flat_map}
use Rattle.std.specs.Option.{option_and_then, option_map, option_map_or, unwrap_or}
use denote.Param.Weighed.{most}
use Rattle.ode_value.specs.declared.class.Class.{Class}
use Rattle.ode_value.specs.declared.event.EventExpr.TheVariants as event
use Rattle.ode_value.specs.declared.event.Mode.TheVariants.{Immediate}
use Rattle.ode_value.specs.declared.member.Method.{Method}
use Rattle.ode_value.specs.declared.member.TriggerDecl.{TriggerDecl}
use Rattle.ode_value.specs.declared.statement.Stmt.{Stmt}
use Rattle.ode_value.specs.Classes.{Trigger, own_triggers}
use Rattle.ode_value.specs.Symbols.{Alphabet, alphabet, size_of}
use Rattle.ode_value.specs.Tables.{Table}
use Rattle.ode_types.specs.Families.{class_numbered, upward}
use Rattle.ode_states.specs.Advance.{no_table}
use Rattle.ode_interpreter.specs.declared.firing.Trigger as code

-- The tables of all triggers stand in one list, and their alphabets at the same places of another one. For each class there is the
-- place from which its own triggers' tables follow one another.
pub record Parts : Type 0 where
  pub classes : List Class
  pub tables : List Table
  pub alphabets : List Alphabet
  pub maps : List ℕ

-- a class with its ancestors, the farthest first
abbrev pub family_in : List Class → ℕ → List Class
family_in classes number = reverse (upward number (reverse classes))

-- ---- triggers

-- all that a class has, its ancestors' first
abbrev pub triggers_in : List Class → ℕ → List Trigger
triggers_in classes number = flat_map own_triggers (family_in classes number)

-- a trigger by the class that declares it and its place there
abbrev pub trigger_under : List Class → ℕ → ℕ → Option TriggerDecl
trigger_under classes class place = option_and_then (λ (c : Class). slice_get c.triggers place) (class_numbered classes class)

-- what stands for a trigger where there is none
abbrev pub no_trigger : TriggerDecl
no_trigger = record {
  name = [];
  initial = false;
  perpetual = false;
  whole = false;
  mode = Immediate;
  params = [];
  event = event.Any;
  action = [];
}

-- the trigger itself
abbrev pub trigger_of : List Class → ℕ → ℕ → TriggerDecl
trigger_of classes class place = unwrap_or (trigger_under classes class place) no_trigger

-- a trigger of the machine by its class and place alone
abbrev pub named_by_place : Trigger → code.Trigger
named_by_place t = record { class = t.class; place = t.place }

-- ---- tables

-- the place of the first table of a class; no class has number 0
abbrev pub first_place : List ℕ → ℕ → Option ℕ
first_place maps zero = None
first_place maps (suc n) = slice_get maps n

-- the place of a trigger's table and alphabet
abbrev pub table_place : List ℕ → ℕ → ℕ → Option ℕ
table_place maps class place = option_map (λ first. first + place) (first_place maps class)

-- for each class the place of its first table, from a place on, where they follow one another
abbrev pub places_from : ℕ → List Class → List ℕ
places_from at [] = []
places_from at (c ∷ cs) = at ∷ places_from (at + length c.triggers) cs

-- how many triggers classes declare
abbrev pub trigger_count : List Class → ℕ
trigger_count classes = length (flat_map (λ (c : Class). c.triggers) classes)

-- a trigger's table
abbrev pub table_by : List Table → List ℕ → ℕ → ℕ → Table
table_by tables maps class place = option_map_or (λ n. slice_index_or tables n no_table) (table_place maps class place) no_table

-- a trigger has a table and the alphabet of its event at its place, with the same number of symbols
pub record IsFit (p : Parts) (class place : ℕ) (t : TriggerDecl) : Type 0 where
  pub at : ℕ
  pub is : table_place p.maps class place ≡ Some at
  pub small : at < 2 ^ 32
  pub table : Table
  pub has_table : slice_get p.tables at ≡ Some table
  pub has_alphabet : slice_get p.alphabets at ≡ Some (alphabet t.event)
  pub symbols : table.symbols ≡ size_of (alphabet t.event)

-- each trigger of each class does
abbrev pub AreFit : Parts → Type 0
AreFit p = (class place : ℕ) (t : TriggerDecl) → trigger_under p.classes class place ≡ Some t → IsFit p class place t

-- the tables of all triggers follow one another, each class has the place of its first one, and each table has an alphabet
pub record AreAligned (p : Parts) : Type 0 where
  pub places : p.maps ≡ places_from 0 p.classes
  pub tables : length p.tables ≡ trigger_count p.classes
  pub alphabets : length p.alphabets ≡ length p.tables

-- ---- bodies

-- the most that a measure of statements comes to in the bodies of a class
abbrev pub tallest : (Stmt → ℕ) → Class → ℕ
tallest size c = max (most (λ (m : Method). most size m.body) c.methods) (most (λ (t : TriggerDecl). most size t.action) c.triggers)

-- and in those of all classes
abbrev pub longest : (Stmt → ℕ) → List Class → ℕ
longest size classes = most (tallest size) classes
