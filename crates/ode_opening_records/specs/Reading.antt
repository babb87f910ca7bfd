-- What records are opened to: all rules, one behind the other.
use Rattle.std.specs.Prelude.{◌≡◌, ◌+◌, ℕ, Bool, List, Ok}
use Rattle.ode_codec.specs.declared.record.Counters.{Counters}
use Rattle.ode_keep.specs.Entries.{Entries}
use Rattle.ode_opening.specs.Building.{triggers_of}
use Rattle.ode_opening.specs.Classes.{classes_in}
use Rattle.ode_opening_objects.specs.Objects.{objects_keep}
use Rattle.ode_opening_objects.specs.Triggers.{is_reached_in}
use Rattle.ode_opening_tables.specs.Tables.{TablesIn, all_triggers, alphabets_of, places_from, spare_in}
use Rattle.ode_passes.specs.Rules.{Ruled, ◌>>=◌}
use Rattle.ode_passes.specs.Tally.{is_light, tally_in}
use Rattle.ode_schema.specs.Parts.{Parts}
use Rattle.ode_value.specs.Language.{Language}
use Rattle.ode_value.specs.Tables.{Table}
use Rattle.ode_value.specs.declared.class.Class.{Class}
use Rattle.ode_opening_records.specs.declared.base.Base.{Base}

-- Classes with the tables of their triggers; and the bytes of all records but for the queue's entries, where each table counts as if it
-- had as many states as its event has trees.
abbrev pub base_of : List Class → List Table → ℕ → Base
base_of classes tables bytes = record { classes = classes; tables = tables; alphabets = alphabets_of classes; maps = places_from 0 classes; bytes = bytes + spare_in (triggers_of classes) tables }

abbrev pub parts_in : Base → Parts
parts_in b = record { classes = b.classes; tables = b.tables; alphabets = b.alphabets; maps = b.maps }

-- Every record decodes and there are counters, the classes are complete and declared, the tables are what they come to, the objects with
-- their activations and the queue keep their rules, and the bytes are within their limit.
unfoldable pub opened_by : Bool → Language → Ruled (List Table) → Entries → Ruled Base
opened_by first l tables entries = do
  tally ← tally_in first entries
  classes ← classes_in l tally.0.added entries
  own ← tables
  _ ← objects_keep tally.0 (is_reached_in own (places_from 0 classes)) classes entries
  _ ← is_light first tally.1
  Ok (base_of classes own tally.1)

-- Records are opened to this, or to the first rule that they break. What the rule on tables comes to, where it is come to, is no function
-- of them, since it speaks of all words; but it is one thing alone.
pub record AreOpened (first : Bool) (l : Language) (entries : Entries) (opened : Ruled Base) : Type 0 where
  pub tables : Ruled (List Table)
  pub come_to : (tally : Counters × ℕ) (classes : List Class) → tally_in first entries ≡ Ok tally
      → classes_in l tally.0.added entries ≡ Ok classes → TablesIn entries (all_triggers classes) tables
  pub is : opened ≡ opened_by first l tables entries
