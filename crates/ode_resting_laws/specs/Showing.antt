-- What was opened of records, beside the world that they hold.
use Rattle.std.specs.Prelude.{◌≡◌, map}
use Rattle.ode_heap_laws.specs.Few.{HoldsCounted}
use Rattle.ode_keep.specs.Entries.{Entries}
use Rattle.ode_language.specs.Languages.{ode}
use Rattle.ode_opened_laws.specs.WorldBases.{class_of}
pub use Rattle.ode_opened_laws.specs.WorldBases.{FitsFirst, world_base}
use Rattle.ode_opening_records.specs.declared.base.Base.{Base}
use Rattle.ode_schema.specs.Parts.{table_by}
use Rattle.ode_value.specs.Language.{ListWorld}
use Rattle.ode_value.specs.Weights.{weight}

-- The records hold this world, with the tables that were opened and with parts that a record can count in each class. What was opened are
-- the world's classes and its weight.
pub record IsShown (records : Entries) (w : ListWorld) (opened : Base) : Type 0 where
  pub world : HoldsCounted ode records w
  pub tables : world.world.stored.tables ≡ table_by opened.tables opened.maps
  pub classes : opened.classes ≡ map class_of world.world.stored.world.bones.classes
  pub bytes : opened.bytes ≡ weight world.world.stored.world.bones
