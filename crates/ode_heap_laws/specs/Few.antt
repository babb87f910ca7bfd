-- Classes whose versions and activations a record can count.
use Rattle.std.specs.Prelude.{◌<◌, ◌^◌, List, length}
use Rattle.std.specs.List.{AllByRecursion}
use Rattle.ode_codec.specs.Standing.{HoldsWorld}
use Rattle.ode_value.specs.Language.{Language, ListWorld}
use Rattle.ode_value.specs.Records.{Row}
use Rattle.ode_value.specs.Worlds.{Declared}
use Rattle.ode_value.specs.declared.member.TriggerDecl.{TriggerDecl}

-- a trigger's arguments are counted in a byte
abbrev pub HasFewParams : TriggerDecl → Type 0
HasFewParams t = length t.params < 2 ^ 8

-- a class's fields are counted in two bytes, but for a bit
pub record HasFewParts (d : Declared) : Type 0 where
  pub fields : length d.class.fields < 2 ^ 15
  pub params : AllByRecursion HasFewParams d.class.triggers

-- records hold a world whose classes have parts that a record can count
pub record HoldsCounted (l : Language) (records : List Row) (w : ListWorld) : Type 0 where
  pub world : HoldsWorld l records w
  pub few : AllByRecursion HasFewParts w.bones.classes
