-- Records that hold a world by known tables, and a transaction that settled over them.
use Rattle.std.specs.Prelude.{◌≡◌, ◌+ℤ◌, ℕ, ℤ, pos, List, ◌++◌}
use Rattle.ode_heap_laws.specs.Few.{HoldsCounted}
use Rattle.ode_value.specs.GoodWorlds.{IsGood}
use Rattle.ode_value.specs.Language.{Language, ListWorld}
use Rattle.ode_value.specs.Objects.{Histories, Starts}
use Rattle.ode_value.specs.Records.{Row}
use Rattle.ode_value.specs.Settling.{Settled}
use Rattle.ode_value.specs.Tables.{Table}
use Rattle.ode_value.specs.Weights.{weight}

-- records hold a world with parts that they can count, by these tables
pub record IsHeldBy (l : Language) (tables : ℕ → ℕ → Table) (records : List Row) (w : ListWorld) : Type 0 where
  pub held : HoldsCounted l records w
  pub by : held.world.stored.tables ≡ tables

-- A settled transaction printed this text with this line behind, and left a world with the classes of the first one. Where that is good, the
-- records hold it, and by so much it weighs more than the first one.
pub record SettledOver (l : Language) (tables : ℕ → ℕ → Table) (v : ListWorld) (grown : ℤ) (records : List Row) (text line : List ℕ) (s : Settled Histories Starts) : Type 0 where
  pub prints : s.1 ≡ text ++ line
  pub classes : s.0.bones.classes ≡ v.bones.classes
  pub holds : IsGood l s.0 → IsHeldBy l tables records s.0
  pub grows : IsGood l s.0 → pos (weight v.bones) +ℤ grown ≡ pos (weight s.0.bones)
