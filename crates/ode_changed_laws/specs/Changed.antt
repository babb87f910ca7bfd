-- What the transaction of a change leaves.
use Rattle.std.specs.Prelude.{◌≡◌, ℕ, List, ◌++◌}
use Rattle.ode_settled_laws.specs.Holding.{IsHeldBy}
use Rattle.ode_value.specs.declared.change.Change.{Change}
use Rattle.ode_value.specs.Changing.{changed_bones}
use Rattle.ode_value.specs.GoodWorlds.{IsGood}
use Rattle.ode_value.specs.Language.{Language, ListWorld}
use Rattle.ode_value.specs.Objects.{Histories, Starts}
use Rattle.ode_value.specs.Records.{Row}
use Rattle.ode_value.specs.Settling.{Settled}
use Rattle.ode_value.specs.Tables.{Table}
use Rattle.ode_value.specs.Texts.{changed_line, committed_line}
use Rattle.ode_value.specs.Weights.{weight}
use Rattle.ode_value.specs.Worlds.{Declared}

-- A settled change printed the class's line and its own. It left a world with these classes, which weighs as much as the first one with the
-- new fields; and where that is good, these records hold it by these tables.
pub record ChangedOver (l : Language) (tables : ℕ → ℕ → Table) (records : List Row) (w : ListWorld) (c : Change) (all : List Declared) (s : Settled Histories Starts) : Type 0 where
  pub prints : s.1 ≡ changed_line c.class ++ committed_line w.bones.transaction
  pub classes : s.0.bones.classes ≡ all
  pub weighs : weight s.0.bones ≡ weight (changed_bones w.bones c all)
  pub holds : IsGood l s.0 → IsHeldBy l tables records s.0
