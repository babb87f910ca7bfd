-- A class that is declared over records, and what its transaction leaves.
use Rattle.std.specs.Prelude.{◌≡◌, ◌≤◌, ℕ, List, [], ◌∷◌, ◌++◌}
use Rattle.ode_class_laws.specs.Declaring.{bones_with}
use Rattle.ode_compile.specs.Compiling.{AreCompiled}
use Rattle.ode_heap_laws.specs.Few.{HasFewParts}
use Rattle.ode_settled_laws.specs.Holding.{IsHeldBy}
use Rattle.ode_value.specs.GoodWorlds.{IsClass, IsGood}
use Rattle.ode_value.specs.Language.{Language, ListWorld}
use Rattle.ode_value.specs.Limits.{weight_limit}
use Rattle.ode_value.specs.Objects.{Histories, Starts}
use Rattle.ode_value.specs.Records.{Row}
use Rattle.ode_value.specs.Settling.{Settled}
use Rattle.ode_value.specs.Symbols.{Alphabet}
use Rattle.ode_value.specs.Tables.{Table}
use Rattle.ode_value.specs.Texts.{class_line, committed_line}
use Rattle.ode_value.specs.Weights.{weight}
use Rattle.ode_value.specs.Worlds.{Declared}

-- a class that is accepted behind those of a world, and compiled, with parts that a record can count and room for its records
pub record IsDeclared (l : Language) (w : ListWorld) (c : Declared) (own : List Table) (alphabets : List Alphabet) : Type 0 where
  pub is : IsClass l w.bones.added w.bones.classes c
  pub compiled : AreCompiled c.class.triggers own alphabets
  pub few : HasFewParts c
  pub light : weight (bones_with c w.bones) ≤ weight_limit

-- A settled declaration printed the class's line and its own. It left a world that has the class behind the others, and weighs as much as the
-- first one with the class; and where that is good, these records hold it by these tables.
pub record DeclaredOver (l : Language) (tables : ℕ → ℕ → Table) (records : List Row) (w : ListWorld) (c : Declared) (s : Settled Histories Starts) : Type 0 where
  pub prints : s.1 ≡ class_line c.class.name ++ committed_line w.bones.transaction
  pub classes : s.0.bones.classes ≡ w.bones.classes ++ c ∷ []
  pub weighs : weight s.0.bones ≡ weight (bones_with c w.bones)
  pub holds : IsGood l s.0 → IsHeldBy l tables records s.0
