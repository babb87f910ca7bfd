-- What is built of the classes that records declare.
use Rattle.std.specs.Prelude.{◌≡◌, ◌<◌, ◌^◌, List, length}
use Rattle.std.specs.List.{AllByRecursion, flat_map}
use Rattle.ode_compile.specs.Compiling.{AreCompiled, tree_counts}
use Rattle.ode_compile.specs.declared.compiling.Compiled.{Compiled}
use Rattle.ode_value.specs.declared.class.Class.{Class}
use Rattle.ode_value.specs.declared.member.TriggerDecl.{TriggerDecl}
use Rattle.ode_opening.specs.declared.accepted.Accepted.{Accepted}

-- the triggers of all classes, in order
abbrev pub triggers_of : List Class → List TriggerDecl
triggers_of classes = flat_map (λ (c : Class). c.triggers) classes

-- a class's triggers are counted in two bytes
abbrev pub HasFewTriggers : Class → Type 0
HasFewTriggers c = length c.triggers < 2 ^ 16

-- a class has a table and an alphabet for each of its triggers, and the number of its event's trees
pub record IsBuilt (made : Compiled) : Type 0 where
  pub compiled : AreCompiled made.class.triggers made.tables made.alphabets
  pub counts : made.counts ≡ tree_counts made.class.triggers
  pub few : HasFewTriggers made.class

-- and so have all
pub record AreBuilt (a : Accepted) : Type 0 where
  pub compiled : AreCompiled (triggers_of a.classes) a.tables a.alphabets
  pub counts : a.counts ≡ tree_counts (triggers_of a.classes)
  pub few : AllByRecursion HasFewTriggers a.classes
