-- What the classes behind a change are.
use Rattle.std.specs.Prelude.{List, []}
use Rattle.std.specs.List.{AllByRecursion}
use Rattle.std.specs.Option.{IsSome}
use Rattle.ode_value.specs.declared.change.Change.{Change}
use Rattle.ode_value.specs.Changing.{changed_bones}
use Rattle.ode_value.specs.GoodWorlds.{AreAdded, AreClasses}
use Rattle.ode_value.specs.Language.{Language}
use Rattle.ode_value.specs.Worlds.{Bones, Declared, class_named}
use Rattle.ode_change_laws.specs.Moves.{AreBehind, AreWatched}

-- The changed class is there; all classes are anew, with the fields that it gets; each activation watches for what it did; and the classes
-- and all added fields are good.
pub record IsBehind (l : Language) (b : Bones) (c : Change) (classes : List Declared) : Type 0 where
  pub named : IsSome (class_named c.class b.classes)
  pub behind : AreBehind b c classes
  pub watched : AllByRecursion (AreWatched b c classes) b.objects
  pub good : AreClasses l (changed_bones b c classes).added [] classes
  pub added : AreAdded classes 1 (changed_bones b c classes).added
