-- What a change of a class finds in the records of a world.
use Rattle.std.specs.Prelude.{◌≡◌, List}
use Rattle.std.specs.List.{flat_map}
use Rattle.ode_codec.specs.declared.record.Counters.{Counters}
use Rattle.ode_heap.specs.Answering.{counters_of}
use Rattle.ode_machine.specs.Refusals.{trees_in}
use Rattle.ode_value.specs.declared.change.Added.{Added}
use Rattle.ode_value.specs.declared.statement.ClassDecl.{ClassDecl}
use Rattle.ode_value.specs.Changing.{added_to}
use Rattle.ode_value.specs.Worlds.{Bones, Declared}

-- the fields that were added, class by class and by their births
abbrev pub class_by_class : Bones → List Added
class_by_class b = flat_map (λ (d : Declared). added_to d.class.number b.added) b.classes

-- its counters, its classes as they were declared, and its added fields
pub record IsKnown (b : Bones) (known : Counters) (decls : List ClassDecl) (fields : List Added) : Type 0 where
  pub counters : known ≡ counters_of b
  pub trees : decls ≡ trees_in b
  pub added : fields ≡ class_by_class b
