-- The numbers of a world's bones tell its parts apart.
use Rattle.std.specs.Prelude.{ℕ, ◌<◌, map}
use Rattle.std.specs.List.{AllByRecursion}
use Rattle.ode_value.specs.GoodWorlds.{RiseFrom}
use Rattle.ode_value.specs.Objects.{Activation}
use Rattle.ode_value.specs.Worlds.{Declared, Object, Bones}

-- an object's number and those of its activations were drawn, and these rise
pub record HasNumbers (next : ℕ) (o : Object) : Type 0 where
  pub drawn : o.id < next
  pub rising : RiseFrom 0 (map (λ (a : Activation). a.number) o.activations)
  pub activations : AllByRecursion (λ (a : Activation). a.number < next) o.activations

-- the numbers of classes and of objects rise, and those of objects and activations were drawn
pub record AreNumbered (b : Bones) : Type 0 where
  pub classes : RiseFrom 0 (map (λ (d : Declared). d.class.number) b.classes)
  pub rising : RiseFrom 0 (map (λ (o : Object). o.id) b.objects)
  pub objects : AllByRecursion (HasNumbers b.next) b.objects
