-- A good world's numbers tell its objects, activations and versions apart, and all its objects are live.
use Rattle.std.proofs.Common.{◌≡◌, ◌≤◌, true, Option, Some, None}
use Rattle.std.specs.List.{AllByRecursion}
use Rattle.std.specs.Option.{IfSome, IsSome}
use Rattle.ode_value.specs.declared.class.Class.{Class}
use Rattle.ode_value.specs.GoodWorlds.{IsVersion, IsObject, IsGood}
use Rattle.ode_value.specs.Language.{Language, ListWorld}
use Rattle.ode_value.specs.Versions.{Version}
use Rattle.ode_value.specs.Worlds.{Object, Bones, class_numbered}
use Rattle.ode_laws.specs.Numbered.{AreNumbered}
use Rattle.ode_laws.proofs.Each.{all-then}
use Rattle.ode_laws.proofs.GoodNumbers.{good_numbered}
use Rattle.ode_run_laws.specs.Orders.{HasVersions, IsOrdered}

drawn_by : (b : Bones) (o : Object) (m : Option Class) → IsSome m → IfSome m (λ c. AllByRecursion (IsVersion b c o.last) o.versions) → AllByRecursion (λ (v : Version). v.number ≤ o.last) o.versions
drawn_by b o None some all = absurd (cc)
drawn_by b o (Some c) some all = all-then (IsVersion b c o.last) (λ (v : Version). v.number ≤ o.last) (λ v is. is.number) o.versions all

object_versions : (b : Bones) (o : Object) → IsObject b o → HasVersions o
object_versions b o is = record { some = is.some; rising = is.rising; drawn = drawn_by b o (class_numbered o.class b.classes) is.class is.versions }

pub good_ordered : (l : Language) (w : ListWorld) → IsGood l w → IsOrdered w.bones
good_ordered l w good =
    let numbered : AreNumbered w.bones = good_numbered l w good in
    record {
      numbered = record { classes = tt; rising = numbered.rising; objects = numbered.objects };
      versions = all-then (IsObject w.bones) HasVersions (object_versions w.bones) w.bones.objects good.bones.objects;
      live = all-then (IsObject w.bones) (λ (o : Object). o.live ≡ true) (λ o is. is.live) w.bones.objects good.bones.objects;
    }
