-- Worlds whose numbers tell their objects, activations and versions apart, whatever the classes are.
use Rattle.std.specs.Prelude.{◌≡◌, ◌<◌, ◌≤◌, [], map, length, true}
use Rattle.std.specs.List.{AllByRecursion}
use Rattle.ode_value.specs.GoodWorlds.{RiseFrom}
use Rattle.ode_value.specs.Versions.{Version}
use Rattle.ode_value.specs.Worlds.{Object, Bones}
use Rattle.ode_laws.specs.Numbered.{AreNumbered}

-- an object has versions, whose numbers rise up to its last one
pub record HasVersions (o : Object) : Type 0 where
  pub some : 0 < length o.versions
  pub rising : RiseFrom 0 (map (λ (v : Version). v.number) o.versions)
  pub drawn : AllByRecursion (λ (v : Version). v.number ≤ o.last) o.versions

-- all objects are live
abbrev pub AreLive : Bones → Type 0
AreLive b = AllByRecursion (λ (o : Object). o.live ≡ true) b.objects

-- bones without their classes
abbrev pub unclassed : Bones → Bones
unclassed b = record b { classes = [] }

-- between transactions: numbers that rise, versions, and all objects live
pub record IsOrdered (b : Bones) : Type 0 where
  pub numbered : AreNumbered (unclassed b)
  pub versions : AllByRecursion HasVersions b.objects
  pub live : AreLive b
