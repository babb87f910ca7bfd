-- What is known of the version that a reference denotes, before a call of the overlay.
use Rattle.std.specs.Prelude.{◌≡◌, ◌<◌, ◌≤◌, ℕ, List, map, length, Option, Some, Ok}
use Rattle.std.specs.List.{AllByRecursion}
use Rattle.ode_keep.specs.Entries.{Entries}
use Rattle.ode_laws.specs.Alike.{NumberTx}
use Rattle.ode_objects.specs.declared.tracked.Tracked.{Tracked}
use Rattle.ode_overlay.specs.Changing.{fresh}
use Rattle.ode_overlay.specs.Layers.{Layer}
use Rattle.ode_overlay_laws.specs.Standing.{IsFresh}
use Rattle.ode_value.specs.Acts.{Act, ◌>>◌, gives, prints}
use Rattle.ode_value.specs.Denoting.{object_numbered}
use Rattle.ode_value.specs.GoodWorlds.{RiseFrom}
use Rattle.ode_value.specs.Texts.{version_line}
use Rattle.ode_value.specs.Versions.{Version}
use Rattle.ode_value.specs.Worlds.{Bones, Object}
use Rattle.ode_value.specs.declared.class.Class.{Class}
use Rattle.ode_value.specs.declared.value.Ref.{Ref}

-- what the records have of an object that isn't tracked is read, and the world now has it
pub record IsRead (classes : List Class) (base : Entries) (x : Layer) (y : NumberTx) (id : ℕ) : Type 0 where
  pub object : Option Tracked
  pub read : fresh classes base id x ≡ Ok object
  pub is : IsFresh x y id object

-- there are versions, their numbers rise, and the last number of all is at least each
pub record HasVersions (o : Object) : Type 0 where
  pub some : 0 < length o.versions
  pub rising : RiseFrom 0 (map (λ (v : Version). v.number) o.versions)
  pub last : AllByRecursion (λ (v : Version). v.number ≤ o.last) o.versions

-- each object has such versions
abbrev pub HaveVersions : Bones → Type 0
HaveVersions b = (id : ℕ) (o : Object) → object_numbered id b.objects ≡ Some o → HasVersions o

-- the object of a number has, where there is one
abbrev pub HasVersionsAt : NumberTx → ℕ → Type 0
HasVersionsAt y id = (o : Object) → object_numbered id y.now.bones.objects ≡ Some o → HasVersions o

-- the line of a new version, and its reference
abbrev pub tells_version : Ref → Act (Unit {0}) ℕ Ref
tells_version r = prints (version_line r) >> gives r
