-- What is seen of objects, in the overlay and in the machine.
use Rattle.std.specs.Prelude.{◌≡◌, ℕ, map, true, Some, Result, Ok, Err}
use Rattle.std.specs.List.{AllByRecursion, AllZip}
use Rattle.std.specs.Option.{IsSome, option_map}
use Rattle.ode_heap.specs.Answering.{head_of_object}
use Rattle.ode_heap.specs.Answers.{There}
use Rattle.ode_heap.specs.Looking.{version_in}
use Rattle.ode_heap.specs.Objects.{object_in}
use Rattle.ode_keep.specs.Entries.{Entries}
use Rattle.ode_laws.specs.Alike.{NumberWorld}
use Rattle.ode_overlay.specs.Answers.{Answer, ◌>>=◌}
use Rattle.ode_overlay.specs.Layers.{Layer}
use Rattle.ode_overlay.specs.Reading.{not_null, object, or_else}
use Rattle.ode_overlay.specs.declared.error.OverlayError.TheVariants as error
use Rattle.ode_value.specs.Denoting.{object_numbered}
use Rattle.ode_value.specs.GoodWorlds.{RiseFrom}
use Rattle.ode_value.specs.Objects.{Activation}
use Rattle.ode_value.specs.Pasts.{Kept}
use Rattle.ode_value.specs.Versions.{Version, version_numbered}
use Rattle.ode_value.specs.Worlds.{Object, class_numbered, kept_at}
use Rattle.ode_value.specs.declared.arithmetic.Fault.{Fault}
use Rattle.ode_value.specs.declared.class.Class.{Class}
use Rattle.ode_value.specs.declared.value.Ref.{Ref}
use Rattle.ode_versions.specs.Versions.{found}

-- records show a world: its objects without fields, and the fields of each version
pub record Shows (base : Entries) (w : NumberWorld) : Type 0 where
  pub object : (id : ℕ) → object_in base id ≡ There (option_map head_of_object (object_numbered id w.bones.objects))
  pub version : (id number : ℕ) (o : Object) (class : Class) → object_numbered id w.bones.objects ≡ Some o → class_numbered o.class w.bones.classes ≡ Some class
      → version_in base id number class ≡ There (option_map (λ (v : Version). v.fields) (version_numbered number o.versions))

-- An object as it is between transactions: it is live, its class is declared, its activations are on and have rising numbers, and what is
-- kept of it is kept of these.
pub record IsSettled (w : NumberWorld) (id : ℕ) (o : Object) : Type 0 where
  pub live : o.live ≡ true
  pub class : IsSome (class_numbered o.class w.bones.classes)
  pub rising : RiseFrom 0 (map (λ (a : Activation). a.number) o.activations)
  pub on : AllByRecursion (λ (a : Activation). a.on ≡ true) o.activations
  pub past : Kept (Unit {0}) ℕ
  pub kept : kept_at id w.pasts ≡ Some past
  pub numbers : AllZip (λ (a : Activation) (row : ℕ × ℕ). row.0 ≡ a.number) o.activations past.activations

-- so is the object of a number, where there is one
abbrev pub IsSettledAt : NumberWorld → ℕ → Type 0
IsSettledAt w id = (o : Object) → object_numbered id w.bones.objects ≡ Some o → IsSettled w id o

-- so is each object
abbrev pub AreSettled : NumberWorld → Type 0
AreSettled w = (id : ℕ) → IsSettledAt w id

-- the number of the version that a reference denotes, by the object's head
abbrev pub number_seen : Entries → Ref → Layer → Answer ℕ
number_seen base r x = do
  _ ← not_null r
  head ← object base r.object x
  head ← or_else (error.NoObject r.object) head
  or_else (error.NoVersion r) (found r.version head.versions)

-- and by the version
abbrev pub number_in : Result Version Fault → Result ℕ Fault
number_in (Ok v) = Ok v.number
number_in (Err why) = Err why
