-- What a reference denotes in a world (Agrawal and Gehani, SIGMOD 1989).
use Rattle.std.specs.Prelude.{ℕ, List, [], ◌∷◌, cond, ◌==◌, Option, Some, None, Result, Err}
use Rattle.std.specs.Option.{option_and_then, ok_or}
use Rattle.ode_value.specs.declared.arithmetic.Fault.{Fault}
use Rattle.ode_value.specs.declared.arithmetic.Fault.TheVariants.{NoObject, NoVersion}
use Rattle.ode_value.specs.declared.value.Ref.{Ref}
use Rattle.ode_value.specs.Versions.{Version, version_of}
use Rattle.ode_value.specs.Worlds.{Object, Bones}

-- the object of this number, whether it is live or not
abbrev pub object_numbered : ℕ → List Object → Option Object
object_numbered id [] = None
object_numbered id (o ∷ os) = cond (o.id == id) (Some o) (object_numbered id os)

-- an object, where it is live
abbrev pub if_live : Object → Option Object
if_live o = cond o.live (Some o) None

-- the live object of this number
abbrev pub object_at : Bones → ℕ → Option Object
object_at b id = option_and_then if_live (object_numbered id b.objects)

-- the object behind a reference; null has none
abbrev pub object_of : Bones → Ref → Option Object
object_of b r = cond (r.object == 0) None (object_at b r.object)

-- the version that a reference denotes: the named one, or the newest where none is named
abbrev pub denotes : Bones → Ref → Option Version
denotes b r = option_and_then (λ (o : Object). version_of r.version o.versions) (object_of b r)

-- the version in the object behind a reference, or why there is none
abbrev pub version_in : Ref → Option Object → Result Version Fault
version_in r None = Err (NoObject r.object)
version_in r (Some o) = ok_or (version_of r.version o.versions) (NoVersion r)

-- the version that a reference denotes, or why it denotes none
abbrev pub denoted : Bones → Ref → Result Version Fault
denoted b r = version_in r (object_of b r)
