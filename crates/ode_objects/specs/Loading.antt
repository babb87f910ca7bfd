-- What the records have of an object, whole.
use Rattle.std.specs.Prelude.{◌≡◌, ℕ, List, [], ◌∷◌, ◌++◌, true, cond, Option, Some, None, Result, Ok, Err}
use Rattle.ode_codec.specs.declared.record.Activation.{Activation}
use Rattle.ode_heap.specs.Activations.{activations_in}
use Rattle.ode_heap.specs.Answers.{Found, ◌>>=◌}
use Rattle.ode_heap.specs.Answers.{There, Broken}
use Rattle.ode_heap.specs.Looking.{stamped_in, version_in}
use Rattle.ode_heap.specs.Objects.{object_in}
use Rattle.ode_heap.specs.declared.error.HeapError.{HeapError}
use Rattle.ode_heap.specs.declared.error.HeapError.TheVariants.{Memory, DiskFault, TooLarge, Damaged}
use Rattle.ode_heap.specs.declared.fields.Stamped.{Stamped}
use Rattle.ode_heap.specs.declared.object.ObjectHead.{ObjectHead}
use Rattle.ode_keep.specs.Entries.{Entries}
use Rattle.ode_objects.specs.Values.{are_args}
use Rattle.ode_objects.specs.declared.object.Active.{Active}
use Rattle.ode_objects.specs.declared.object.Fields.TheVariants.{Read}
use Rattle.ode_objects.specs.declared.object.Object.{Object}
use Rattle.ode_objects.specs.declared.object.Version.{Version}
use Rattle.ode_types.specs.Families.{class_numbered}
use Rattle.ode_value.specs.Keys.{activation_key, object_key, version_key}
use Rattle.ode_value.specs.declared.class.Class.{Class}
use Rattle.ode_value.specs.declared.key.Key.{Key}
use Rattle.ode_value.specs.declared.value.Value.{Value}
use Rattle.ode_versions.specs.declared.list.Version.{Version as Listed}

-- an answer, seen by view, is what is found
abbrev pub Gives : {X Y : Type 0} → (X → Y) → Result X HeapError → Found Y → Type 0
Gives view (Ok x) found = found ≡ There (view x)
Gives view (Err (Damaged k)) found = found ≡ Broken k
Gives view (Err (TooLarge total)) found = ⊥
Gives view (Err DiskFault) found = Unit {0}
Gives view (Err Memory) found = Unit {0}

-- what has to be there
abbrev pub there_at : {X : Type 0} → Key → Option X → Found X
there_at k None = Broken k
there_at k (Some x) = There x

abbrev pub class_in : List Class → ℕ → ℕ → Found Class
class_in classes id number = there_at (object_key id) (class_numbered classes number)

-- the fields of a version that the object has
abbrev pub fields_in : Entries → ℕ → ℕ → Class → Found (List Value)
fields_in base id number class = version_in base id number class >>= there_at (version_key id number)

-- and with its stamp
abbrev pub stamped_fields : Entries → ℕ → ℕ → Class → Found Stamped
stamped_fields base id number class = stamped_in base id number class >>= there_at (version_key id number)

abbrev pub version_read : Listed → Stamped → Version
version_read v s = record { number = v.number; parent = v.parent; fields = Read s.stamp s.fields }

-- the versions of a list behind these, with their fields
abbrev pub versions_from : Entries → ℕ → Class → List Version → List Listed → Found (List Version)
versions_from base id class done [] = There done
versions_from base id class done (v ∷ vs) = stamped_fields base id v.number class >>= λ s. versions_from base id class (done ++ version_read v s ∷ []) vs

-- an activation, which is on
abbrev pub active_read : Activation → Active
active_read a = record { number = a.number; class = a.class; trigger = a.trigger; args = a.args; state = a.state; on = true }

abbrev pub active_of : Activation → Found Active
active_of a = cond (are_args a.args) (There (active_read a)) (Broken (activation_key a.object a.number))

-- activations behind these
abbrev pub actives_from : List Active → List Activation → Found (List Active)
actives_from done [] = There done
actives_from done (a ∷ more) = active_of a >>= λ b. actives_from (done ++ b ∷ []) more

unfoldable pub actives_in : List Class → Entries → ℕ → Found (List Active)
actives_in classes base id = activations_in base id classes >>= actives_from []

abbrev pub object_read : ObjectHead → List Version → List Active → Object
object_read h versions activations = record { class = h.class; live = true; last = h.versions.last; versions = versions; activations = activations }

-- the object of a head
abbrev pub parts_in : List Class → Entries → ℕ → ObjectHead → Found Object
parts_in classes base id h = do
  class ← class_in classes id h.class
  versions ← versions_from base id class [] h.versions.versions
  activations ← actives_in classes base id
  There (object_read h versions activations)

abbrev pub with_parts : List Class → Entries → ℕ → Option ObjectHead → Found (Option Object)
with_parts classes base id None = There None
with_parts classes base id (Some h) = parts_in classes base id h >>= λ o. There (Some o)

unfoldable pub whole_in : List Class → Entries → ℕ → Found (Option Object)
whole_in classes base id = object_in base id >>= with_parts classes base id
