-- What is seen of objects through the overlay.
use Rattle.std.specs.Prelude.{◌≡◌, ℕ, zero, suc, ◌+◌, ◌^◌, List, [], ◌∷◌, ◌++◌, Bool, true, false, cond, nat_le, nat_lt, ◌==◌, ◌&&◌, Option, Some, None, Result, Ok, Err}
use Rattle.std.specs.List.{slice_get}
use Rattle.ode_keep.specs.Entries.{Entries}
use Rattle.ode_overlay.specs.Answers.{Answer, ◌>>=◌, from_records}
use Rattle.ode_overlay.specs.Layers.{Layer, tracked_at}
use Rattle.ode_objects.specs.Heap.{ObjectHead, object_in}
use Rattle.ode_objects.specs.Loading.{actives_in, class_in, fields_in}
use Rattle.ode_objects.specs.Objects.{head_of, values_of, version_of}
use Rattle.ode_overlay.specs.declared.error.OverlayError.{OverlayError}
use Rattle.ode_overlay.specs.declared.error.OverlayError.TheVariants.{Damaged, NoObject, NoVersion}
use Rattle.ode_objects.specs.declared.object.Active.{Active}
use Rattle.ode_objects.specs.declared.object.Object.{Object}
use Rattle.ode_objects.specs.declared.tracked.Tracked.{Tracked}
use Rattle.ode_objects.specs.declared.object.Version.{Version}
use Rattle.ode_types.specs.declared.running.Running.{Running}
use Rattle.ode_value.specs.Keys.{activation_key, object_key}
use Rattle.ode_value.specs.declared.class.Class.{Class}
use Rattle.ode_value.specs.declared.arithmetic.Fault.{Fault}
use Rattle.ode_value.specs.declared.arithmetic.Fault.TheVariants as fault
use Rattle.ode_value.specs.declared.value.Ref.{Ref}
use Rattle.ode_value.specs.declared.value.Value.{Value}
use Rattle.ode_versions.specs.Versions.{found}
use Rattle.ode_versions.specs.declared.list.Version.{Version as Listed}

-- what is there, or else this
abbrev pub or_else : {A : Type 0} → OverlayError → Option A → Answer A
or_else why None = Err why
or_else why (Some a) = Ok a

-- ---- heads

-- numbers that rise above one, and the last of all at least each
abbrev pub rise_above : ℕ → ℕ → List Listed → Bool
rise_above last low [] = true
rise_above last low (v ∷ vs) = nat_lt low v.number && (nat_le v.number last && rise_above last v.number vs)

abbrev pub is_rising : ℕ → List Listed → Bool
is_rising last [] = false
is_rising last (v ∷ vs) = nat_le v.number last && rise_above last v.number vs

-- the versions of a head are those of an object
abbrev pub sound : ℕ → ObjectHead → Answer ObjectHead
sound id h = cond (is_rising h.versions.last h.versions.versions) (Ok h) (Err (Damaged (object_key id)))

abbrev pub shown : ℕ → Option ObjectHead → Answer (Option ObjectHead)
shown id None = Ok None
shown id (Some h) = sound id h >>= λ h. Ok (Some h)

abbrev pub head_now : Object → Option ObjectHead
head_now o = cond o.live (Some (head_of o)) None

abbrev pub head_at : Entries → ℕ → Option Tracked → Answer (Option ObjectHead)
head_at base id (Some t) = Ok (head_now t.current)
head_at base id None = from_records (object_in base id)

abbrev pub shown_below : Entries → ℕ → Answer (Option ObjectHead)
shown_below base id = from_records (object_in base id) >>= shown id

-- an object that is there
unfoldable pub object : Entries → ℕ → Layer → Answer (Option ObjectHead)
object base id x = head_at base id (tracked_at id x) >>= shown id

-- ---- fields

-- a field; where there is no such slot, it is read as null is
abbrev pub field_of : ℕ → List Value → Answer Value
field_of slot fields = or_else (NoObject 0) (slice_get fields slot)

abbrev pub if_live : Object → Option Object
if_live o = cond o.live (Some o) None

-- of an object that is tracked
abbrev pub field_in : ℕ → Version → Answer Value
field_in slot v = field_of slot (values_of v.fields)

unfoldable pub read_now : Ref → ℕ → Object → Answer Value
read_now r slot o = do
  o ← or_else (NoObject r.object) (if_live o)
  v ← or_else (NoVersion r) (version_of r.version o.versions)
  field_in slot v

-- of one that isn't
unfoldable pub read_below : List Class → Entries → Ref → ℕ → Answer Value
read_below classes base r slot = do
  head ← from_records (object_in base r.object)
  head ← or_else (NoObject r.object) head
  head ← sound r.object head
  number ← or_else (NoVersion r) (found r.version head.versions)
  class ← from_records (class_in classes r.object head.class)
  fields ← from_records (fields_in base r.object number class)
  field_of slot fields

abbrev pub read_at : List Class → Entries → Ref → ℕ → Option Tracked → Answer Value
read_at classes base r slot (Some t) = read_now r slot t.current
read_at classes base r slot None = read_below classes base r slot

-- null has no object
abbrev pub not_null : Ref → Answer (Unit {0})
not_null r = cond (r.object == 0) (Err (NoObject 0)) (Ok tt)

-- a value that is read is that of an expression, and where it is refused, the expression has the same fault; no record is damaged
abbrev pub ReadsAs : {V : Type 0} → Answer V → Result V Fault → Type 0
ReadsAs (Ok v) meant = meant ≡ Ok v
ReadsAs (Err (NoObject id)) meant = meant ≡ Err (fault.NoObject id)
ReadsAs (Err (NoVersion r)) meant = meant ≡ Err (fault.NoVersion r)
ReadsAs (Err why) meant = ⊥

-- a field of the version that a reference denotes
unfoldable pub read : List Class → Entries → Ref → ℕ → Layer → Answer Value
read classes base r slot x = not_null r >>= λ _. read_at classes base r slot (tracked_at r.object x)

-- ---- activations

-- the place of a trigger's table: the class's, and the trigger's from there
abbrev pub in_u32 : ℕ → Option ℕ
in_u32 n = cond (nat_lt n (2 ^ 32)) (Some n) None

abbrev pub place_from : ℕ → Option ℕ → Option ℕ
place_from trigger None = None
place_from trigger (Some first) = in_u32 (first + trigger)

abbrev pub map_of : List ℕ → ℕ → Option ℕ
map_of maps zero = None
map_of maps (suc n) = slice_get maps n

abbrev pub running_by : Active → ℕ → Running
running_by a table = record { id = a.number; class = a.class; trigger = a.trigger; args = a.args; state = a.state; on = a.on; table = table }

abbrev pub running_of : List ℕ → ℕ → Active → Answer Running
running_of maps id a = or_else (Damaged (activation_key id a.number)) (place_from a.trigger (map_of maps a.class)) >>= λ table. Ok (running_by a table)

-- behind these
abbrev pub running_from : List ℕ → ℕ → List Running → List Active → Answer (List Running)
running_from maps id done [] = Ok done
running_from maps id done (a ∷ more) = running_of maps id a >>= λ r. running_from maps id (done ++ r ∷ []) more

abbrev pub actives_at : List Class → Entries → ℕ → Option Tracked → Answer (List Active)
actives_at classes base id (Some t) = Ok t.current.activations
actives_at classes base id None = from_records (actives_in classes base id)

-- all activations of an object, those that are off and those of a removed object among them
unfoldable pub acts : List Class → Entries → ℕ → List ℕ → Layer → Answer (List Running)
acts classes base id maps x = actives_at classes base id (tracked_at id x) >>= running_from maps id []
