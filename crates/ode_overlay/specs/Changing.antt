-- What the changes of a transaction answer and leave.
use Rattle.std.specs.Prelude.{ℕ, ◌+◌, List, [], ◌∷◌, length, Bool, true, false, cond, nat_lt, Option, Some, None, Ok, Err}
use Rattle.std.specs.BTreeMap.{insert_entry, is_at}
use Rattle.std.specs.List.{list_any, slice_set}
use Rattle.std.specs.Map.{lookup}
use Rattle.std.specs.Option.{option_map}
use Rattle.std.specs.Ordering.{nat_cmp}
use Rattle.ode_keep.specs.Entries.{Entries}
use Rattle.ode_overlay.specs.Answers.{Answer, ◌>>=◌, from_records}
use Rattle.ode_overlay.specs.Layers.{Layer, drawing, holding, is_touched, touching, tracked_at}
use Rattle.ode_objects.specs.Loading.{whole_in}
use Rattle.ode_objects.specs.Objects.{activated, activation_keys, dead, derived, is_on, made, new_active, object_keys, switched_off, values_of, version_of, with_states, without, written}
use Rattle.ode_objects.specs.Tracked.{changed_to, made_object, read_object}
use Rattle.ode_objects.specs.Values.{are_args, are_fields}
use Rattle.ode_overlay.specs.Reading.{not_null, or_else}
use Rattle.ode_overlay.specs.declared.error.OverlayError.{OverlayError}
use Rattle.ode_overlay.specs.declared.error.OverlayError.TheVariants.{LastVersion, NoNumber, NoObject, NoVersion, TooLong}
use Rattle.ode_objects.specs.declared.object.Object.{Object}
use Rattle.ode_objects.specs.declared.tracked.Tracked.{Tracked}
use Rattle.ode_objects.specs.declared.object.Version.{Version}
use Rattle.ode_value.specs.Keys.{activation_key, object_key, version_key}
use Rattle.ode_value.specs.Limits.{number_limit, version_limit}
use Rattle.ode_value.specs.declared.class.Class.{Class}
use Rattle.ode_value.specs.declared.key.Key.{Key}
use Rattle.ode_value.specs.declared.value.Ref.{Ref}
use Rattle.ode_value.specs.declared.value.Value.{Value}
use Rattle.ode_types.specs.declared.running.Running.{Running}

-- ---- objects

-- what the records have of an object that isn't tracked
abbrev pub fresh_at : List Class → Entries → ℕ → Option Tracked → Answer (Option Tracked)
fresh_at classes base id (Some t) = Ok None
fresh_at classes base id None = from_records (whole_in classes base id) >>= λ o. Ok (option_map read_object o)

unfoldable pub fresh : List Class → Entries → ℕ → Layer → Answer (Option Tracked)
fresh classes base id x = fresh_at classes base id (tracked_at id x)

-- the one that is fresh, or else the one that is tracked
abbrev pub either : Option Tracked → Option Tracked → Option Tracked
either (Some t) tracked = Some t
either None tracked = tracked

abbrev pub object_of : Option Tracked → ℕ → Layer → Option Tracked
object_of new id x = either new (tracked_at id x)

abbrev pub live_of : ℕ → Option Tracked → Answer Object
live_of id None = Err (NoObject id)
live_of id (Some t) = cond t.current.live (Ok t.current) (Err (NoObject id))

-- the object where it is there
abbrev pub live : Option Tracked → ℕ → Layer → Answer Object
live new id x = live_of id (object_of new id x)

-- ---- what a change asks for

abbrev pub needs : OverlayError → Bool → Answer (Unit {0})
needs why true = Ok tt
needs why false = Err why

-- an object is this from now on; one that isn't there is made
abbrev pub now_tracked : Object → Option Tracked → Tracked
now_tracked now None = made_object now
now_tracked now (Some t) = changed_to now t

abbrev pub put_now : ℕ → Option Tracked → Object → List (ℕ × Tracked) → List (ℕ × Tracked)
put_now id new now objects = insert_entry nat_cmp objects id (now_tracked now (either new (lookup (is_at (nat_cmp id)) objects)))

-- and these are the keys
abbrev pub with_now : ℕ → Option Tracked → Object → List Key → Layer → Layer
with_now id new now keys x = record x { objects = put_now id new now x.objects; keys = keys }

-- one that is fresh is tracked from now on
abbrev pub put_new : ℕ → Option Tracked → List (ℕ × Tracked) → List (ℕ × Tracked)
put_new id None objects = objects
put_new id (Some t) objects = insert_entry nat_cmp objects id t

-- ---- versions

abbrev pub denoted_in : Ref → Object → Answer Version
denoted_in r o = or_else (NoVersion r) (version_of r.version o.versions)

-- fields with a stamp, and with that of what is made or set now, where a record can hold them
abbrev pub kept_as : ℕ → List Value → Answer (ℕ × List Value)
kept_as stamp fields = needs TooLong (are_fields stamp fields) >>= λ _. Ok (stamp, fields)

abbrev pub kept_now : Layer → List Value → Answer (ℕ × List Value)
kept_now x = kept_as x.first.added

-- the fields of a version with a value in a slot, if it has the slot
unfoldable pub fields_with : ℕ → Value → Version → Layer → Answer (ℕ × List Value)
fields_with slot value v x = kept_now x (slice_set (values_of v.fields) slot value)

-- a field of the version that a reference denotes is set
unfoldable pub write_with : Option Tracked → Ref → ℕ → Value → Layer → Answer (Unit {0} × Layer)
write_with new r slot value x = do
  o ← live new r.object x
  v ← denoted_in r o
  fields ← fields_with slot value v x
  keys ← holding (version_key r.object v.number ∷ []) x
  Ok (tt, with_now r.object new (written v.number fields o) keys x)

unfoldable pub write : List Class → Entries → Ref → ℕ → Value → Layer → Answer (Unit {0} × Layer)
write classes base r slot value x = do
  _ ← not_null r
  new ← fresh classes base r.object x
  write_with new r slot value x

-- a new version of an object, derived from the one that a reference denotes
abbrev pub new_version : Ref → Object → Ref
new_version r o = record { object = r.object; version = Some (o.last + 1) }

unfoldable pub derive_with : Option Tracked → Ref → Layer → Answer (Ref × Layer)
derive_with new r x = do
  o ← live new r.object x
  v ← denoted_in r o
  fields ← kept_now x (values_of v.fields)
  keys ← holding (object_key r.object ∷ version_key r.object (o.last + 1) ∷ []) x
  _ ← needs NoNumber (nat_lt o.last version_limit)
  Ok (new_version r o, with_now r.object new (derived v.number fields o) keys x)

unfoldable pub derive : List Class → Entries → Ref → Layer → Answer (Ref × Layer)
derive classes base r x = do
  _ ← not_null r
  new ← fresh classes base r.object x
  derive_with new r x

-- the version that a reference denotes is removed, where it isn't the only one
unfoldable pub drop_with : Option Tracked → Ref → Layer → Answer (Unit {0} × Layer)
drop_with new r x = do
  o ← live new r.object x
  v ← denoted_in r o
  _ ← needs (LastVersion r.object) (nat_lt 1 (length o.versions))
  keys ← holding (version_key r.object v.number ∷ []) x
  Ok (tt, with_now r.object new (without v.number o) keys x)

unfoldable pub drop_version : List Class → Entries → Ref → Layer → Answer (Unit {0} × Layer)
drop_version classes base r x = do
  _ ← not_null r
  new ← fresh classes base r.object x
  drop_with new r x

-- ---- objects that are touched, made and removed

-- the first touch of an object
abbrev pub touched_with : Option Tracked → List Key → ℕ → Layer → Layer
touched_with new keys id x = touching id (record x { objects = put_new id new x.objects; keys = keys })

abbrev pub touch_first : Option Tracked → ℕ → Object → Layer → Answer (Bool × Layer)
touch_first new id o x = holding (activation_keys id o.activations) x >>= λ keys. Ok (true, touched_with new keys id x)

unfoldable pub touch_with : Option Tracked → ℕ → Layer → Answer (Bool × Layer)
touch_with new id x = do
  o ← live new id x
  cond (is_touched id x) (Ok (false, x)) (touch_first new id o x)

unfoldable pub touch : List Class → Entries → ℕ → Layer → Answer (Bool × Layer)
touch classes base id x = fresh classes base id x >>= λ new. touch_with new id x

-- a number is left for an object or an activation
abbrev pub next_number : Layer → Answer ℕ
next_number x = cond (nat_lt x.next number_limit) (Ok x.next) (Err NoNumber)

-- what a call that draws a number leaves at an error: it found none left, or nothing changed
abbrev pub left_by : OverlayError → Layer → Layer
left_by NoNumber x = drawing x
left_by why x = x

-- a new object with its first version, which counts as touched
abbrev pub created : ℕ → ℕ × List Value → List Key → Layer → Layer
created class fields keys x = touching x.next (record (with_now x.next None (made class fields) keys (drawing x)) { next = x.next + 1 })

unfoldable pub create : ℕ → List Value → Layer → Answer (ℕ × Layer)
create class fields x = do
  kept ← kept_now x fields
  keys ← holding (object_key x.next ∷ version_key x.next 1 ∷ []) x
  id ← next_number x
  Ok (id, created class kept keys x)

-- an object is removed
unfoldable pub remove_with : Option Tracked → ℕ → Layer → Answer (Unit {0} × Layer)
remove_with new id x = do
  o ← live new id x
  keys ← holding (object_keys id o) x
  Ok (tt, with_now id new (dead o) keys x)

unfoldable pub remove : List Class → Entries → ℕ → Layer → Answer (Unit {0} × Layer)
remove classes base id x = fresh classes base id x >>= λ new. remove_with new id x

-- ---- activations

abbrev pub next_drawn : Layer → Layer
next_drawn x = record (drawing x) { next = x.next + 1 }

-- a new activation of an object
unfoldable pub activate_with : Option Tracked → ℕ → ℕ → ℕ → List Value → Layer → Answer (ℕ × Layer)
activate_with new id class trigger args x = do
  o ← live new id x
  _ ← needs TooLong (are_args args)
  keys ← holding (activation_key id x.next ∷ []) x
  number ← next_number x
  Ok (number, next_drawn (with_now id new (activated (new_active number class trigger args) o) keys x))

unfoldable pub activate : List Class → Entries → ℕ → ℕ → ℕ → List Value → Layer → Answer (ℕ × Layer)
activate classes base id class trigger args x = fresh classes base id x >>= λ new. activate_with new id class trigger args x

-- an activation of an object goes off, where there is one of the number that is on
abbrev pub switch_off : Option Tracked → ℕ → ℕ → Object → Layer → Answer (Unit {0} × Layer)
switch_off new id number o x = holding (activation_key id number ∷ []) x >>= λ keys. Ok (tt, with_now id new (switched_off number o) keys x)

unfoldable pub deactivate_with : Option Tracked → ℕ → ℕ → Layer → Answer (Unit {0} × Layer)
deactivate_with new id number x = do
  o ← live new id x
  cond (list_any (is_on number) o.activations) (switch_off new id number o x) (Ok (tt, x))

unfoldable pub deactivate : List Class → Entries → ℕ → ℕ → Layer → Answer (Unit {0} × Layer)
deactivate classes base id number x = fresh classes base id x >>= λ new. deactivate_with new id number x

-- the activations of an object take over states, and whether they are on
abbrev pub put_of : Option Tracked → ℕ → List Running → Option Tracked → Layer → Answer (Unit {0} × Layer)
put_of new id rs None x = Ok (tt, x)
put_of new id rs (Some t) x = holding (activation_keys id t.current.activations) x >>= λ keys. Ok (tt, with_now id new (with_states rs t.current) keys x)

unfoldable pub put_with : Option Tracked → ℕ → List Running → Layer → Answer (Unit {0} × Layer)
put_with new id rs x = put_of new id rs (object_of new id x) x

unfoldable pub put_acts : List Class → Entries → ℕ → List Running → Layer → Answer (Unit {0} × Layer)
put_acts classes base id rs x = fresh classes base id x >>= λ new. put_with new id rs x
