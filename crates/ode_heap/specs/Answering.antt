-- What a stored database gives: a world with state numbers, whose records are kept.
use Rattle.std.specs.Prelude.{◌≡◌, ◌<◌, ◌^◌, ℕ, List, [], map, length, true, pos, nat_le, Option}
use Rattle.std.specs.List.{AllByRecursion, find}
use Rattle.std.specs.Option.{IfSome, is_some, option_and_then, option_map, option_map_or, unwrap_or}
use Rattle.ode_codec.specs.Rules.{IsRecord}
use Rattle.ode_codec.specs.StoredRows.{Stored, state_of}
use Rattle.ode_codec.specs.declared.record.Activation.{Activation}
use Rattle.ode_codec.specs.declared.record.Counters.{Counters}
use Rattle.ode_codec.specs.declared.record.Entry.{Entry}
use Rattle.ode_codec.specs.declared.record.Record.{Record}
use Rattle.ode_codec.specs.declared.record.Record.TheVariants as of
use Rattle.ode_heap.specs.Activations.{fits}
use Rattle.ode_heap.specs.Looking.{fit_fields}
use Rattle.ode_heap.specs.declared.fields.Stamped.{Stamped}
use Rattle.ode_heap.specs.declared.object.ObjectHead.{ObjectHead}
use Rattle.ode_value.specs.Denoting.{object_numbered}
use Rattle.ode_value.specs.Fields.{HasLiterals, born_values, fields_of}
use Rattle.ode_value.specs.GoodWorlds.{RiseFrom}
use Rattle.ode_value.specs.Objects as objects
use Rattle.ode_value.specs.Versions.{Version, version_numbered}
use Rattle.ode_value.specs.Worlds.{Bones, Declared, Object, Position, World}
use Rattle.ode_value.specs.Worlds as worlds
use Rattle.ode_value.specs.declared.class.Class.{Class}
use Rattle.ode_value.specs.declared.class.Field.{Field}
use Rattle.ode_value.specs.declared.value.Value.{Value}
use Rattle.ode_versions.specs.Versions.{listed}

-- ---- the records of its parts

abbrev pub counters_of : Bones → Counters
counters_of b = record {
  next_number = b.next;
  next_transaction = b.transaction;
  next_entry = b.next_entry;
  clock_set = is_some b.clock;
  instant = option_map_or (λ (p : Position). p.instant) b.clock (pos 0);
  object = option_map_or (λ (p : Position). p.object) b.clock 0;
  place = option_map_or (λ (p : Position). p.place) b.clock 0;
  added = length b.added;
}

-- an object's class, and its versions without their fields
abbrev pub head_of_object : Object → ObjectHead
head_of_object o = record { class = o.class; versions = record { versions = map listed o.versions; last = o.last } }

-- a version, by the fields of its class
abbrev pub version_record : ℕ → List Field → Version → Record
version_record id fields v = of.Version id v.number (unwrap_or v.parent 0) v.stamp (born_values v.stamp fields v.fields)

-- its fields, with its stamp
abbrev pub stamped_of : Version → Stamped
stamped_of v = record { stamp = v.stamp; fields = v.fields }

-- an activation with its state number
abbrev pub with_state : World (Unit {0}) ℕ → ℕ → objects.Activation → Activation
with_state w id a = record { object = id; number = a.number; class = a.class; trigger = a.trigger; state = state_of w id a.number; args = a.args }

abbrev pub activations_with_states : World (Unit {0}) ℕ → Object → List Activation
activations_with_states w o = map (with_state w o.id) o.activations

abbrev pub entry_of : worlds.Entry → Entry
entry_of e = record { object = e.object; class = e.class; trigger = e.trigger; generation = e.generation; args = e.args }

abbrev pub class_of : Declared → Class
class_of d = d.class

-- ---- which databases can be read

-- a version has a spelling, and no parent of number 0, by the fields of its class
pub record IsReadableVersion (id : ℕ) (fields : List Field) (v : Version) : Type 0 where
  pub spells : IsRecord (version_record id fields v)
  pub parent : IfSome v.parent (λ p. 0 < p)

-- an activation has a spelling, and fits its trigger
pub record IsReadableActivation (w : World (Unit {0}) ℕ) (id : ℕ) (a : objects.Activation) : Type 0 where
  pub spells : IsRecord (of.Activation (with_state w id a))
  pub fits : fits (map class_of w.bones.classes) (with_state w id a) ≡ true

-- an object, its versions and its activations
pub record IsReadableObject (w : World (Unit {0}) ℕ) (o : Object) : Type 0 where
  pub spells : IsRecord (of.Object o.id o.class o.last)
  pub versions : AllByRecursion (IsReadableVersion o.id (fields_of w.bones.classes o.class)) o.versions
  pub rising : RiseFrom 0 (map (λ (v : Version). v.number) o.versions)
  pub activations : AllByRecursion (IsReadableActivation w o.id) o.activations

abbrev pub IsReadableEntry : ℕ × worlds.Entry → Type 0
IsReadableEntry q = IsRecord (of.Entry q.0 (entry_of q.1))

-- each record has a spelling, the numbers rise, and the entries can be counted
pub record IsReadable (s : Stored) : Type 0 where
  pub counters : IsRecord (of.Counters (counters_of s.world.bones))
  pub objects : AllByRecursion (IsReadableObject s.world) s.world.bones.objects
  pub rising : RiseFrom 0 (map (λ (o : Object). o.id) s.world.bones.objects)
  pub queue : AllByRecursion IsReadableEntry s.world.bones.queue
  pub rising_queue : RiseFrom 0 (map (λ (q : ℕ × worlds.Entry). q.0) s.world.bones.queue)
  pub few : length s.world.bones.queue < 2 ^ 32

-- ---- what it gives

abbrev pub object_of : Stored → ℕ → Option Object
object_of s id = object_numbered id s.world.bones.objects

-- a version of an object, and its fields
abbrev pub version_of : Stored → ℕ → ℕ → Option Version
version_of s id number = option_and_then (λ (o : Object). version_numbered number o.versions) (object_of s id)

abbrev pub fields_in : Stored → ℕ → ℕ → Option (List Value)
fields_in s id number = option_map (λ (v : Version). v.fields) (version_of s id number)

-- fields of this class fit it, and those that came later than the version are their literals
pub record IsVersionOf (class : Class) (v : Version) : Type 0 where
  pub fit : fit_fields class.fields v.fields ≡ true
  pub later : HasLiterals v.stamp class.fields v.fields

-- the object of a number is of this class, and so is its version of a number, where they are there
pub record IsOfClass (s : Stored) (id number : ℕ) (class : Class) : Type 0 where
  pub object : IfSome (object_of s id) (λ (o : Object). fields_of s.world.bones.classes o.class ≡ class.fields)
  pub version : IfSome (version_of s id number) (IsVersionOf class)

-- the activations of an object, where it is there
abbrev pub activations_of : Stored → ℕ → List Activation
activations_of s id = option_map_or (activations_with_states s.world) (object_of s id) []

-- the number of the first object at or above one
abbrev pub next_object : Stored → ℕ → Option ℕ
next_object s id = option_map (λ (o : Object). o.id) (find (λ (o : Object). nat_le id o.id) s.world.bones.objects)

-- the first entry at or above a number
abbrev pub next_entry : Stored → ℕ → Option (ℕ × Entry)
next_entry s number =
    option_map (λ (q : ℕ × worlds.Entry). (q.0, entry_of q.1)) (find (λ (q : ℕ × worlds.Entry). nat_le number q.0) s.world.bones.queue)
