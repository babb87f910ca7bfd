-- An object as a transaction has it, and what changes make of it.
use Rattle.std.specs.Prelude.{ℕ, ◌+◌, ◌-◌, List, [], ◌∷◌, ◌++◌, map, length, Bool, true, false, cond, ◌==◌, ◌&&◌, Option, Some, None}
use Rattle.std.specs.List.{find, position, remove, slice_get, slice_set}
use Rattle.ode_objects.specs.declared.object.Active.{Active}
use Rattle.ode_objects.specs.declared.object.Fields.{Fields}
use Rattle.ode_objects.specs.declared.object.Fields.TheVariants.{Read, Written}
use Rattle.ode_objects.specs.declared.object.Object.{Object}
use Rattle.ode_objects.specs.declared.object.Version.{Version}
use Rattle.ode_heap.specs.declared.object.ObjectHead.{ObjectHead}
use Rattle.ode_types.specs.declared.running.Running.{Running}
use Rattle.ode_value.specs.Keys.{activation_key, object_key, version_key}
use Rattle.ode_value.specs.declared.key.Key.{Key}
use Rattle.ode_value.specs.declared.value.Value.{Value}
use Rattle.ode_versions.specs.declared.list.Version.{Version as Listed}
use Rattle.ode_versions.specs.declared.list.VersionList.{VersionList}

-- ---- lists

-- without the member at a place, if there is that place
abbrev pub without_at : {X : Type 0} → Option ℕ → List X → List X
without_at None xs = xs
without_at (Some at) xs = remove xs at

-- ---- versions

abbrev pub values_of : Fields → List Value
values_of (Read stamp values) = values
values_of (Written kept) = kept.1

abbrev pub stamp_of : Fields → ℕ
stamp_of (Read stamp values) = stamp
stamp_of (Written kept) = kept.0

abbrev pub is_numbered : ℕ → Version → Bool
is_numbered number v = v.number == number

-- the version of this number, or the newest, which is the last, where none is named
abbrev pub last_of : List Version → Option Version
last_of versions = slice_get versions (length versions - 1)

abbrev pub version_of : Option ℕ → List Version → Option Version
version_of None versions = last_of versions
version_of (Some number) versions = find (is_numbered number) versions

-- without their fields
abbrev pub listed : Version → Listed
listed v = record { number = v.number; parent = v.parent }

abbrev pub listed_in : Object → VersionList
listed_in o = record { versions = map listed o.versions; last = o.last }

abbrev pub head_of : Object → ObjectHead
head_of o = record { class = o.class; versions = listed_in o }

-- the number of the version that one was derived from
abbrev pub parent_of : Option Version → Option ℕ
parent_of None = None
parent_of (Some v) = v.parent

-- the version of this number at a place has these fields
abbrev pub written_at : Option ℕ → ℕ → ℕ × List Value → List Version → List Version
written_at None number fields versions = versions
written_at (Some at) number fields versions =
    slice_set versions at (record { number = number; parent = parent_of (slice_get versions at); fields = Written fields })

-- the first of a number has
abbrev pub written : ℕ → ℕ × List Value → Object → Object
written number fields o = record o { versions = written_at (position (is_numbered number) o.versions) number fields o.versions }

-- a new version, derived from one of this number, with these fields
abbrev pub derived : ℕ → ℕ × List Value → Object → Object
derived from fields o = record o {
  last = o.last + 1;
  versions = o.versions ++ record { number = o.last + 1; parent = Some from; fields = Written fields } ∷ [];
}

-- without the first version of a number
abbrev pub without : ℕ → Object → Object
without number o = record o { versions = without_at (position (is_numbered number) o.versions) o.versions }

-- ---- activations

-- a new one is on, at the start of its table
abbrev pub new_active : ℕ → ℕ → ℕ → List Value → Active
new_active number class trigger args = record { number = number; class = class; trigger = trigger; args = args; state = 0; on = true }

-- with one more
abbrev pub activated : Active → Object → Object
activated a o = record o { activations = o.activations ++ a ∷ [] }

abbrev pub has_number : ℕ → Active → Bool
has_number number a = a.number == number

-- one of a number that is on
abbrev pub is_on : ℕ → Active → Bool
is_on number a = has_number number a && a.on

-- the one of a number is off
abbrev pub turned_off : ℕ → Active → Active
turned_off number a = cond (has_number number a) (record a { on = false }) a

abbrev pub switched_off : ℕ → Object → Object
switched_off number o = record o { activations = map (turned_off number) o.activations }

-- activations take over states and whether they are on, one from each
abbrev pub taken_by : Running → Active → Active
taken_by r a = record a { state = r.state; on = r.on }

abbrev pub taken_over : List Running → List Active → List Active
taken_over [] more = more
taken_over (r ∷ rs) [] = []
taken_over (r ∷ rs) (a ∷ more) = taken_by r a ∷ taken_over rs more

abbrev pub with_states : List Running → Object → Object
with_states rs o = record o { activations = taken_over rs o.activations }

-- ---- the whole

abbrev pub dead : Object → Object
dead o = record o { live = false }

-- a new object with its first version
abbrev pub made : ℕ → ℕ × List Value → Object
made class fields = record {
  class = class;
  live = true;
  last = 1;
  versions = record { number = 1; parent = None; fields = Written fields } ∷ [];
  activations = [];
}

-- ---- keys

abbrev pub version_keys : ℕ → List Version → List Key
version_keys id versions = map (λ (v : Version). version_key id v.number) versions

abbrev pub activation_keys : ℕ → List Active → List Key
activation_keys id activations = map (λ (a : Active). activation_key id a.number) activations

abbrev pub object_keys : ℕ → Object → List Key
object_keys id o = object_key id ∷ version_keys id o.versions ++ activation_keys id o.activations
