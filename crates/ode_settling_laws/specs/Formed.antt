-- When the keys that an overlay holds are those of all records that it changes.
use Rattle.std.specs.Prelude.{◌≡◌, ◌⊎◌, ◌==◌, ℕ, List, cond, Option, Some, None}
use Rattle.std.specs.List.{AllByRecursion, find}
use Rattle.std.specs.Option.{option_and_then, option_map, unwrap_or}
use Rattle.ode_codec.specs.StoredRows.{activation_row, object_row}
use Rattle.ode_keep.specs.Entries.{Entries, value_under}
use Rattle.ode_objects.specs.Objects.{has_number, is_numbered, stamp_of}
use Rattle.ode_objects.specs.declared.object.Active.{Active}
use Rattle.ode_objects.specs.declared.object.Fields.{Fields}
use Rattle.ode_objects.specs.declared.object.Fields.TheVariants.{Read, Written}
use Rattle.ode_objects.specs.declared.object.Object.{Object}
use Rattle.ode_objects.specs.declared.object.Version.{Version}
use Rattle.ode_objects.specs.declared.tracked.First.{First}
use Rattle.ode_objects.specs.declared.tracked.First.TheVariants.{Other}
use Rattle.ode_objects.specs.declared.tracked.Tracked.{Tracked}
use Rattle.ode_overlay.specs.After.{held_after}
use Rattle.ode_overlay.specs.Layers.{Layer, tracked_at}
use Rattle.ode_overlay_laws.specs.Standing.{active_as, object_as}
use Rattle.ode_value.specs.Fields.{born_values, fields_of}
use Rattle.ode_value.specs.Keys.{activation_key, activation_kind, object_key, object_kind, version_key, version_kind}
use Rattle.ode_value.specs.Records.{version_bytes}
use Rattle.ode_value.specs.Worlds.{Declared}
use Rattle.ode_value.specs.declared.class.Field.{Field}
use Rattle.ode_value.specs.declared.key.Key.{Key}
use Rattle.ode_value.specs.declared.value.Value.{Value}

-- ---- the values of an object's records

abbrev pub object_value : ℕ → Object → List ℕ
object_value id o = (object_row (object_as id o)).1

-- the values that a version's record has, by the fields of its class: a written one has all, of one that was read those that were there
abbrev pub stored_values : List Field → Fields → List Value
stored_values fields (Written kept) = kept.1
stored_values fields (Read stamp values) = born_values stamp fields values

abbrev pub version_value : List Field → Version → List ℕ
version_value fields v = version_bytes (unwrap_or v.parent 0) (stamp_of v.fields) (stored_values fields v.fields)

-- an activation that is off has no record
abbrev pub active_value : ℕ → Active → Option (List ℕ)
active_value id a = cond a.on (Some (activation_row id a.state (active_as a)).1) None

-- by the kinds of keys
abbrev pub part_value : List Declared → Key → Object → Option (List ℕ)
part_value classes k o =
    cond (k.kind == object_kind) (Some (object_value k.a o))
    (cond (k.kind == version_kind) (option_map (version_value (fields_of classes o.class)) (find (is_numbered k.b) o.versions))
    (cond (k.kind == activation_kind) (option_and_then (active_value k.a) (find (has_number k.b) o.activations)) None))

-- nor has an object that isn't live
abbrev pub value_in : List Declared → Key → Object → Option (List ℕ)
value_in classes k o = cond o.live (part_value classes k o) None

-- ---- the stamps of what was written

-- fields that were written have the newest stamp
abbrev pub IsNewest : ℕ → Fields → Type 0
IsNewest stamp (Written kept) = kept.0 ≡ stamp
IsNewest stamp (Read old values) = Unit {0}

abbrev pub AreNewest : ℕ → Object → Type 0
AreNewest stamp o = AllByRecursion (λ (v : Version). IsNewest stamp v.fields) o.versions

abbrev pub WereNewest : ℕ → First → Type 0
WereNewest stamp (Other o) = AreNewest stamp o
WereNewest stamp _ = Unit {0}

-- of an object as it is, and as it was
abbrev pub HasNewest : ℕ → Tracked → Type 0
HasNewest stamp t = AreNewest stamp t.current × WereNewest stamp t.first

-- ---- the keys that are held

-- the key of an object, of a version or of an activation
abbrev pub IsOwn : Key → Type 0
IsOwn k = (k ≡ object_key k.a) ⊎ ((k ≡ version_key k.a k.b) ⊎ (k ≡ activation_key k.a k.b))

-- Keys of objects, versions and activations are held, and under each such key of a tracked object stands the object's value behind the
-- changes of those that are held, by these classes: so no other record differs. What was written has the newest stamp.
pub record IsFormed (classes : List Declared) (base : Entries) (x : Layer) : Type 0 where
  pub keys : AllByRecursion IsOwn x.keys
  pub each : (id : ℕ) (t : Tracked) (q : Key) → tracked_at id x ≡ Some t → IsOwn q → q.a ≡ id → held_after x q (value_under base q) ≡ value_in classes q t.current
  pub newest : (id : ℕ) (t : Tracked) → tracked_at id x ≡ Some t → HasNewest x.first.added t
