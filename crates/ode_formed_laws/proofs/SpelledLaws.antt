-- What becomes of an object's record is what the object's value is.
use Rattle.std.proofs.Common.{◌≡◌, inl, inr, ℕ, List, [], Bool, true, false, cond, Option, Some, None, refl, sym, ap, subst, ◌∙◌, append_assoc}
use Rattle.std.specs.List.{find}
use Rattle.std.specs.Option.{option_and_then, option_map, unwrap_or}
use Rattle.ode_codec.specs.Spelling.{value_of}
use Rattle.ode_codec.specs.StoredRows.{activation_row, object_row}
use Rattle.ode_codec.specs.declared.record.Record.TheVariants as of
use Rattle.ode_objects.specs.Objects.{has_number, is_numbered, stamp_of}
use Rattle.ode_objects.specs.Records.{active_record, activation_by, fields_record, object_becomes, part_record, version_record}
use Rattle.ode_objects.specs.declared.object.Active.{Active}
use Rattle.ode_objects.specs.declared.object.Fields.{Fields}
use Rattle.ode_objects.specs.declared.object.Fields.TheVariants.{Read, Written}
use Rattle.ode_objects.specs.declared.object.Object.{Object}
use Rattle.ode_objects.specs.declared.object.Version.{Version}
use Rattle.ode_objects.specs.declared.records.Becomes.TheVariants.{Goes, Is}
use Rattle.ode_overlay.specs.After.{value_after}
use Rattle.ode_overlay_laws.specs.Standing.{active_as}
use Rattle.ode_settling_laws.specs.Formed.{IsOwn, active_value, object_value, stored_values, value_in, version_value}
use Rattle.ode_value.specs.Fields.{fields_of}
use Rattle.ode_value.specs.Keys.{activation_key, object_key, version_key}
use Rattle.ode_value.specs.Records.{version_bytes}
use Rattle.ode_value.specs.Worlds.{Declared}
use Rattle.ode_value.specs.declared.class.Field.{Field}
use Rattle.ode_value.specs.declared.key.Key.{Key}
use Rattle.ode_value.specs.declared.value.Value.{Value}

abbrev pub Bytes : Type 0
Bytes = Option (List ℕ)

-- ---- an object's own record

pub spells_object : (classes : List Declared) (id : ℕ) (o : Object) (v : Bytes) → value_after (object_becomes (object_key id) o) v ≡ value_in classes (object_key id) o
unfolding part_record value_of
spells_object classes id o v = by_live o.live where
  by_live : (b : Bool) → value_after (cond b (part_record (object_key id) o) Goes) v ≡ cond b (Some (object_value id o)) None
  by_live true = refl
  by_live false = refl

-- ---- those of versions

-- the one of a number has fields that were written, or isn't there
abbrev pub IsWritten : Option Version → Type 0
IsWritten None = Unit {0}
IsWritten (Some v) = (stamp : ℕ) (values : List Value) → (v.fields ≡ Read stamp values) → ⊥

version_spelled : (id : ℕ) (fields : List Field) (v : Version) (f : Fields) → v.fields ≡ f → (below : Bytes) → ((stamp : ℕ) (values : List Value) → f ≡ Read stamp values → below ≡ Some (version_value fields v))
    → value_after (fields_record id v f) below ≡ Some (version_value fields v)
unfolding value_of
version_spelled id fields v (Read stamp values) is below read = read stamp values refl
version_spelled id fields v (Written kept) is below read = ap (λ (f : Fields). Some (version_bytes (unwrap_or v.parent 0) (stamp_of f) (stored_values fields f))) (sym is)

by_version : (id : ℕ) (fields : List Field) (f : Option Version) (below : Bytes)
    → ((v : Version) (stamp : ℕ) (values : List Value) → f ≡ Some v → v.fields ≡ Read stamp values → below ≡ Some (version_value fields v))
    → value_after (version_record id f) below ≡ option_map (version_value fields) f
by_version id fields None below read = refl
by_version id fields (Some v) below read = version_spelled id fields v v.fields refl below (λ stamp values is. read v stamp values refl is)

module _ (classes : List Declared) (id n : ℕ) (o : Object) (below : Bytes) where
  abbrev its_fields : List Field
  its_fields = fields_of classes o.class

  abbrev found : Option Version
  found = find (is_numbered n) o.versions

  live_version : (b : Bool) → value_after (version_record id found) below ≡ option_map (version_value its_fields) found
      → value_after (cond b (part_record (version_key id n) o) Goes) below ≡ cond b (option_map (version_value its_fields) found) None
  unfolding part_record
  live_version true is = is
  live_version false is = refl

  pub spells_written : IsWritten found → value_after (object_becomes (version_key id n) o) below ≡ value_in classes (version_key id n) o
  spells_written written = live_version o.live (by_version id its_fields found below (none found written)) where
    none : (f : Option Version) → IsWritten f → (v : Version) (stamp : ℕ) (values : List Value) → f ≡ Some v → v.fields ≡ Read stamp values → below ≡ Some (version_value its_fields v)
    none None w v stamp values is read = absurd (cc)
    none (Some u) w v stamp values is read = let same : u ≡ v = cc in absurd (w stamp values (ap (λ (t : Version). t.fields) same ∙ read))

  live_value : (b : Bool) → below ≡ cond b (option_map (version_value its_fields) found) None
      → value_after (cond b (part_record (version_key id n) o) Goes) below ≡ cond b (option_map (version_value its_fields) found) None
  live_value true is = live_version true (by_version id its_fields found below (λ v stamp values there read. is ∙ ap (option_map (version_value its_fields)) there))
  live_value false is = refl

-- ---- those of activations

active_spelled : (id : ℕ) (a : Active) → value_of (of.Activation (activation_by id a)) ≡ (activation_row id a.state (active_as a)).1
unfolding value_of
active_spelled id a = simp append_assoc

by_on : (id : ℕ) (a : Active) (b : Bool) (below : Bytes) → value_after (cond b (Is (of.Activation (activation_by id a))) Goes) below ≡ cond b (Some (activation_row id a.state (active_as a)).1) None
by_on id a true below = ap (λ (bytes : List ℕ). Some bytes) (active_spelled id a)
by_on id a false below = refl

by_active : (id : ℕ) (f : Option Active) (below : Bytes) → value_after (active_record id f) below ≡ option_and_then (active_value id) f
by_active id None below = refl
by_active id (Some a) below = by_on id a a.on below

pub spells_active : (classes : List Declared) (id n : ℕ) (o : Object) (below : Bytes) → value_after (object_becomes (activation_key id n) o) below ≡ value_in classes (activation_key id n) o
unfolding part_record
spells_active classes id n o below = by_live o.live where
  by_live : (b : Bool) → value_after (cond b (part_record (activation_key id n) o) Goes) below ≡ cond b (option_and_then (active_value id) (find (has_number n) o.activations)) None
  by_live true = by_active id (find (has_number n) o.activations) below
  by_live false = refl

-- ---- any key of the object

-- under each key where the value stood already
pub spells_again : (classes : List Declared) (q : Key) (o : Object) (below : Bytes) → IsOwn q → below ≡ value_in classes q o → value_after (object_becomes q o) below ≡ value_in classes q o
spells_again classes q o below (inl e) is = subst (λ k. value_after (object_becomes k o) below ≡ value_in classes k o) (sym e) (spells_object classes q.a o below)
spells_again classes q o below (inr (inl e)) is =
    subst (λ k. value_after (object_becomes k o) below ≡ value_in classes k o) (sym e) (live_value classes q.a q.b o below o.live (is ∙ ap (λ k. value_in classes k o) e))
spells_again classes q o below (inr (inr e)) is = subst (λ k. value_after (object_becomes k o) below ≡ value_in classes k o) (sym e) (spells_active classes q.a q.b o below)

-- ---- objects that have the same

pub same_object : (classes : List Declared) (id : ℕ) (o was : Object) → o.live ≡ was.live → o.class ≡ was.class → o.last ≡ was.last
    → (object_becomes (object_key id) o ≡ object_becomes (object_key id) was) × (value_in classes (object_key id) o ≡ value_in classes (object_key id) was)
unfolding part_record
same_object classes id o was live class last = (
  λ i. cond (live i) (Is (of.Object id (class i) (last i))) Goes,
  λ i. cond (live i) (Some (object_row (record { id = id; class = class i; live = live i; last = last i; versions = []; activations = [] })).1) None,
)

pub same_version : (classes : List Declared) (id n : ℕ) (o was : Object) → o.live ≡ was.live → o.class ≡ was.class → find (is_numbered n) o.versions ≡ find (is_numbered n) was.versions
    → (object_becomes (version_key id n) o ≡ object_becomes (version_key id n) was) × (value_in classes (version_key id n) o ≡ value_in classes (version_key id n) was)
unfolding part_record
same_version classes id n o was live class found = (
  λ i. cond (live i) (version_record id (found i)) Goes,
  λ i. cond (live i) (option_map (version_value (fields_of classes (class i))) (found i)) None,
)

pub same_active : (classes : List Declared) (id n : ℕ) (o was : Object) → o.live ≡ was.live → find (has_number n) o.activations ≡ find (has_number n) was.activations
    → (object_becomes (activation_key id n) o ≡ object_becomes (activation_key id n) was) × (value_in classes (activation_key id n) o ≡ value_in classes (activation_key id n) was)
unfolding part_record
same_active classes id n o was live found = (λ i. cond (live i) (active_record id (found i)) Goes, λ i. cond (live i) (option_and_then (active_value id) (found i)) None)
