-- What a heap gives of the objects of a stored database.
use Rattle.std.proofs.Common.{◌≡◌, ℕ, ◌<◌, ◌^◌, List, [], ◌∷◌, map, Bool, true, false, cond, Option, Some, None, refl, sym, ap, subst, ◌∙◌, arith}
use Rattle.std.specs.Prelude.{◌==◌}
use Rattle.std.specs.BTreeMap.{is_at}
use Rattle.std.specs.List.{AllByRecursion}
use Rattle.std.specs.Option.{IfSome, option_map, option_map_or, unwrap_or}
use Rattle.std.proofs.lemmas.Bool.Decides.{nat_tests}
use Rattle.ode_codec.specs.Rules.{HasRanges}
use Rattle.ode_codec.specs.Spelling.{key_of, value_of}
use Rattle.ode_codec.specs.StoredRows.{Stored, object_row, rows}
use Rattle.ode_codec.specs.declared.record.Record.{Record}
use Rattle.ode_codec.specs.declared.record.Record.TheVariants as of
use Rattle.ode_keep.specs.Entries.{Entries, value_under}
use Rattle.ode_value.specs.Denoting.{object_numbered}
use Rattle.ode_value.specs.Fields.{fields_of}
use Rattle.ode_value.specs.Keys.{key_cmp, object_key, version_key, version_kind}
use Rattle.ode_value.specs.Records.{version_row}
use Rattle.ode_value.specs.Versions.{Version}
use Rattle.ode_value.specs.Worlds.{Object}
use Rattle.ode_value.specs.declared.class.Field.{Field}
use Rattle.ode_versions.specs.Versions.{listed}
use Rattle.ode_versions.specs.declared.list.Version as short
use Rattle.ode_heap.specs.Answers.{Found, ◌>>=◌}
use Rattle.ode_heap.specs.Answers.{There}
use Rattle.ode_heap.specs.Answering.{IsReadable, IsReadableObject, IsReadableVersion, head_of_object, object_of, version_record}
use Rattle.ode_heap.specs.Looking.{as_version, decoded, looked_up, parent_of}
use Rattle.ode_heap.specs.Objects.{head_of, object_in, versions_in, with_versions}
use Rattle.ode_heap.specs.Walking.{block, collected, is_from, taken}
use Rattle.ode_heap.proofs.Numbered.{numbered_all, numbered_is, one_object}
use Rattle.ode_heap.proofs.OneKind.{collected_of_kind, value_of_kind}
use Rattle.ode_heap.proofs.Reading.{Again, looked, not_looked, reads}
use Rattle.ode_heap.proofs.Sections.{objects_alone, versions_alone}

-- ---- versions

pub version_keyed : (id : ℕ) (fields : List Field) (v : Version) → version_key id v.number ≡ key_of (version_record id fields v)
unfolding key_of
version_keyed id fields v = refl

pub version_spelled : (id : ℕ) (fields : List Field) (v : Version) → (version_row id fields v).1 ≡ value_of (version_record id fields v)
unfolding value_of
version_spelled id fields v = refl

parent_again : (parent : Option ℕ) → IfSome parent (λ p. 0 < p) → parent_of (unwrap_or parent 0) ≡ parent
parent_again None some = refl
parent_again (Some p) some =
    let not_0 : (p == 0) ≡ false = grind (arith, nat_tests) in
    ap (λ b. cond b None (Some p)) not_0

low_number : (id : ℕ) (fields : List Field) (v : Version) → IsReadableVersion id fields v → v.number < 2 ^ 32
unfolding HasRanges
low_number id fields v is = is.spells.ranges.1

in_block : (id n : ℕ) → n < 2 ^ 32 → is_from version_kind id 0 (version_key id n) ≡ true
in_block id n low = grind (arith, nat_tests)

version_taken : Again → (id : ℕ) (fields : List Field) (v : Version) → IsReadableVersion id fields v
    → taken as_version (version_key id v.number) (version_row id fields v).1 ≡ There (listed v)
version_taken again id fields v is =
    ap (λ (f : Found Record). f >>= as_version (version_key id v.number))
    (reads again (version_record id fields v) (version_key id v.number) (version_row id fields v).1 is.spells (version_keyed id fields v) (version_spelled id fields v))
    ∙ ap (λ (p : Option ℕ). There (record { number = v.number; parent = p })) (parent_again v.parent is.parent)

-- the record of a version lies in the block of an object, and is what is listed
abbrev IsTaken : ℕ → ℕ → List Field → Version → Type 0
IsTaken block id fields v =
    (is_from version_kind block 0 (version_row id fields v).0 ≡ true) × (taken as_version (version_row id fields v).0 (version_row id fields v).1 ≡ There (listed v))

each_version : Again → (id : ℕ) (fields : List Field) (vs : List Version) → AllByRecursion (IsReadableVersion id fields) vs → AllByRecursion (IsTaken id id fields) vs
each_version again id fields [] all = tt
each_version again id fields (v ∷ vs) all =
    ((in_block id v.number (low_number id fields v all.0), version_taken again id fields v all.0), each_version again id fields vs all.1)

apart_versions : (id : ℕ) (o : Object) (fields : List Field) (v : Version) → (o.id == id) ≡ false → is_from version_kind id 0 (version_row o.id fields v).0 ≡ false
apart_versions id o fields v apart = grind (arith, nat_tests)

abbrev own_fields : Stored → Object → List Field
own_fields s o = fields_of s.world.bones.classes o.class

pub versions_read : Again → (s : Stored) (id : ℕ) → IsReadable s → versions_in (rows s) id ≡ There (option_map_or (λ (o : Object). map listed o.versions) (object_of s id) [])
unfolding block
versions_read again s id is =
    collected_of_kind short.Version (taken as_version) version_kind id 0 (rows s)
    ∙ ap (collected (is_from version_kind id 0) (taken as_version)) (versions_alone s)
    ∙ one_object short.Version (taken as_version) version_kind id Version (λ (o : Object). o.versions) (λ (o : Object) v. version_row o.id (own_fields s o) v) (λ o v. listed v)
    (λ o v. apart_versions id o (own_fields s o) v) s.world.bones.objects 0 is.rising (each_object s.world.bones.objects is.objects)
  where
    each_object : (os : List Object) → AllByRecursion (IsReadableObject s.world) os → AllByRecursion (λ (o : Object). o.id ≡ id → AllByRecursion (IsTaken id o.id (own_fields s o)) o.versions) os
    each_object [] all = tt
    each_object (o ∷ os) all = (
      λ same. subst (λ (i : ℕ). AllByRecursion (IsTaken i o.id (own_fields s o)) o.versions) same (each_version again o.id (own_fields s o) o.versions all.0.versions),
      each_object os all.1,
    )

-- ---- objects

abbrev object_value : Object → List ℕ
object_value o = (object_row o).1

key_is : (id n : ℕ) (b : Bool) → (n == id) ≡ b → is_at (key_cmp (object_key id)) (object_key n) ≡ b
key_is id n true is = grind (arith, nat_tests)
key_is id n false is = grind (arith, nat_tests)

object_under : (os : List Object) (id : ℕ) → value_under (map object_row os) (object_key id) ≡ option_map object_value (object_numbered id os)
object_under [] id = refl
object_under (o ∷ os) id =
    ap (λ b. cond b (Some (object_value o)) (value_under (map object_row os) (object_key id))) (key_is id o.id (o.id == id) refl)
    ∙ ap (λ (m : Option (List ℕ)). cond (o.id == id) (Some (object_value o)) m) (object_under os id)
    ∙ chosen (o.id == id) (object_numbered id os)
  where
    chosen : (b : Bool) (m : Option Object) → cond b (Some (object_value o)) (option_map object_value m) ≡ option_map object_value (cond b (Some o) m)
    chosen true m = refl
    chosen false m = refl

object_keyed : (o : Object) → object_key o.id ≡ key_of (of.Object o.id o.class o.last)
unfolding key_of
object_keyed o = refl

object_spelled : (o : Object) → object_value o ≡ value_of (of.Object o.id o.class o.last)
unfolding value_of
object_spelled o = refl

pub under_object : (s : Stored) (id : ℕ) → value_under (rows s) (object_key id) ≡ option_map object_value (object_of s id)
under_object s id =
    value_of_kind (rows s) (object_key id) ∙ ap (λ (es : Entries). value_under es (object_key id)) (objects_alone s) ∙ object_under s.world.bones.objects id

pub object_read : Again → (s : Stored) (id : ℕ) → IsReadable s → object_in (rows s) id ≡ There (option_map head_of_object (object_of s id))
unfolding object_in
object_read again s id is = by_number (object_of s id) refl
  where
    by_number : (o : Option Object) → object_of s id ≡ o → looked_up (rows s) (object_key id) >>= with_versions (rows s) id ≡ There (option_map head_of_object o)
    by_number None none =
        ap (λ (f : Found (Option Record)). f >>= with_versions (rows s) id)
        (not_looked (rows s) (object_key id) (under_object s id ∙ ap (option_map object_value) none))
    by_number (Some o) there =
        let same : o.id ≡ id = numbered_is s.world.bones.objects id o there in
        let own = numbered_all (IsReadableObject s.world) s.world.bones.objects id o is.objects there in
        let value : value_under (rows s) (object_key id) ≡ Some (object_value o) = under_object s id ∙ ap (option_map object_value) there in
        let read : decoded (object_key id) (object_value o) ≡ There (of.Object o.id o.class o.last) =
        reads again (of.Object o.id o.class o.last) (object_key id) (object_value o) own.spells (ap object_key (sym same) ∙ object_keyed o) (object_spelled o) in
        ap (λ (f : Found (Option Record)). f >>= with_versions (rows s) id) (looked (rows s) (object_key id) (object_value o) (of.Object o.id o.class o.last) value read)
        ∙ ap (λ (f : Found (List short.Version)). f >>= λ vs. There (head_of o.class o.last vs)) (versions_read again s id is)
        ∙ ap (λ (p : Option Object). There (head_of o.class o.last (option_map_or (λ (q : Object). map listed q.versions) p []))) there
