-- What a heap gives of the versions and the activations of a stored database.
use Rattle.std.proofs.Common.{◌≡◌, ℕ, ◌+◌, ◌<◌, ◌≤◌, ◌^◌, List, [], ◌∷◌, ◌++◌, map, Bool, true, false, cond, Option, Some, None, refl, sym, ap, subst, ◌∙◌, append_assoc, arith}
use Rattle.std.specs.Prelude.{◌==◌}
use Rattle.std.specs.BTreeMap.{is_at}
use Rattle.std.specs.List.{AllByRecursion, flat_map}
use Rattle.std.specs.Option.{IfSome, option_and_then, option_map}
use Rattle.std.proofs.lemmas.Bool.Decides.{nat_tests}
use Rattle.ode_codec.specs.Rules.{HasRanges}
use Rattle.ode_codec.specs.Spelling.{key_of, value_of}
use Rattle.ode_codec.specs.StoredRows.{Stored, activation_row, rows, state_of, version_rows}
use Rattle.ode_codec.specs.declared.record.Activation as stored
use Rattle.ode_codec.specs.declared.record.Record.{Record}
use Rattle.ode_codec.specs.declared.record.Record.TheVariants as of
use Rattle.ode_keep.specs.Entries.{Entries, value_under}
use Rattle.ode_value.specs.Denoting.{object_numbered}
use Rattle.ode_value.specs.Fields.{born_values, fields_of as class_fields}
use Rattle.ode_value.specs.GoodWorlds.{RiseFrom}
use Rattle.ode_value.specs.Keys.{activation_key, activation_kind, key_cmp, version_key}
use Rattle.ode_value.specs.Objects.{Activation}
use Rattle.ode_value.specs.Records.{Row, version_row}
use Rattle.ode_value.specs.Versions.{Version, version_numbered}
use Rattle.ode_value.specs.Worlds.{Declared, Object, World}
use Rattle.ode_value.specs.declared.class.Class.{Class}
use Rattle.ode_value.specs.declared.class.Field.{Field}
use Rattle.ode_value.specs.declared.key.Key.{Key}
use Rattle.ode_value.specs.declared.value.Value.{Value}
use Rattle.ode_heap.specs.Activations.{activations_in, as_activation}
use Rattle.ode_heap.specs.Answers.{Found, ◌>>=◌}
use Rattle.ode_heap.specs.Answers.{There, Broken}
use Rattle.ode_heap.specs.Answering.{IsOfClass, IsReadable, IsReadableActivation, IsReadableObject, IsReadableVersion, IsVersionOf, activations_of, class_of, fields_in, object_of, stamped_of, version_of, version_record, with_state}
use Rattle.ode_heap.specs.Looking.{fields_of, looked_up, stamped, stamped_in, version_in, with_literals}
use Rattle.ode_heap.specs.Walking.{block, collected, is_from, taken}
use Rattle.ode_heap.specs.declared.fields.Stamped.{Stamped}
use Rattle.ode_heap.proofs.Literals.{literals_back}
use Rattle.ode_heap.proofs.Numbered.{id_of, numbered_all, numbered_is, one_object, or_else, value_append}
use Rattle.ode_heap.proofs.OneKind.{collected_of_kind, value_of_kind}
use Rattle.ode_heap.proofs.Reading.{Again, looked, not_looked, reads}
use Rattle.ode_heap.proofs.Sections.{activations_alone, versions_alone}
use Rattle.ode_heap.proofs.Stored.{version_keyed, version_spelled}

-- ---- the value of a version

abbrev version_value : List Field → Version → List ℕ
version_value fields v = (version_row 0 fields v).1

version_key_is : (id number n : ℕ) (b : Bool) → (n == number) ≡ b → is_at (key_cmp (version_key id number)) (version_key id n) ≡ b
version_key_is id number n true is = grind (arith, nat_tests)
version_key_is id number n false is = grind (arith, nat_tests)

other_key : (id number other n : ℕ) → (other == id) ≡ false → is_at (key_cmp (version_key id number)) (version_key other n) ≡ false
other_key id number other n apart = grind (arith, nat_tests)

module _ (fields : List Field) where
  chosen : (v : Version) (b : Bool) (m : Option Version)
      → cond b (Some (version_value fields v)) (option_map (version_value fields) m) ≡ option_map (version_value fields) (cond b (Some v) m)
  chosen v true m = refl
  chosen v false m = refl

  own_version : (id number : ℕ) (vs : List Version)
      → value_under (map (version_row id fields) vs) (version_key id number) ≡ option_map (version_value fields) (version_numbered number vs)
  own_version id number [] = refl
  own_version id number (v ∷ vs) =
      ap (λ b. cond b (Some (version_value fields v)) (value_under (map (version_row id fields) vs) (version_key id number)))
      (version_key_is id number v.number (v.number == number) refl)
      ∙ ap (λ (m : Option (List ℕ)). cond (v.number == number) (Some (version_value fields v)) m) (own_version id number vs)
      ∙ chosen v (v.number == number) (version_numbered number vs)

  no_version : (id number other : ℕ) (vs : List Version) → (other == id) ≡ false → value_under (map (version_row other fields) vs) (version_key id number) ≡ None
  no_version id number other [] apart = refl
  no_version id number other (v ∷ vs) apart =
      ap (λ b. cond b (Some (version_value fields v)) (value_under (map (version_row other fields) vs) (version_key id number)))
      (other_key id number other v.number apart) ∙ no_version id number other vs apart

or_none : (m : Option (List ℕ)) → or_else m None ≡ m
or_none None = refl
or_none (Some v) = refl

module _ (classes : List Declared) where
  abbrev fields : Object → List Field
  fields o = class_fields classes o.class

  none_later : (os : List Object) (id number low : ℕ) → id < low → RiseFrom low (map id_of os)
      → value_under (flat_map (version_rows classes) os) (version_key id number) ≡ None
  none_later [] id number low less rise = refl
  none_later (o ∷ os) id number low less rise =
      let le : low ≤ o.id = rise.0 in
      let apart : (o.id == id) ≡ false = grind (arith, nat_tests) in
      let less_next : id < o.id + 1 = omega arith in
      value_append (version_rows classes o) (flat_map (version_rows classes) os) (version_key id number)
      ∙ ap (λ (m : Option (List ℕ)). or_else m (value_under (flat_map (version_rows classes) os) (version_key id number))) (no_version (fields o) id number o.id o.versions apart)
      ∙ none_later os id number (o.id + 1) less_next rise.1

  -- the value of a version of an object
  abbrev value_at : ℕ → Option Object → Option (List ℕ)
  value_at number o = option_and_then (λ (p : Object). option_map (version_value (fields p)) (version_numbered number p.versions)) o

  version_step : (o : Object) (os : List Object) (id number : ℕ) → RiseFrom (o.id + 1) (map id_of os)
      → value_under (flat_map (version_rows classes) os) (version_key id number) ≡ value_at number (object_numbered id os) → (b : Bool) → (o.id == id) ≡ b
      → value_under (version_rows classes o ++ flat_map (version_rows classes) os) (version_key id number) ≡ value_at number (cond b (Some o) (object_numbered id os))
  version_step o os id number rise more true is =
      let same : o.id ≡ id = grind (arith, nat_tests) in
      let less : id < o.id + 1 = omega arith in
      value_append (version_rows classes o) (flat_map (version_rows classes) os) (version_key id number)
      ∙ ap (λ (m : Option (List ℕ)). or_else (value_under (version_rows classes o) (version_key id number)) m) (none_later os id number (o.id + 1) less rise)
      ∙ or_none (value_under (version_rows classes o) (version_key id number))
      ∙ ap (λ (i : ℕ). value_under (map (version_row i (fields o)) o.versions) (version_key id number)) same
      ∙ own_version (fields o) id number o.versions
  version_step o os id number rise more false is =
      value_append (version_rows classes o) (flat_map (version_rows classes) os) (version_key id number)
      ∙ ap (λ (m : Option (List ℕ)). or_else m (value_under (flat_map (version_rows classes) os) (version_key id number))) (no_version (fields o) id number o.id o.versions is)
      ∙ more

  version_under : (os : List Object) (id number low : ℕ) → RiseFrom low (map id_of os)
      → value_under (flat_map (version_rows classes) os) (version_key id number) ≡ value_at number (object_numbered id os)
  version_under [] id number low rise = refl
  version_under (o ∷ os) id number low rise = version_step o os id number rise.1 (version_under os id number (o.id + 1) rise.1) (o.id == id) refl

-- ---- the version that is found

versions_all : (P : Version → Type 0) (vs : List Version) (number : ℕ) (v : Version) → AllByRecursion P vs → version_numbered number vs ≡ Some v → P v
versions_all P [] number v all is = absurd (cc)
versions_all P (w ∷ ws) number v all is = step (w.number == number) is (versions_all P ws number v all.1)
  where
    step : (b : Bool) → cond b (Some w) (version_numbered number ws) ≡ Some v → (version_numbered number ws ≡ Some v → P v) → P v
    step true is more = let same : w ≡ v = cc in subst P same all.0
    step false is more = more is

versions_is : (vs : List Version) (number : ℕ) (v : Version) → version_numbered number vs ≡ Some v → v.number ≡ number
versions_is [] number v is = absurd (cc)
versions_is (w ∷ ws) number v is = step (w.number == number) refl is (versions_is ws number v)
  where
    step : (b : Bool) → (w.number == number) ≡ b → cond b (Some w) (version_numbered number ws) ≡ Some v → (version_numbered number ws ≡ Some v → v.number ≡ number) → v.number ≡ number
    step true here is more = let same : w ≡ v = cc in subst (λ (u : Version). u.number ≡ number) same (grind (arith, nat_tests))
    step false here is more = more is

module _ (again : Again) (s : Stored) (id number : ℕ) (class : Class) (is : IsReadable s) where
  abbrev declared : List Declared
  declared = s.world.bones.classes

  abbrev stored_key : Key
  stored_key = version_key id number

  under : value_under (rows s) stored_key ≡ value_at declared number (object_of s id)
  under =
      value_of_kind (rows s) stored_key ∙ ap (λ (es : Entries). value_under es stored_key) (versions_alone s)
      ∙ version_under declared s.world.bones.objects id number 0 is.rising

  -- the record of a version of this object
  module _ (o : Object) (there : object_of s id ≡ Some o) (v : Version) (found : version_numbered number o.versions ≡ Some v) where
    abbrev its_record : Record
    its_record = version_record o.id (fields declared o) v

    under_key : stored_key ≡ key_of its_record
    under_key =
        ap (λ i. version_key i number) (sym (numbered_is s.world.bones.objects id o there)) ∙ ap (version_key o.id) (sym (versions_is o.versions number v found))
        ∙ version_keyed o.id (fields declared o) v

    version_there : looked_up (rows s) stored_key ≡ There (Some its_record)
    version_there =
        let own = numbered_all (IsReadableObject s.world) s.world.bones.objects id o is.objects there in
        let readable = versions_all (IsReadableVersion o.id (fields declared o)) o.versions number v own.versions found in
        let value : value_under (rows s) stored_key ≡ Some (version_value (fields declared o) v) =
        under ∙ ap (value_at declared number) there ∙ ap (option_map (version_value (fields declared o))) found in
        looked (rows s) stored_key (version_value (fields declared o) v) its_record value
        (reads again its_record stored_key (version_value (fields declared o) v) readable.spells under_key (version_spelled o.id (fields declared o) v))

    -- its fields, with its literals
    all_fields : class_fields declared o.class ≡ class.fields → IsVersionOf class v → fields_of stored_key class.fields (Some its_record) ≡ There (Some (stamped_of v))
    all_fields its it =
        ap (λ (fs : List Field). stamped stored_key v.stamp class.fields (with_literals v.stamp class.fields (born_values v.stamp fs v.fields))) its
        ∙ ap (stamped stored_key v.stamp class.fields) (literals_back v.stamp class.fields v.fields it.later)
        ∙ ap (λ b. cond b (There (Some (stamped_of v))) (Broken stored_key)) it.fit

  none_read : value_at declared number (object_of s id) ≡ None → looked_up (rows s) stored_key >>= fields_of stored_key class.fields ≡ There None
  none_read none = ap (λ (f : Found (Option Record)). f >>= fields_of stored_key class.fields) (not_looked (rows s) stored_key (under ∙ none))

  pub stamped_read : IsOfClass s id number class → stamped_in (rows s) id number class ≡ There (option_map stamped_of (version_of s id number))
  unfolding stamped_in
  stamped_read its = by_object (object_of s id) refl its.object its.version
    where
      by_version : (o : Object) → object_of s id ≡ Some o → class_fields declared o.class ≡ class.fields → (m : Option Version) → version_numbered number o.versions ≡ m → IfSome m (IsVersionOf class)
          → looked_up (rows s) stored_key >>= fields_of stored_key class.fields ≡ There (option_map stamped_of m)
      by_version o there same None none it = none_read (ap (value_at declared number) there ∙ ap (option_map (version_value (fields declared o))) none)
      by_version o there same (Some v) found it =
          ap (λ (f : Found (Option Record)). f >>= fields_of stored_key class.fields) (version_there o there v found) ∙ all_fields o there v found same it

      by_object : (o : Option Object) → object_of s id ≡ o → IfSome o (λ (p : Object). class_fields declared p.class ≡ class.fields)
          → IfSome (option_and_then (λ (p : Object). version_numbered number p.versions) o) (IsVersionOf class)
          → looked_up (rows s) stored_key >>= fields_of stored_key class.fields ≡ There (option_map stamped_of (option_and_then (λ (p : Object). version_numbered number p.versions) o))
      by_object None none same it = none_read (ap (value_at declared number) none)
      by_object (Some o) there same it = by_version o there same (version_numbered number o.versions) refl it

  pub fields_read : IsOfClass s id number class → version_in (rows s) id number class ≡ There (fields_in s id number)
  fields_read its =
      ap (λ (f : Found (Option Stamped)). f >>= λ found. There (option_map (λ (x : Stamped). x.fields) found)) (stamped_read its)
      ∙ ap (λ (m : Option (List Value)). There m) (without_stamp (version_of s id number))
    where
      without_stamp : (m : Option Version) → option_map (λ (x : Stamped). x.fields) (option_map stamped_of m) ≡ option_map (λ (v : Version). v.fields) m
      without_stamp None = refl
      without_stamp (Some v) = refl

-- ---- activations

activation_keyed : (w : World (Unit {0}) ℕ) (id : ℕ) (a : Activation) → activation_key id a.number ≡ key_of (of.Activation (with_state w id a))
unfolding key_of
activation_keyed w id a = refl

activation_spelled : (w : World (Unit {0}) ℕ) (id : ℕ) (a : Activation) → (activation_row id (state_of w id a.number) a).1 ≡ value_of (of.Activation (with_state w id a))
unfolding value_of
activation_spelled w id a = simp append_assoc

low_activation : (w : World (Unit {0}) ℕ) (id : ℕ) (a : Activation) → IsReadableActivation w id a → a.number < 2 ^ 64
unfolding HasRanges
low_activation w id a is = is.spells.ranges.key.1

in_activations : (id n : ℕ) → n < 2 ^ 64 → is_from activation_kind id 0 (activation_key id n) ≡ true
in_activations id n low = grind (arith, nat_tests)

apart_activations : (id other n : ℕ) → (other == id) ≡ false → is_from activation_kind id 0 (activation_key other n) ≡ false
apart_activations id other n apart = grind (arith, nat_tests)

module _ (s : Stored) where
  abbrev classes : List Class
  classes = map class_of s.world.bones.classes

  abbrev row : Object → Activation → Row
  row o a = activation_row o.id (state_of s.world o.id a.number) a

  activation_taken : Again → (o : Object) (a : Activation) → IsReadableActivation s.world o.id a → taken (as_activation classes) (row o a).0 (row o a).1 ≡ There (with_state s.world o.id a)
  activation_taken again o a is =
      ap (λ (f : Found Record). f >>= as_activation classes (activation_key o.id a.number))
      (reads again (of.Activation (with_state s.world o.id a)) (activation_key o.id a.number) (row o a).1 is.spells (activation_keyed s.world o.id a) (activation_spelled s.world o.id a))
      ∙ ap (λ b. cond b (There (with_state s.world o.id a)) (Broken (activation_key o.id a.number))) is.fits

  each_activation : Again → (o : Object) (acts : List Activation) → AllByRecursion (IsReadableActivation s.world o.id) acts
      → AllByRecursion (λ a. (is_from activation_kind o.id 0 (row o a).0 ≡ true) × (taken (as_activation classes) (row o a).0 (row o a).1 ≡ There (with_state s.world o.id a))) acts
  each_activation again o [] all = tt
  each_activation again o (a ∷ more) all =
      ((in_activations o.id a.number (low_activation s.world o.id a all.0), activation_taken again o a all.0), each_activation again o more all.1)

  all_objects : Again → (id : ℕ) (os : List Object) → AllByRecursion (IsReadableObject s.world) os
      → AllByRecursion (λ (o : Object). o.id ≡ id → AllByRecursion (λ a. (is_from activation_kind id 0 (row o a).0 ≡ true) × (taken (as_activation classes) (row o a).0 (row o a).1 ≡ There (with_state s.world o.id a))) o.activations) os
  all_objects again id [] all = tt
  all_objects again id (o ∷ os) all = (
    λ same. subst (λ (i : ℕ). AllByRecursion (λ a. (is_from activation_kind i 0 (row o a).0 ≡ true) × (taken (as_activation classes) (row o a).0 (row o a).1 ≡ There (with_state s.world o.id a))) o.activations)
        same (each_activation again o o.activations all.0.activations),
    all_objects again id os all.1,
  )

  pub activations_read : Again → (id : ℕ) → IsReadable s → activations_in (rows s) id classes ≡ There (activations_of s id)
  unfolding block
  activations_read again id is =
      collected_of_kind stored.Activation (taken (as_activation classes)) activation_kind id 0 (rows s)
      ∙ ap (collected (is_from activation_kind id 0) (taken (as_activation classes))) (activations_alone s)
      ∙ one_object stored.Activation (taken (as_activation classes)) activation_kind id Activation (λ (o : Object). o.activations) (λ (o : Object) a. row o a) (λ o a. with_state s.world o.id a)
      (λ o a apart. apart_activations id o.id a.number apart) s.world.bones.objects 0 is.rising (all_objects again id s.world.bones.objects is.objects)
