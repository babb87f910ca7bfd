-- What was read of an object stands under its keys.
use Rattle.std.proofs.Common.{◌≡◌, ℕ, List, [], ◌∷◌, map, Option, Some, None, Ok, refl, sym, ap, subst, ◌∙◌}
use Rattle.std.specs.List.{AllByRecursion, find}
use Rattle.std.specs.Option.{option_and_then, option_map}
use Rattle.ode_codec.specs.StoredRows.{Stored, activation_row, activation_rows, object_row, rows, state_of, version_rows}
use Rattle.ode_formed_laws.proofs.ObjectLaws.{by_form}
use Rattle.ode_formed_laws.specs.Staying.{IsStored}
use Rattle.ode_heap.specs.Activations.{activations_in}
use Rattle.ode_heap.specs.Answering.{IsReadable, activations_of, class_of, head_of_object, stamped_of}
use Rattle.ode_heap.specs.Answers.{There}
use Rattle.ode_heap.specs.Looking.{stamped_in}
use Rattle.ode_heap.specs.Objects.{object_in}
use Rattle.ode_heap_laws.specs.Few.{HoldsCounted}
use Rattle.ode_held_laws.proofs.AnswerLaws.{as_read}
use Rattle.ode_held_laws.proofs.FreshLaws.{none_there, read_whole, whole_there}
use Rattle.ode_held_laws.proofs.PartLaws.{read_active, read_version, versions_again}
use Rattle.ode_keep.specs.Entries.{Entries, value_under}
use Rattle.ode_laws.proofs.Rows.{find-map, id_of, numbered_id}
use Rattle.ode_objects.specs.Loading.{whole_in}
use Rattle.ode_objects.specs.Objects.{has_number}
use Rattle.ode_objects.specs.Tracked.{read_object}
use Rattle.ode_objects.specs.declared.object.Object as whole
use Rattle.ode_objects.specs.declared.object.Version as objects
use Rattle.ode_objects.specs.declared.tracked.Tracked.{Tracked}
use Rattle.ode_overlay.specs.Changing.{fresh, fresh_at}
use Rattle.ode_overlay.specs.Layers.{Layer, tracked_at}
use Rattle.ode_settling_laws.proofs.KindLaws.{activation_stands, object_stands, version_stands}
use Rattle.ode_settling_laws.proofs.PartLaws.{HasStored, activations_stand, of_number, versions_stand}
use Rattle.ode_settling_laws.specs.Formed.{IsNewest, IsOwn, active_value, value_in}
use Rattle.ode_value.specs.Denoting.{object_numbered}
use Rattle.ode_value.specs.Fields.{fields_of}
use Rattle.ode_value.specs.GoodWorlds.{RiseFrom}
use Rattle.ode_value.specs.Keys.{activation_key, object_key, version_key}
use Rattle.ode_value.specs.Language.{Language, ListWorld}
use Rattle.ode_value.specs.Objects.{Activation}
use Rattle.ode_value.specs.Records.{version_row}
use Rattle.ode_value.specs.Versions.{Version, version_numbered}
use Rattle.ode_value.specs.Worlds.{Bones, Object, class_numbered}
use Rattle.ode_value.specs.declared.class.Class.{Class}
use Rattle.ode_value.specs.declared.class.Field.{Field}
use Rattle.ode_value.specs.declared.key.Key.{Key}

-- versions that were read have in their records what they have by definition
all_read : (fields : List Field) (vs : List Version) → AllByRecursion (HasStored fields) (map read_version vs)
all_read fields [] = tt
all_read fields (v ∷ vs) = (refl, all_read fields vs)

-- none of which was written
none_written : (stamp : ℕ) (vs : List Version) → AllByRecursion (λ (v : objects.Version). IsNewest stamp v.fields) (map read_version vs)
none_written stamp [] = tt
none_written stamp (v ∷ vs) = (tt, none_written stamp vs)

module _ (l : Language) (records : Entries) (w : ListWorld) (held : HoldsCounted l records w) (readable : IsReadable held.world.stored)
    (object_shown : (id : ℕ) → object_in records id ≡ There (option_map head_of_object (object_numbered id w.bones.objects)))
    (stamped_shown : (id number : ℕ) (o : Object) (class : Class) → object_numbered id w.bones.objects ≡ Some o → class_numbered o.class w.bones.classes ≡ Some class
    → stamped_in records id number class ≡ There (option_map stamped_of (version_numbered number o.versions)))
    (activations_shown : (id : ℕ) → activations_in records id (map class_of w.bones.classes) ≡ There (activations_of held.world.stored id)) where
  abbrev s : Stored
  s = held.world.stored

  abbrev classes : List Class
  classes = map class_of w.bones.classes

  abbrev its : Object → whole.Object
  its o = read_whole l records w held readable object_shown stamped_shown activations_shown o

  rising : RiseFrom 0 (map id_of s.world.bones.objects)
  rising = readable.rising

  module _ (o : Object) (at : object_numbered o.id w.bones.objects ≡ Some o) where
    stored_at : object_numbered o.id s.world.bones.objects ≡ Some o
    stored_at = ap (λ (b : Bones). object_numbered o.id b.objects) held.world.stands.bones ∙ at

    object_there : value_under (rows s) (object_key o.id) ≡ value_in w.bones.classes (object_key o.id) (its o)
    object_there = object_stands s o.id ∙ ap (option_map (λ (p : Object). (object_row p).1)) stored_at

    -- the fields of its class
    abbrev fields : List Field
    fields = fields_of w.bones.classes o.class

    version_there : (n : ℕ) → value_under (rows s) (version_key o.id n) ≡ value_in w.bones.classes (version_key o.id n) (its o)
    version_there n =
        version_stands s rising o.id n ∙ ap (option_and_then (λ (p : Object). value_under (version_rows s.world.bones.classes p) (version_key o.id n))) stored_at
        ∙ ap (λ (b : Bones). value_under (version_rows b.classes o) (version_key o.id n)) held.world.stands.bones
        ∙ ap (λ (vs : List Version). value_under (map (version_row o.id fields) vs) (version_key o.id n)) (sym (versions_again o.versions))
        ∙ versions_stand o.id n fields (map read_version o.versions) (all_read fields o.versions)

    abbrev spelled : Activation → List ℕ
    spelled a = (activation_row o.id (state_of s.world o.id a.number) a).1

    by_found : (f : Option Activation) → option_map spelled f ≡ option_and_then (active_value o.id) (option_map (read_active s.world o.id) f)
    by_found None = refl
    by_found (Some a) = refl

    activation_there : (n : ℕ) → value_under (rows s) (activation_key o.id n) ≡ value_in w.bones.classes (activation_key o.id n) (its o)
    activation_there n =
        activation_stands s rising o.id n ∙ ap (option_and_then (λ (p : Object). value_under (activation_rows s.world p) (activation_key o.id n))) stored_at
        ∙ activations_stand o.id n (λ m. state_of s.world o.id m) o.activations
        ∙ by_found (find (of_number n) o.activations)
        ∙ sym (ap (option_and_then (active_value o.id)) (find-map (of_number n) (has_number n) (read_active s.world o.id) (λ a. refl) o.activations))

    all_there : (q : Key) → IsOwn q → q.a ≡ o.id → value_under (rows s) q ≡ value_in w.bones.classes q (its o)
    all_there q own is = by_form (λ k. value_under (rows s) k ≡ value_in w.bones.classes k (its o)) o.id object_there version_there activation_there q own is

  -- any number

  stored_there : (id : ℕ) (o : Object) → object_numbered id w.bones.objects ≡ Some o → IsStored w.bones.classes records id (Some (read_object (its o)))
  stored_there id o at =
      let same : o.id ≡ id = numbered_id id w.bones.objects o at in (
        λ q own is. ap (λ (es : Entries). value_under es q) held.world.rows ∙ all_there o (ap (λ n. object_numbered n w.bones.objects) same ∙ at) q own (is ∙ sym same),
        λ stamp. (none_written stamp o.versions, tt),
      )

  module _ (x : Layer) (id : ℕ) (new : Option Tracked) where
    by_object : (f : Option Object) → object_numbered id w.bones.objects ≡ f → as_read (whole_in classes records id) ≡ Ok new → IsStored w.bones.classes records id new
    by_object None none given =
        let both : Ok None ≡ Ok new = sym (ap as_read (none_there l records w held readable object_shown stamped_shown activations_shown id none)) ∙ given in
        let same : None ≡ new = cc in
        subst (IsStored w.bones.classes records id) same tt
    by_object (Some o) at given =
        let both : Ok (Some (read_object (its o))) ≡ Ok new = sym (ap as_read (whole_there l records w held readable object_shown stamped_shown activations_shown id o at).0) ∙ given in
        let same : Some (read_object (its o)) ≡ new = cc in
        subst (IsStored w.bones.classes records id) same (stored_there id o at)

    by_tracked : (f : Option Tracked) → fresh_at classes records id f ≡ Ok new → IsStored w.bones.classes records id new
    by_tracked None given = by_object (object_numbered id w.bones.objects) refl given
    by_tracked (Some t) given = let same : None ≡ new = cc in subst (IsStored w.bones.classes records id) same tt

    pub read_stored : fresh classes records id x ≡ Ok new → IsStored w.bones.classes records id new
    unfolding fresh
    read_stored given = by_tracked (tracked_at id x) given
