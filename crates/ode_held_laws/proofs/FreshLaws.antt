-- What an overlay reads of an object is what the first world has.
use Rattle.std.proofs.Common.{◌≡◌, ℕ, List, [], ◌∷◌, map, Option, Some, None, refl, sym, ap, subst, ◌∙◌}
use Rattle.std.proofs.lemmas.Simd.{map-map}
use Rattle.std.specs.Prelude.{IsSome, true}
use Rattle.std.specs.List.{AllByRecursion}
use Rattle.std.specs.Option.{option_map, option_map_or}
use Rattle.ode_codec.specs.StoredRows.{Stored, state_of}
use Rattle.ode_codec.specs.declared.record.Activation as stored
use Rattle.ode_heap.specs.Activations.{activations_in}
use Rattle.ode_heap.specs.Answering.{IsReadable, IsReadableActivation, IsReadableObject, activations_of, activations_with_states, class_of, head_of_object, stamped_of}
use Rattle.ode_heap.specs.Answers.{Found, ◌>>=◌}
use Rattle.ode_heap.specs.Answers.{There}
use Rattle.ode_heap.specs.Looking.{stamped_in}
use Rattle.ode_heap.specs.Objects.{object_in}
use Rattle.ode_heap.specs.declared.fields.Stamped.{Stamped}
use Rattle.ode_heap.specs.declared.object.ObjectHead.{ObjectHead}
use Rattle.ode_heap_laws.proofs.Classes.{same_numbered}
use Rattle.ode_heap_laws.specs.Few.{HoldsCounted}
use Rattle.ode_held_laws.proofs.AnswerLaws.{as_read}
use Rattle.ode_held_laws.proofs.KeptLaws.{HasStates, rows_kept, states_found}
use Rattle.ode_held_laws.proofs.PartLaws.{IsFoundIn, actives_again, actives_read, args_fit, numbered_each, read_active, read_version, versions_again, versions_read}
use Rattle.ode_held_laws.specs.Fresh.{ReadsFresh}
use Rattle.ode_keep.specs.Entries.{Entries}
use Rattle.ode_laws.proofs.AlikePairs.{all_found}
use Rattle.ode_laws.proofs.Each.{all-then}
use Rattle.ode_laws.proofs.Rows.{numbered_id}
use Rattle.ode_laws.specs.Alike.{NumberTx, NumberWorld}
use Rattle.ode_objects.specs.Loading.{actives_from, actives_in, object_read, there_at, versions_from, whole_in, with_parts}
use Rattle.ode_objects.specs.Values.{are_args}
use Rattle.ode_objects.specs.declared.object.Active.{Active}
use Rattle.ode_objects.specs.declared.object.Object as whole
use Rattle.ode_objects.specs.declared.object.Version as tracked
use Rattle.ode_objects.specs.declared.tracked.Tracked.{Tracked}
use Rattle.ode_overlay.specs.Changing.{fresh, fresh_at}
use Rattle.ode_overlay.specs.Layers.{Layer, tracked_at}
use Rattle.ode_overlay_laws.specs.Standing.{IsIn, Stands, kept_as, object_as}
use Rattle.ode_value.specs.Denoting.{object_numbered}
use Rattle.ode_value.specs.GoodWorlds.{IsActivation, IsObject}
use Rattle.ode_value.specs.Keys.{object_key, version_key}
use Rattle.ode_value.specs.Language.{Language, ListWorld}
use Rattle.ode_value.specs.Objects.{Activation}
use Rattle.ode_value.specs.Pasts.{Kept}
use Rattle.ode_value.specs.Versions.{Version, version_numbered}
use Rattle.ode_value.specs.Worlds.{Bones, Object, class_numbered, kept_at}
use Rattle.ode_value.specs.declared.class.Class.{Class}
use Rattle.ode_versions.specs.Versions.{listed}

abbrev NumberKept : Type 0
NumberKept = Kept (Unit {0}) ℕ

module _ (l : Language) (records : Entries) (w : ListWorld) (held : HoldsCounted l records w) (readable : IsReadable held.world.stored)
    (object_shown : (id : ℕ) → object_in records id ≡ There (option_map head_of_object (object_numbered id w.bones.objects)))
    (stamped_shown : (id number : ℕ) (o : Object) (class : Class) → object_numbered id w.bones.objects ≡ Some o → class_numbered o.class w.bones.classes ≡ Some class
    → stamped_in records id number class ≡ There (option_map stamped_of (version_numbered number o.versions)))
    (activations_shown : (id : ℕ) → activations_in records id (map class_of w.bones.classes) ≡ There (activations_of held.world.stored id)) where
  abbrev s : Stored
  s = held.world.stored

  abbrev classes : List Class
  classes = map class_of w.bones.classes

  abbrev pub read_whole : Object → whole.Object
  read_whole o = object_read (head_of_object o) (map read_version o.versions) (map (read_active s.world o.id) o.activations)

  -- ---- one that is there

  module _ (o : Object) (at : object_numbered o.id w.bones.objects ≡ Some o) where
    good : IsObject w.bones o
    good = all_found (IsObject w.bones) o.id w.bones.objects held.world.good.bones.objects o at

    stored_at : object_numbered o.id s.world.bones.objects ≡ Some o
    stored_at = ap (λ (b : Bones). object_numbered o.id b.objects) held.world.stands.bones ∙ at

    reads : IsReadableObject s.world o
    reads = all_found (IsReadableObject s.world) o.id s.world.bones.objects readable.objects o stored_at

    fit : AllByRecursion (λ (a : Activation). are_args a.args ≡ true) o.activations
    fit = each o.activations reads.activations good.activations where
      each : (acts : List Activation) → AllByRecursion (IsReadableActivation s.world o.id) acts → AllByRecursion (IsActivation w.bones o.class) acts
          → AllByRecursion (λ (a : Activation). are_args a.args ≡ true) acts
      each [] here there = tt
      each (a ∷ acts) here there = (args_fit w.bones o.class a there.0, each acts here.1 there.1)

    activations_are : actives_in classes records o.id ≡ There (map (read_active s.world o.id) o.activations)
    unfolding actives_in
    activations_are =
        ap (λ (f : Found (List stored.Activation)). f >>= actives_from [])
        (activations_shown o.id ∙ ap (λ (p : Option Object). There (option_map_or (activations_with_states s.world) p [])) stored_at)
        ∙ actives_read s.world o.id [] o.activations fit

    versions_are : (class : Class) → class_numbered o.class w.bones.classes ≡ Some class → versions_from records o.id class [] (map listed o.versions) ≡ There (map read_version o.versions)
    versions_are class its =
        versions_read records o.id class [] o.versions
        (all-then (λ v. version_numbered v.number o.versions ≡ Some v) (IsFoundIn records o.id class)
        (λ v found.
        ap (λ (f : Found (Option Stamped)). f >>= there_at (version_key o.id v.number))
        (stamped_shown o.id v.number o class at its ∙ ap (λ (u : Option Version). There (option_map stamped_of u)) found))
        o.versions (numbered_each o.versions good.rising))

    abbrev parts : Found Class → Found (Option whole.Object)
    parts f = (f >>= λ class. versions_from records o.id class [] (map listed o.versions) >>= λ versions. actives_in classes records o.id >>= λ acts. There (object_read (head_of_object o) versions acts)) >>= λ r. There (Some r)

    abbrev with_versions : Found (List tracked.Version) → Found (Option whole.Object)
    with_versions f = (f >>= λ versions. actives_in classes records o.id >>= λ acts. There (object_read (head_of_object o) versions acts)) >>= λ r. There (Some r)

    abbrev with_actives : Found (List Active) → Found (Option whole.Object)
    with_actives f = (f >>= λ acts. There (object_read (head_of_object o) (map read_version o.versions) acts)) >>= λ r. There (Some r)

    by_class : (found : Option Class) → class_numbered o.class w.bones.classes ≡ found → IsSome found → parts (there_at (object_key o.id) found) ≡ There (Some (read_whole o))
    by_class None is some = absurd (cc)
    by_class (Some class) is some = ap with_versions (versions_are class is) ∙ ap with_actives activations_are

    -- it is read whole
    whole_read : whole_in classes records o.id ≡ There (Some (read_whole o))
    unfolding whole_in
    whole_read =
        ap (λ (f : Found (Option ObjectHead)). f >>= with_parts classes records o.id) (object_shown o.id ∙ ap (λ (p : Option Object). There (option_map head_of_object p)) at)
        ∙ ap (λ (c : Option Class). parts (there_at (object_key o.id) c)) (same_numbered w.bones.classes o.class)
        ∙ by_class (class_numbered o.class w.bones.classes) refl good.class

    same_object : object_as o.id (read_whole o) ≡ o
    same_object =
        let versions = versions_again o.versions in
        let acts = actives_again s.world o.id o.activations (all-then (IsActivation w.bones o.class) (λ (a : Activation). a.on ≡ true) (λ a is. is.on) o.activations good.activations) in
        λ i. record { id = o.id; class = o.class; live = sym good.live i; last = o.last; versions = versions i; activations = acts i }

    has_states : HasStates s.tables w.bones.classes o (kept_at o.id s.world.pasts)
    has_states = states_found s.tables w.bones.classes o.id w.bones.objects s.world.pasts w.pasts held.world.stands.pasts o at

    same_kept : has_states.kept ≡ kept_as (read_whole o)
    same_kept =
        let rows : map (λ (a : Activation). (a.number, state_of s.world o.id a.number)) o.activations ≡ has_states.kept.activations =
        rows_kept s.tables w.bones.classes s.world o.id o good.rising_activations has_states in
        let mapped = map-map (λ (a : Active). (a.number, a.state)) (read_active s.world o.id) o.activations in
        ap (λ (r : List (ℕ × ℕ)). record { own = tt; activations = r }) (sym rows ∙ sym mapped)

    -- and is what the stored world has
    pub read_in : IsIn s.world o.id (read_whole o)
    read_in = record {
      object = stored_at ∙ ap (λ (p : Object). Some p) (sym same_object);
      kept = has_states.found ∙ ap (λ (k : NumberKept). Some k) same_kept;
    }

  -- ---- any number

  pub whole_there : (id : ℕ) (o : Object) → object_numbered id w.bones.objects ≡ Some o → (whole_in classes records id ≡ There (Some (read_whole o))) × IsIn s.world id (read_whole o)
  whole_there id o at =
      let same : o.id ≡ id = numbered_id id w.bones.objects o at in
      subst (λ n. object_numbered n w.bones.objects ≡ Some o → (whole_in classes records n ≡ There (Some (read_whole o))) × IsIn s.world n (read_whole o)) same
      (λ there. (whole_read o there, read_in o there)) at

  pub none_there : (id : ℕ) → object_numbered id w.bones.objects ≡ None → whole_in classes records id ≡ There None
  unfolding whole_in
  none_there id none =
      ap (λ (f : Found (Option ObjectHead)). f >>= with_parts classes records id) (object_shown id ∙ ap (λ (p : Option Object). There (option_map head_of_object p)) none)

  module _ (x : Layer) (y : NumberTx) (id : ℕ) (stands : Stands x y) (first : y.first ≡ s.world) where
    by_object : tracked_at id x ≡ None → (o : Option Object) → object_numbered id w.bones.objects ≡ o → ReadsFresh x y id (as_read (whole_in classes records id))
    by_object none None is =
        subst (λ (f : Found (Option whole.Object)). ReadsFresh x y id (as_read f)) (sym (none_there id is))
        (λ untracked. (stands.others id none).object ∙ ap (λ (v : NumberWorld). object_numbered id v.bones.objects) first
        ∙ ap (λ (b : Bones). object_numbered id b.objects) held.world.stands.bones ∙ is)
    by_object none (Some o) is =
        let found = whole_there id o is in
        let others = stands.others id none in
        subst (λ (f : Found (Option whole.Object)). ReadsFresh x y id (as_read f)) (sym found.0)
        (record {
          object = others.object ∙ ap (λ (v : NumberWorld). object_numbered id v.bones.objects) first ∙ found.1.object;
          kept = others.kept ∙ ap (λ (v : NumberWorld). kept_at id v.pasts) first ∙ found.1.kept;
        })

    by_tracked : (f : Option Tracked) → tracked_at id x ≡ f → ReadsFresh x y id (fresh_at classes records id f)
    by_tracked None is = by_object is (object_numbered id w.bones.objects) refl
    by_tracked (Some t) is = λ none. absurd (cc (is, none))

    pub fresh_read : ReadsFresh x y id (fresh classes records id x)
    unfolding fresh
    fresh_read = by_tracked (tracked_at id x) refl
