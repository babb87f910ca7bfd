-- Objects are touched, made and removed.
use Rattle.std.proofs.Common.{◌≡◌, ◌==◌, inl, inr, ℕ, List, [], ◌∷◌, ◌++◌, Bool, true, false, cond, Option, Some, None, Ok, refl, sym, ap, subst, ◌∙◌, arith}
use Rattle.std.proofs.lemmas.Bool.{false≢true}
use Rattle.std.proofs.lemmas.Bool.Decides.{nat_tests}
use Rattle.std.proofs.lemmas.Cmp.{nat_cmp_total}
use Rattle.std.specs.Prelude.{◌||◌}
use Rattle.std.specs.BTreeMap.{is_at}
use Rattle.std.specs.List.{AllByRecursion, find, fold}
use Rattle.std.specs.Map.{lookup}
use Rattle.std.specs.Option.{option_and_then, option_map}
use Rattle.std.specs.Ordering.{nat_cmp}
use Rattle.ode_formed_laws.proofs.AmongLaws.{IsOf, among_append, first_out, no_version, none_active, none_version, second_out, version_at}
use Rattle.ode_formed_laws.proofs.FormedLaws.{at_itself, at_other, by_few, by_kept, by_live, by_number, formed_then, put_here, put_others, was_formed, was_newest}
use Rattle.ode_formed_laws.proofs.SpelledLaws.{IsWritten, spells_active, spells_object, spells_written}
use Rattle.ode_formed_laws.specs.Staying.{IsStored, IsUnused, StaysFormed}
use Rattle.ode_keep.proofs.Maps.{lookup_put}
use Rattle.ode_keep.specs.Entries.{Entries, value_under}
use Rattle.ode_objects.specs.Objects.{activation_keys, dead, is_numbered, made, object_keys, version_keys}
use Rattle.ode_objects.specs.Records.{object_becomes}
use Rattle.ode_objects.specs.declared.object.Active.{Active}
use Rattle.ode_objects.specs.declared.object.Fields.TheVariants.{Written}
use Rattle.ode_objects.specs.declared.object.Object.{Object}
use Rattle.ode_objects.specs.declared.object.Version.{Version}
use Rattle.ode_objects.specs.declared.tracked.Tracked.{Tracked}
use Rattle.ode_overlay.specs.After.{is_among, value_after}
use Rattle.ode_overlay.specs.Answers.{◌>>=◌}
use Rattle.ode_overlay.specs.Changing.{create, created, next_number, object_of, put_new, remove_with, touch_first, touch_with, touched_with, with_now}
use Rattle.ode_overlay.specs.Layers.{Layer, holding, is_touched, tracked_at}
use Rattle.ode_settling_laws.specs.Formed.{HasNewest, IsFormed, IsOwn, active_value, value_in, version_value}
use Rattle.ode_value.specs.Changes.{with_key}
use Rattle.ode_value.specs.Fields.{fields_of}
use Rattle.ode_value.specs.Keys.{activation_key, key_cmp, object_key, version_key}
use Rattle.ode_value.specs.Worlds.{Declared}
use Rattle.ode_value.specs.declared.key.Key.{Key}
use Rattle.ode_value.specs.declared.value.Value.{Value}

pub own_object : (id : ℕ) → IsOf id (object_key id)
own_object id = (inl refl, refl)

pub own_version : (id n : ℕ) → IsOf id (version_key id n)
own_version id n = (inr (inl refl), refl)

pub own_active : (id n : ℕ) → IsOf id (activation_key id n)
own_active id n = (inr (inr refl), refl)

pub own_actives : (id : ℕ) (acts : List Active) → AllByRecursion (IsOf id) (activation_keys id acts)
own_actives id [] = tt
own_actives id (a ∷ acts) = (own_active id a.number, own_actives id acts)

own_versions : (id : ℕ) (vs : List Version) (more : List Key) → AllByRecursion (IsOf id) more → AllByRecursion (IsOf id) (version_keys id vs ++ more)
own_versions id [] more all = all
own_versions id (v ∷ vs) more all = (own_version id v.number, own_versions id vs more all)

own_all : (id : ℕ) (o : Object) → AllByRecursion (IsOf id) (object_keys id o)
own_all id o = (own_object id, own_versions id o.versions (activation_keys id o.activations) (own_actives id o.activations))

-- by the forms of a key of an object
pub by_form : (P : Key → Type 0) (id : ℕ) → P (object_key id) → ((n : ℕ) → P (version_key id n)) → ((n : ℕ) → P (activation_key id n)) → (q : Key) → IsOwn q → q.a ≡ id → P q
by_form P id object version active q (inl e) at = subst P (sym (e ∙ ap object_key at)) object
by_form P id object version active q (inr (inl e)) at = subst P (sym (e ∙ ap (λ n. version_key n q.b) at)) (version q.b)
by_form P id object version active q (inr (inr e)) at = subst P (sym (e ∙ ap (λ n. activation_key n q.b) at)) (active q.b)

-- ---- touching

-- the keys of activations are held, whatever their states are
pub held_actives : (classes : List Declared) (base : Entries) (id : ℕ) (o : Object) (acts : List Active) (q : Key) → IsOwn q → q.a ≡ id → is_among q (activation_keys id acts) ≡ true
    → value_after (object_becomes q o) (value_under base q) ≡ value_in classes q o
held_actives classes base id o acts q own at among =
    by_form (λ k. is_among k (activation_keys id acts) ≡ true → value_after (object_becomes k o) (value_under base k) ≡ value_in classes k o) id
    (λ is. spells_object classes id o (value_under base (object_key id)))
    (λ n is. absurd (false≢true (sym (no_version id n acts) ∙ is)))
    (λ n is. spells_active classes id n o (value_under base (activation_key id n))) q own at among

module _ (classes : List Declared) (base : Entries) (x : Layer) (id : ℕ) (new : Option Tracked) (formed : IsFormed classes base x) (read : IsStored classes base id new) where
  abbrev touched_then : Object → Layer
  touched_then o = touched_with new (fold with_key x.keys (activation_keys id o.activations)) id x

  here_by : (f : Option Tracked) → (t u : Tracked) → object_of f id x ≡ Some t → lookup (is_at (nat_cmp id)) (put_new id f x.objects) ≡ Some u → t ≡ u
  here_by None t u found is = cc
  here_by (Some v) t u found is =
      let there : Some v ≡ Some u = sym (ap (λ b. cond b (Some v) (tracked_at id x)) (at_itself id)) ∙ sym (lookup_put nat_cmp_total id v id x.objects) ∙ is in
      let one : v ≡ u = cc in
      let same : v ≡ t = cc in
      sym same ∙ one

  others_by : (f : Option Tracked) → (n : ℕ) → (n == id) ≡ false → lookup (is_at (nat_cmp n)) (put_new id f x.objects) ≡ tracked_at n x
  others_by None n out = refl
  others_by (Some v) n out = lookup_put nat_cmp_total id v n x.objects ∙ ap (λ b. cond b (Some v) (tracked_at n x)) (at_other id n out)

  touched_so : (t : Tracked) → object_of new id x ≡ Some t → IsFormed classes base (touched_then t.current)
  touched_so t found =
      formed_then classes base x (touched_then t.current) id t.current (activation_keys id t.current.activations) formed (own_actives id t.current.activations) refl refl
      (λ u is.
      let same : t ≡ u = here_by new t u found is in
      (ap (λ (v : Tracked). v.current) (sym same), subst (HasNewest x.first.added) same (was_newest classes base x id new formed read t found)))
      (λ n out. others_by new n out)
      (λ q own at out. was_formed classes base x id new formed read t found q own at) (held_actives classes base id t.current t.current.activations)

  pub touch_stays : StaysFormed classes base (touch_with new id x)
  unfolding touch_with
  touch_stays =
      by_live classes base id (object_of new id x) (λ o. cond (is_touched id x) (Ok (false, x)) (touch_first new id o x)) (λ t found is_live. by_touched t found (is_touched id x)) where
        by_touched : (t : Tracked) → object_of new id x ≡ Some t → (b : Bool) → StaysFormed classes base (cond b (Ok (false, x)) (touch_first new id t.current x))
        by_touched t found true = formed
        by_touched t found false = by_few classes base x (activation_keys id t.current.activations) (λ keys. Ok (true, touched_with new keys id x)) (touched_so t found)

  -- ---- removing

  none_in : (o : Object) (q : Key) → IsOwn q → q.a ≡ id → is_among q (object_keys id o) ≡ false → value_in classes q o ≡ None
  none_in o q own at out =
      by_form (λ k. is_among k (object_keys id o) ≡ false → value_in classes k o ≡ None) id
      (λ is. absurd (false≢true (sym is ∙ ap (λ b. b || is_among (object_key id) (version_keys id o.versions ++ activation_keys id o.activations)) (itself id))))
      (λ n is. either o.live _ (ap (option_map (version_value (fields_of classes o.class))) (none_version id n o.versions (first_out _ _ (sym (among_append (version_key id n) (version_keys id o.versions) (activation_keys id o.activations)) ∙ is)))))
      (λ n is. either o.live _ (ap (option_and_then (active_value id)) (none_active id n o.activations (second_out _ _ (sym (among_append (activation_key id n) (version_keys id o.versions) (activation_keys id o.activations)) ∙ is)))))
      q own at out where
        itself : (n : ℕ) → is_at (key_cmp (object_key n)) (object_key n) ≡ true
        itself n = grind (arith, nat_tests)

        either : (b : Bool) (v : Option (List ℕ)) → v ≡ None → cond b v None ≡ None
        either true v none = none
        either false v none = refl

  gone : (below : Option (List ℕ)) (o : Object) (q : Key) (b : Bool) → value_in classes q o ≡ None → cond b (value_after (object_becomes q o) below) below ≡ value_in classes q o → cond b None below ≡ None
  gone below o q true none is = refl
  gone below o q false none is = is ∙ none

  removed_so : (t : Tracked) → object_of new id x ≡ Some t → IsFormed classes base (with_now id new (dead t.current) (fold with_key x.keys (object_keys id t.current)) x)
  removed_so t found =
      let keys = fold with_key x.keys (object_keys id t.current) in
      formed_then classes base x (with_now id new (dead t.current) keys x) id (dead t.current) (object_keys id t.current) formed (own_all id t.current) refl refl
      (put_here x id new (dead t.current) keys (was_newest classes base x id new formed read) (was_newest classes base x id new formed read t found).0) (put_others x id new (dead t.current) keys)
      (λ q own at out. gone (value_under base q) t.current q (is_among q x.keys) (none_in t.current q own at out) (was_formed classes base x id new formed read t found q own at))
      (λ q own at among. refl)

  pub remove_stays : StaysFormed classes base (remove_with new id x)
  unfolding remove_with
  remove_stays =
      by_live classes base id (object_of new id x) (λ o. holding (object_keys id o) x >>= λ keys. Ok (tt, with_now id new (dead o) keys x))
      (λ t found is_live. by_few classes base x (object_keys id t.current) (λ keys. Ok (tt, with_now id new (dead t.current) keys x)) (removed_so t found))

-- ---- making

module _ (classes : List Declared) (base : Entries) (x : Layer) (class : ℕ) (fields : List Value) (formed : IsFormed classes base x) (unused : IsUnused base x.next) where
  -- the fields, with the stamp of what is made now
  abbrev kept : ℕ × List Value
  kept = (x.first.added, fields)

  abbrev new_object : Object
  new_object = made class kept

  abbrev ks : List Key
  ks = object_key x.next ∷ version_key x.next 1 ∷ []

  abbrev made_then : Layer
  made_then = created class kept (fold with_key x.keys ks) x

  none_else : (q : Key) → IsOwn q → q.a ≡ x.next → is_among q ks ≡ false → (value_in classes q new_object ≡ None) × ((below : Option (List ℕ)) → value_after (object_becomes q new_object) below ≡ value_in classes q new_object)
  none_else q own at out =
      by_form (λ k. is_among k ks ≡ false → (value_in classes k new_object ≡ None) × ((below : Option (List ℕ)) → value_after (object_becomes k new_object) below ≡ value_in classes k new_object)) x.next
      (λ is. absurd (false≢true (sym is ∙ ap (λ b. b || is_among (object_key x.next) (version_key x.next 1 ∷ [])) (itself x.next))))
      (λ n is. (ap (option_map (version_value (fields_of classes class))) (first_only n (one_out n is)), λ below. spells_written classes x.next n new_object below (subst IsWritten (sym (first_only n (one_out n is))) tt)))
      (λ n is. (refl, λ below. spells_active classes x.next n new_object below)) q own at out where
        itself : (n : ℕ) → is_at (key_cmp (object_key n)) (object_key n) ≡ true
        itself n = grind (arith, nat_tests)

        one_out : (n : ℕ) → is_among (version_key x.next n) (object_key x.next ∷ version_key x.next 1 ∷ []) ≡ false → (1 == n) ≡ false
        one_out n is = sym (version_at x.next n 1 (1 == n) refl) ∙ first_out _ _ is

        first_only : (n : ℕ) → (1 == n) ≡ false → find (is_numbered n) (made class kept).versions ≡ None
        first_only n is = ap (λ b. cond b (Some (record { number = 1; parent = None; fields = Written kept })) None) is

  held_made : (q : Key) → IsOwn q → q.a ≡ x.next → is_among q ks ≡ true → value_after (object_becomes q new_object) (value_under base q) ≡ value_in classes q new_object
  held_made q own at among =
      by_form (λ k. value_after (object_becomes k new_object) (value_under base k) ≡ value_in classes k new_object) x.next
      (spells_object classes x.next new_object (value_under base (object_key x.next)))
      (λ n. spells_written classes x.next n new_object (value_under base (version_key x.next n)) (written n (1 == n) refl))
      (λ n. spells_active classes x.next n new_object (value_under base (activation_key x.next n))) q own at where
        written : (n : ℕ) (b : Bool) → (1 == n) ≡ b → IsWritten (cond b (Some (record { number = 1; parent = None; fields = Written kept })) None)
        written n true is = λ stamp values e. absurd (cc)
        written n false is = tt

  pub create_stays : StaysFormed classes base (create class fields x)
  unfolding create
  create_stays =
      by_kept classes base x.first.added fields (λ stored. holding ks x >>= λ keys. next_number x >>= λ id. Ok (id, created class stored keys x))
      (by_few classes base x ks (λ keys. next_number x >>= λ id. Ok (id, created class kept keys x))
      (by_number classes base x (λ id. Ok (id, made_then))
      (formed_then classes base x made_then x.next new_object ks formed (own_object x.next, (own_version x.next 1, tt)) refl refl
      (put_here x x.next None new_object (fold with_key x.keys ks) (was_newest classes base x x.next None formed tt) (refl, tt)) (put_others x x.next None new_object (fold with_key x.keys ks))
      (λ q own at out. by_held q (is_among q x.keys) (none_else q own at out) (unused q own at)) held_made))) where
        by_held : (q : Key) (b : Bool) → (value_in classes q (made class kept) ≡ None) × ((below : Option (List ℕ)) → value_after (object_becomes q (made class kept)) below ≡ value_in classes q (made class kept))
            → value_under base q ≡ None → cond b (value_after (object_becomes q (made class kept)) (value_under base q)) (value_under base q) ≡ value_in classes q (made class kept)
        by_held q true its none = its.1 (value_under base q)
        by_held q false its none = none ∙ sym its.0
