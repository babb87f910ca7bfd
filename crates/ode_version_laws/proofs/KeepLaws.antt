-- Each call leaves an overlay that remembers.
use Rattle.std.proofs.Common.{◌≡◌, ℕ, List, option_map, Option, Some, None, Ok, refl, sym, subst, ◌∙◌, ◌≤◌, le_refl, arith}
use Rattle.ode_heap.specs.Answers.{Found, There, Broken}
use Rattle.ode_keep.specs.Entries.{Entries}
use Rattle.ode_laws.specs.Alike.{NumberTx, NumberWorld}
use Rattle.ode_objects.specs.Loading.{whole_in}
use Rattle.ode_objects.specs.Objects.{activated, dead, derived, made, new_active, switched_off, values_of, with_states, without, written}
use Rattle.ode_objects.specs.Tracked.{read_object}
use Rattle.ode_objects.specs.declared.object.Object.{Object}
use Rattle.ode_objects.specs.declared.tracked.Tracked.{Tracked}
use Rattle.ode_overlay.specs.Answers.{◌>>=◌, from_records}
use Rattle.ode_overlay.specs.Changing.{activate, create, deactivate, derive, drop_version, fresh, fresh_at, object_of, put_acts, remove, touch, touched_with, with_now, write}
use Rattle.ode_overlay.specs.Layers.{Layer, tracked_at}
use Rattle.ode_overlay_laws.specs.Following.{IsNewNumber}
use Rattle.ode_overlay_laws.specs.Standing.{IsFresh, IsIn, Stands}
use Rattle.ode_types.specs.declared.running.Running.{Running}
use Rattle.ode_value.specs.declared.class.Class.{Class}
use Rattle.ode_value.specs.declared.key.Key.{Key}
use Rattle.ode_value.specs.declared.value.Ref.{Ref}
use Rattle.ode_value.specs.declared.value.Value.{Value}
use Rattle.ode_version_laws.proofs.CallLaws.{activate_leaves, create_leaves, deactivate_leaves, derive_leaves, drop_leaves, put_leaves, remove_leaves, touch_leaves, write_leaves}
use Rattle.ode_version_laws.proofs.RememberLaws.{remembers_changed, remembers_read}
use Rattle.ode_version_laws.specs.Denoting.{IsRead}
use Rattle.ode_version_laws.specs.Leaving.{StillRemembers}
use Rattle.ode_version_laws.specs.Remembering.{IsKnown, NeverFalls, Remembers, WasFirst}

-- ---- what was read

module _ (classes : List Class) (base : Entries) (x : Layer) (y : NumberTx) (id : ℕ) (stands : Stands x y) (remembers : Remembers x.objects y.first) where
  is_read : (u : Tracked) (f : Found (Option Object)) → from_records f >>= (λ o. Ok (option_map read_object o)) ≡ Ok (Some u) → IsIn y.first id u.current → WasFirst y.first id u.current u.first
  is_read u (There (Some o)) is in_first = let same : read_object o ≡ u = cc in subst (λ (v : Tracked). IsIn y.first id v.current → WasFirst y.first id v.current v.first) same (λ was. was) in_first
  is_read u (There None) is in_first = absurd (cc)
  is_read u (Broken k) is in_first = absurd (cc)

  new_known : (u : Tracked) (f : Option Tracked) → tracked_at id x ≡ f → fresh_at classes base id f ≡ Ok (Some u) → IsIn y.now id u.current → WasFirst y.first id u.current u.first
  new_known u (Some t) untracked is in_now = absurd (cc)
  new_known u None untracked is in_now =
      let same = stands.others id untracked in
      is_read u (whole_in classes base id) is (record { object = sym same.object ∙ in_now.object; kept = sym same.kept ∙ in_now.kept })

  known : (new : Option Tracked) → fresh classes base id x ≡ Ok new → IsFresh x y id new → (t : Tracked) → object_of new id x ≡ Some t → WasFirst y.first id t.current t.first
  unfolding fresh
  known None read is t found = remembers.first id t found
  known (Some u) read is t found = let same : u ≡ t = cc in subst (λ (v : Tracked). WasFirst y.first id v.current v.first) same (new_known u (tracked_at id x) refl read is)

  module _ (found : IsRead classes base x y id) where
    abbrev w : NumberWorld
    w = y.first

    abbrev new : Option Tracked
    new = found.object

    is_known : (t : Tracked) → object_of new id x ≡ Some t → IsKnown w id (object_of new id x)
    is_known t is = subst (IsKnown w id) (sym is) (known new found.read found.is t is)

    put : (t : Tracked) → object_of new id x ≡ Some t → (o : Object) → t.current.last ≤ o.last → (keys : List Key) → Remembers (with_now id new o keys x).objects w
    put t is o rises keys = remembers_changed w x.objects id remembers new o (is_known t is) (subst (λ (f : Option Tracked). NeverFalls f o) (sym is) rises)

    put_read : (t : Tracked) → object_of new id x ≡ Some t → (keys : List Key) → Remembers (touched_with new keys id x).objects w
    put_read t is keys = remembers_read w x.objects id remembers new (is_known t is)

-- ---- each call

pub write_keeps : (classes : List Class) (base : Entries) (x : Layer) (y : NumberTx) (r : Ref) (slot : ℕ) (value : Value) → Stands x y → Remembers x.objects y.first → IsRead classes base x y r.object → StillRemembers y.first (write classes base r slot value x)
write_keeps classes base x y r slot value stands remembers found =
    write_leaves (λ (x : Layer). Remembers x.objects y.first) classes base x r slot value found.object found.read (λ t v fields fit keys is. put classes base x y r.object stands remembers found t is (written v.number fields t.current) (le_refl t.current.last) keys)

pub derive_keeps : (classes : List Class) (base : Entries) (x : Layer) (y : NumberTx) (r : Ref) → Stands x y → Remembers x.objects y.first → IsRead classes base x y r.object → StillRemembers y.first (derive classes base r x)
derive_keeps classes base x y r stands remembers found =
    derive_leaves (λ (x : Layer). Remembers x.objects y.first) classes base x r found.object found.read (λ t v fit keys is. put classes base x y r.object stands remembers found t is (derived v.number (x.first.added, values_of v.fields) t.current) (omega arith) keys)

pub drop_keeps : (classes : List Class) (base : Entries) (x : Layer) (y : NumberTx) (r : Ref) → Stands x y → Remembers x.objects y.first → IsRead classes base x y r.object → StillRemembers y.first (drop_version classes base r x)
drop_keeps classes base x y r stands remembers found =
    drop_leaves (λ (x : Layer). Remembers x.objects y.first) classes base x r found.object found.read (λ t v more keys is. put classes base x y r.object stands remembers found t is (without v.number t.current) (le_refl t.current.last) keys)

pub touch_keeps : (classes : List Class) (base : Entries) (x : Layer) (y : NumberTx) (id : ℕ) → Stands x y → Remembers x.objects y.first → IsRead classes base x y id → StillRemembers y.first (touch classes base id x)
touch_keeps classes base x y id stands remembers found =
    touch_leaves (λ (x : Layer). Remembers x.objects y.first) classes base x id found.object found.read remembers (λ t keys is. put_read classes base x y id stands remembers found t is keys)

pub remove_keeps : (classes : List Class) (base : Entries) (x : Layer) (y : NumberTx) (id : ℕ) → Stands x y → Remembers x.objects y.first → IsRead classes base x y id → StillRemembers y.first (remove classes base id x)
remove_keeps classes base x y id stands remembers found =
    remove_leaves (λ (x : Layer). Remembers x.objects y.first) classes base x id found.object found.read (λ t keys is. put classes base x y id stands remembers found t is (dead t.current) (le_refl t.current.last) keys)

pub activate_keeps : (classes : List Class) (base : Entries) (x : Layer) (y : NumberTx) (id class trigger : ℕ) (args : List Value) → Stands x y → Remembers x.objects y.first → IsRead classes base x y id → StillRemembers y.first (activate classes base id class trigger args x)
activate_keeps classes base x y id class trigger args stands remembers found =
    activate_leaves (λ (x : Layer). Remembers x.objects y.first) classes base x id class trigger args found.object found.read (λ t keys is. put classes base x y id stands remembers found t is (activated (new_active x.next class trigger args) t.current) (le_refl t.current.last) keys)

pub deactivate_keeps : (classes : List Class) (base : Entries) (x : Layer) (y : NumberTx) (id number : ℕ) → Stands x y → Remembers x.objects y.first → IsRead classes base x y id → StillRemembers y.first (deactivate classes base id number x)
deactivate_keeps classes base x y id number stands remembers found =
    deactivate_leaves (λ (x : Layer). Remembers x.objects y.first) classes base x id number found.object found.read remembers (λ t keys is. put classes base x y id stands remembers found t is (switched_off number t.current) (le_refl t.current.last) keys)

pub put_keeps : (classes : List Class) (base : Entries) (x : Layer) (y : NumberTx) (id : ℕ) (rs : List Running) → Stands x y → Remembers x.objects y.first → IsRead classes base x y id → StillRemembers y.first (put_acts classes base id rs x)
put_keeps classes base x y id rs stands remembers found =
    put_leaves (λ (x : Layer). Remembers x.objects y.first) classes base x id rs found.object found.read remembers (λ t keys is. put classes base x y id stands remembers found t is (with_states rs t.current) (le_refl t.current.last) keys)

pub create_keeps : (class : ℕ) (fields : List Value) (x : Layer) (y : NumberTx) → Stands x y → Remembers x.objects y.first → IsNewNumber x y x.next → StillRemembers y.first (create class fields x)
create_keeps class fields x y stands remembers new =
    create_leaves (λ (x : Layer). Remembers x.objects y.first) class fields x (λ fit keys. remembers_changed y.first x.objects x.next remembers None (made class (x.first.added, fields)) (new_known (tracked_at x.next x) refl) (new_falls (tracked_at x.next x) refl)) where
      new_known : (f : Option Tracked) → tracked_at x.next x ≡ f → IsKnown y.first x.next f
      new_known None is = let same = stands.others x.next is in record { object = sym same.object ∙ new.object; kept = sym same.kept ∙ new.kept }
      new_known (Some t) is = remembers.first x.next t is

      new_falls : (f : Option Tracked) → tracked_at x.next x ≡ f → NeverFalls f (made class (x.first.added, fields))
      new_falls None is = tt
      new_falls (Some t) is = let there = (stands.tracked x.next t is).object in absurd (cc (there, new.object))
