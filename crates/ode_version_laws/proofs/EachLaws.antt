-- What holds of each object goes on behind each call.
use Rattle.std.proofs.Common.{◌≡◌, ◌+◌, ◌≤◌, ℕ, List, Bool, true, false, cond, length, nat_lt, Option, Some, None, Ok, Err, refl, sym, ap, subst, ◌∙◌, le_refl, arith}
use Rattle.std.proofs.lemmas.Cmp.{nat_cmp_total}
use Rattle.std.specs.BTreeMap.{is_at}
use Rattle.std.specs.Map.{lookup}
use Rattle.std.specs.Ordering.{nat_cmp}
use Rattle.ode_keep.proofs.Maps.{lookup_put}
use Rattle.ode_keep.specs.Entries.{Entries}
use Rattle.ode_laws.specs.Alike.{NumberTx}
use Rattle.ode_objects.specs.Objects.{activated, dead, derived, made, new_active, switched_off, values_of, with_states, without, written}
use Rattle.ode_objects.specs.Values.{are_fields}
use Rattle.ode_objects.specs.declared.object.Object.{Object}
use Rattle.ode_objects.specs.declared.object.Version.{Version}
use Rattle.ode_objects.specs.declared.tracked.Tracked.{Tracked}
use Rattle.ode_overlay.specs.Answers.{Answer}
use Rattle.ode_overlay.specs.Changing.{activate, create, created, deactivate, derive, drop_version, next_drawn, now_tracked, object_of, put_acts, put_new, put_now, remove, touch, touched_with, with_now, write}
use Rattle.ode_overlay.specs.Layers.{Layer, tracked_at}
use Rattle.ode_overlay_laws.proofs.AlteredLaws.{Has, at_same, has_found, now_current}
use Rattle.ode_overlay_laws.specs.Following.{Continues}
use Rattle.ode_overlay_laws.specs.Standing.{IsFresh, Stands, object_as}
use Rattle.ode_types.specs.declared.running.Running.{Running}
use Rattle.ode_value.specs.Denoting.{object_numbered}
use Rattle.ode_value.specs.Worlds as worlds
use Rattle.ode_value.specs.Worlds.{Bones}
use Rattle.ode_value.specs.declared.class.Class.{Class}
use Rattle.ode_value.specs.declared.value.Ref.{Ref}
use Rattle.ode_value.specs.declared.value.Value.{Value}
use Rattle.ode_version_laws.proofs.CallLaws.{activate_leaves, create_leaves, deactivate_leaves, derive_leaves, drop_leaves, put_leaves, remove_leaves, touch_leaves, write_leaves}
use Rattle.ode_version_laws.specs.Denoting.{IsRead}
use Rattle.ode_version_laws.specs.Leaving.{IfDone}

-- what holds of an object of the world, by its next number
abbrev pub Holding : Type 1
Holding = ℕ → worlds.Object → Type 0

-- what an object must have so that an activation of a class and a place may be new there
abbrev pub Taking : Type 1
Taking = worlds.Object → ℕ → ℕ → Type 0

abbrev pub AnyTaking : Taking
AnyTaking o class trigger = Unit {0}

-- of an object in the overlay
abbrev pub Own : Holding → ℕ → ℕ → Object → Type 0
Own P next id o = P next (object_as id o)

-- of each object of a world
abbrev pub Each : Holding → Bones → Type 0
Each P b = (id : ℕ) (o : worlds.Object) → object_numbered id b.objects ≡ Some o → P b.next o

-- of each in every transaction that goes on and for which an overlay stands; and no number is given back
abbrev pub GoesOn : Holding → NumberTx → Layer → Type 0
GoesOn P y x = (z : NumberTx) → Stands x z → Continues y z → Each P z.now.bones × (y.now.bones.next ≤ z.now.bones.next)

-- It holds where the next number is a later one, and behind each change of an object.
pub record IsKept (P : Holding) (May : Taking) : Type 0 where
  pub later : (low next : ℕ) (o : worlds.Object) → low ≤ next → P low o → P next o
  pub set : (next id n : ℕ) (fields : ℕ × List Value) (o : Object) → are_fields fields.0 fields.1 ≡ true → Own P next id o → Own P next id (written n fields o)
  pub version : (next id stamp : ℕ) (v : Version) (o : Object) → are_fields stamp (values_of v.fields) ≡ true → Own P next id o → Own P next id (derived v.number (stamp, values_of v.fields) o)
  pub dropped : (next id n : ℕ) (o : Object) → nat_lt 1 (length o.versions) ≡ true → Own P next id o → Own P next id (without n o)
  pub removed : (next id : ℕ) (o : Object) → Own P next id o → Own P next id (dead o)
  pub active : (next id class trigger : ℕ) (args : List Value) (o : Object) → May (object_as id o) class trigger → Own P next id o → Own P (next + 1) id (activated (new_active next class trigger args) o)
  pub off : (next id number : ℕ) (o : Object) → Own P next id o → Own P next id (switched_off number o)
  pub states : (next id : ℕ) (rs : List Running) (o : Object) → Own P next id o → Own P next id (with_states rs o)
  pub new : (next class : ℕ) (fields : ℕ × List Value) → are_fields fields.0 fields.1 ≡ true → Own P (next + 1) next (made class fields)

module _ (P : Holding) {May : Taking} (kept : IsKept P May) where
  module _ (x : Layer) (y : NumberTx) (stands : Stands x y) (each : Each P y.now.bones) where
    in_world : (id : ℕ) (o : worlds.Object) → object_numbered id y.now.bones.objects ≡ Some o → P x.next o
    in_world id o is = subst (λ n. P n o) stands.next (each id o is)

    tracked_own : (id : ℕ) (t : Tracked) → tracked_at id x ≡ Some t → Own P x.next id t.current
    tracked_own id t is = in_world id (object_as id t.current) (stands.tracked id t is).object

    -- by what is tracked then
    then_each : (x' : Layer) → x.next ≤ x'.next → ((id : ℕ) (t : Tracked) → tracked_at id x' ≡ Some t → Own P x'.next id t.current) → ((id : ℕ) → tracked_at id x' ≡ None → tracked_at id x ≡ None) → GoesOn P y x'
    then_each x' up now others z stood on = (each_then, subst (λ n. n ≤ z.now.bones.next) (sym stands.next) (subst (λ n. x.next ≤ n) (sym stood.next) up)) where
      each_then : Each P z.now.bones
      each_then id q is = by_tracked (tracked_at id x') refl where
        here : P x'.next q → P z.now.bones.next q
        here own = subst (λ n. P n q) (sym stood.next) own

        by_tracked : (f : Option Tracked) → tracked_at id x' ≡ f → P z.now.bones.next q
        by_tracked (Some t) at =
            let there : object_numbered id z.now.bones.objects ≡ Some (object_as id t.current) = (stood.tracked id t at).object in
            let same : object_as id t.current ≡ q = cc (there, is) in
            here (subst (P x'.next) same (now id t at))
        by_tracked None at =
            let was : object_numbered id y.now.bones.objects ≡ Some q =
            sym ((stood.others id at).object ∙ ap (λ (w : worlds.World (Unit {0}) ℕ). object_numbered id w.bones.objects) on.first ∙ sym (stands.others id (others id at)).object) ∙ is in
            here (kept.later x.next x'.next q up (in_world id q was))

    stays : GoesOn P y x
    stays = then_each x (le_refl x.next) tracked_own (λ id none. none)

    put_tracked : (next id : ℕ) → x.next ≤ next → (u : Tracked) → Own P next id u.current → (n : ℕ) (t : Tracked) (b : Bool) → is_at (nat_cmp id) n ≡ b → cond b (Some u) (tracked_at n x) ≡ Some t → Own P next n t.current
    put_tracked next id up u own n t true at is =
        let one : u ≡ t = cc in
        subst (λ m. Own P next m t.current) (sym (at_same id n at)) (subst (λ (v : Tracked). Own P next id v.current) one own)
    put_tracked next id up u own n t false at is = kept.later x.next next (object_as n t.current) up (tracked_own n t is)

    put_others : (id : ℕ) (u : Tracked) (n : ℕ) (b : Bool) → cond b (Some u) (tracked_at n x) ≡ None → tracked_at n x ≡ None
    put_others id u n true is = absurd (cc)
    put_others id u n false is = is

    module _ (id : ℕ) (new : Option Tracked) where
      -- another in its place
      put_own : (o : Object) (x' : Layer) → x.next ≤ x'.next → Own P x'.next id o → x'.objects ≡ put_now id new o x.objects → GoesOn P y x'
      put_own o x' up own same =
          then_each x' up (λ n t is. put_tracked x'.next id up then_tracked its n t (is_at (nat_cmp id) n) refl (sym (found n) ∙ is)) (λ n is. put_others id then_tracked n (is_at (nat_cmp id) n) (sym (found n) ∙ is)) where
            then_tracked : Tracked
            then_tracked = now_tracked o (object_of new id x)

            its : Own P x'.next id then_tracked.current
            its = subst (Own P x'.next id) (sym (now_current o (object_of new id x))) own

            found : (n : ℕ) → tracked_at n x' ≡ cond (is_at (nat_cmp id) n) (Some then_tracked) (tracked_at n x)
            found n = ap (lookup (is_at (nat_cmp n))) same ∙ lookup_put nat_cmp_total id then_tracked n x.objects

    module _ (id : ℕ) (new : Option Tracked) (fresh : IsFresh x y id new) where
      was_there : (t : Tracked) → object_of new id x ≡ Some t → object_numbered id y.now.bones.objects ≡ Some (object_as id t.current)
      was_there t is = let there : Has y id (Some t) = subst (Has y id) is (has_found x y id new stands fresh) in there.object

      was_own : (t : Tracked) → object_of new id x ≡ Some t → Own P x.next id t.current
      was_own t is = in_world id (object_as id t.current) (was_there t is)

      -- one that is read
      read_own : (x' : Layer) → x'.next ≡ x.next → x'.objects ≡ put_new id new x.objects → GoesOn P y x'
      read_own x' same_next same = by_new new fresh same where
        up : x.next ≤ x'.next
        up = subst (λ n. n ≤ x'.next) same_next (le_refl x'.next)

        later : (n : ℕ) (t : Tracked) → Own P x.next n t.current → Own P x'.next n t.current
        later n t own = kept.later x.next x'.next (object_as n t.current) up own

        by_new : (f : Option Tracked) → IsFresh x y id f → x'.objects ≡ put_new id f x.objects → GoesOn P y x'
        by_new None is same =
            then_each x' up (λ n u at. later n u (tracked_own n u (sym (ap (lookup (is_at (nat_cmp n))) same) ∙ at))) (λ n at. sym (ap (lookup (is_at (nat_cmp n))) same) ∙ at)
        by_new (Some u) is same =
            let found : (n : ℕ) → tracked_at n x' ≡ cond (is_at (nat_cmp id) n) (Some u) (tracked_at n x) = λ n. ap (lookup (is_at (nat_cmp n))) same ∙ lookup_put nat_cmp_total id u n x.objects in
            then_each x' up (λ n v at. put_tracked x'.next id up u (later id u (in_world id (object_as id u.current) is.object)) n v (is_at (nat_cmp id) n) refl (sym (found n) ∙ at))
            (λ n at. put_others id u n (is_at (nat_cmp id) n) (sym (found n) ∙ at))

  -- ---- each call

  pub write_each : (classes : List Class) (base : Entries) (x : Layer) (y : NumberTx) (r : Ref) (slot : ℕ) (value : Value) → Stands x y → Each P y.now.bones → IsRead classes base x y r.object → IfDone (GoesOn P y) (write classes base r slot value x)
  write_each classes base x y r slot value stands each found =
      write_leaves (GoesOn P y) classes base x r slot value found.object found.read (λ t v fields fit keys is.
      put_own x y stands each r.object found.object (written v.number fields t.current) (with_now r.object found.object (written v.number fields t.current) keys x) (le_refl x.next)
      (kept.set x.next r.object v.number fields t.current fit (was_own x y stands each r.object found.object found.is t is)) refl)

  pub derive_each : (classes : List Class) (base : Entries) (x : Layer) (y : NumberTx) (r : Ref) → Stands x y → Each P y.now.bones → IsRead classes base x y r.object → IfDone (GoesOn P y) (derive classes base r x)
  derive_each classes base x y r stands each found =
      derive_leaves (GoesOn P y) classes base x r found.object found.read (λ t v fit keys is.
      put_own x y stands each r.object found.object (derived v.number (x.first.added, values_of v.fields) t.current) (with_now r.object found.object (derived v.number (x.first.added, values_of v.fields) t.current) keys x) (le_refl x.next)
      (kept.version x.next r.object x.first.added v t.current fit (was_own x y stands each r.object found.object found.is t is)) refl)

  pub drop_each : (classes : List Class) (base : Entries) (x : Layer) (y : NumberTx) (r : Ref) → Stands x y → Each P y.now.bones → IsRead classes base x y r.object → IfDone (GoesOn P y) (drop_version classes base r x)
  drop_each classes base x y r stands each found =
      drop_leaves (GoesOn P y) classes base x r found.object found.read (λ t v more keys is.
      put_own x y stands each r.object found.object (without v.number t.current) (with_now r.object found.object (without v.number t.current) keys x) (le_refl x.next)
      (kept.dropped x.next r.object v.number t.current more (was_own x y stands each r.object found.object found.is t is)) refl)

  pub touch_each : (classes : List Class) (base : Entries) (x : Layer) (y : NumberTx) (id : ℕ) → Stands x y → Each P y.now.bones → IsRead classes base x y id → IfDone (GoesOn P y) (touch classes base id x)
  touch_each classes base x y id stands each found =
      touch_leaves (GoesOn P y) classes base x id found.object found.read (stays x y stands each) (λ t keys is. read_own x y stands each id found.object found.is (touched_with found.object keys id x) refl refl)

  pub remove_each : (classes : List Class) (base : Entries) (x : Layer) (y : NumberTx) (id : ℕ) → Stands x y → Each P y.now.bones → IsRead classes base x y id → IfDone (GoesOn P y) (remove classes base id x)
  remove_each classes base x y id stands each found =
      remove_leaves (GoesOn P y) classes base x id found.object found.read (λ t keys is.
      put_own x y stands each id found.object (dead t.current) (with_now id found.object (dead t.current) keys x) (le_refl x.next) (kept.removed x.next id t.current (was_own x y stands each id found.object found.is t is)) refl)

  pub activate_each : (classes : List Class) (base : Entries) (x : Layer) (y : NumberTx) (id class trigger : ℕ) (args : List Value) → Stands x y → Each P y.now.bones → IsRead classes base x y id
      → ((o : worlds.Object) → object_numbered id y.now.bones.objects ≡ Some o → May o class trigger) → IfDone (GoesOn P y) (activate classes base id class trigger args x)
  activate_each classes base x y id class trigger args stands each found may =
      activate_leaves (GoesOn P y) classes base x id class trigger args found.object found.read (λ t keys is.
      put_own x y stands each id found.object (activated (new_active x.next class trigger args) t.current) (next_drawn (with_now id found.object (activated (new_active x.next class trigger args) t.current) keys x)) (omega arith)
      (kept.active x.next id class trigger args t.current (may (object_as id t.current) (was_there x y stands each id found.object found.is t is)) (was_own x y stands each id found.object found.is t is)) refl)

  pub deactivate_each : (classes : List Class) (base : Entries) (x : Layer) (y : NumberTx) (id number : ℕ) → Stands x y → Each P y.now.bones → IsRead classes base x y id → IfDone (GoesOn P y) (deactivate classes base id number x)
  deactivate_each classes base x y id number stands each found =
      deactivate_leaves (GoesOn P y) classes base x id number found.object found.read (stays x y stands each) (λ t keys is.
      put_own x y stands each id found.object (switched_off number t.current) (with_now id found.object (switched_off number t.current) keys x) (le_refl x.next) (kept.off x.next id number t.current (was_own x y stands each id found.object found.is t is)) refl)

  pub put_each : (classes : List Class) (base : Entries) (x : Layer) (y : NumberTx) (id : ℕ) (rs : List Running) → Stands x y → Each P y.now.bones → IsRead classes base x y id → IfDone (GoesOn P y) (put_acts classes base id rs x)
  put_each classes base x y id rs stands each found =
      put_leaves (GoesOn P y) classes base x id rs found.object found.read (stays x y stands each) (λ t keys is.
      put_own x y stands each id found.object (with_states rs t.current) (with_now id found.object (with_states rs t.current) keys x) (le_refl x.next) (kept.states x.next id rs t.current (was_own x y stands each id found.object found.is t is)) refl)

  pub create_each : (class : ℕ) (fields : List Value) (x : Layer) (y : NumberTx) → Stands x y → Each P y.now.bones → IfDone (GoesOn P y) (create class fields x)
  create_each class fields x y stands each =
      let stamped : ℕ × List Value = (x.first.added, fields) in
      create_leaves (GoesOn P y) class fields x (λ fit keys. put_own x y stands each x.next None (made class stamped) (created class stamped keys x) (omega arith) (kept.new x.next class stamped fit) refl)

-- what follows of a layer follows where a call is done
pub done_then : {R : Type 0} (P Q : Layer → Type 0) → ((x : Layer) → P x → Q x) → (answer : Answer (R × Layer)) → IfDone P answer → IfDone Q answer
done_then P Q then (Ok done) is = then done.1 is
done_then P Q then (Err why) is = tt
