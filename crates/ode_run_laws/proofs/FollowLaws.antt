-- From the first world of a transaction to each later one no number falls, and none is given twice.
use Rattle.std.proofs.Common.{◌≡◌, ℕ, ◌+◌, ◌<◌, ◌≤◌, true, cond, not, List, [], ◌∷◌, ◌++◌, map, length, ◌==◌, Option, Some, None, refl, sym, ap, ◌∙◌, subst, arith}
use Rattle.std.specs.List.{AllByRecursion, find}
use Rattle.std.specs.Option.{IfNone, MatchOption}
use Rattle.std.specs.Prelude.{slice_set}
use Rattle.std.proofs.lemmas.Bool.{ltb-true}
use Rattle.ode_value.specs.declared.value.Value.{Value}
use Rattle.ode_value.specs.Classes.{Trigger}
use Rattle.ode_value.specs.Denoting.{object_numbered}
use Rattle.ode_value.specs.Firings.{object_after, both_lists, with_point}
use Rattle.ode_value.specs.GoodWorlds.{RiseFrom}
use Rattle.ode_value.specs.Making.{with_fields, derived_from, object_with, with_activation, with_new, with_active}
use Rattle.ode_value.specs.Objects.{Activation}
use Rattle.ode_value.specs.Pasts.{Past}
use Rattle.ode_value.specs.Transactions.{Tx}
use Rattle.ode_value.specs.Versions.{Version, version_numbered}
use Rattle.ode_value.specs.Worlds.{Object, Bones, with_object}
use Rattle.ode_machine.specs.Stability.{StaysObject, IsOldActivation, AreActivations, FollowsObject}
use Rattle.ode_laws.specs.Numbered.{HasNumbers, AreNumbered}
use Rattle.ode_run_laws.specs.Orders.{HasVersions, unclassed}
use Rattle.ode_laws.proofs.Alone.{Keeps}
use Rattle.ode_laws.proofs.AlikePairs.{IsGentle, all_with, gentle_numbered, new_numbered, active_numbered}
use Rattle.ode_laws.proofs.AlikeWork.{set_gentle, derived_gentle, dropped_gentle, removed_gentle, off_gentle, after_gentle}
use Rattle.ode_laws.proofs.Each.{all-append, all-filter}
use Rattle.ode_laws.proofs.Numbers.{apart}
use Rattle.ode_run_laws.proofs.OrderlyLaws.{version_of_number, all_same, fields_same, set_versions, derived_versions, dropped_versions, all_with_found}
use Rattle.ode_laws.proofs.Rows.{numbered_id, at_numbered}
use Rattle.ode_laws.proofs.Sides.{altered, turned, stamp_in, set_in, dropped_from, removed, off_in}

if_none : (m : Option Version) (P : Type 0) → P → IfNone m P
if_none None P p = p
if_none (Some v) P p = tt

match_old : (m : Option Activation) (P : Type 0) → P → MatchOption m P (λ b. Unit {0})
match_old None P p = p
match_old (Some b) P p = tt

-- whatever holds of the numbers of things, and of those above a number, holds of these
abbrev Lifts : {X : Type 0} → (X → ℕ) → (ℕ → Type 0) → List X → List X → Type 1
Lifts number new xs ys = (P : ℕ → Type 0) → ((n : ℕ) → new n → P n) → AllByRecursion (λ x. P (number x)) xs → AllByRecursion (λ x. P (number x)) ys

abbrev act_number : Activation → ℕ
act_number a = a.number

module _ (b0 : Bones) where
  pub follows_by : (o q : Object) → q.id ≡ o.id → q.class ≡ o.class → o.last ≤ q.last → Lifts version_of_number (λ n. o.last < n) o.versions q.versions → Lifts act_number (λ n. b0.next ≤ n) o.activations q.activations
      → FollowsObject b0 o → FollowsObject b0 q
  follows_by o q ids class last versions acts f =
      subst (λ n. MatchOption (object_numbered n b0.objects) ((b0.next ≤ n) × AreActivations b0.next q.activations) (λ p. StaysObject p q × AllByRecursion (IsOldActivation b0.next p) q.activations)) (sym ids)
      (by_found (object_numbered o.id b0.objects) f)
    where
      by_found : (m : Option Object) → MatchOption m ((b0.next ≤ o.id) × AreActivations b0.next o.activations) (λ p. StaysObject p o × AllByRecursion (IsOldActivation b0.next p) o.activations)
          → MatchOption m ((b0.next ≤ o.id) × AreActivations b0.next q.activations) (λ p. StaysObject p q × AllByRecursion (IsOldActivation b0.next p) q.activations)
      by_found None g = (g.0, acts (λ n. b0.next ≤ n) (λ n h. h) g.1)
      by_found (Some p) g =
          let less : p.last ≤ o.last = g.0.last in (
            record {
              class = class ∙ g.0.class;
              last = omega arith;
              versions = versions (λ n. IfNone (version_numbered n p.versions) (p.last < n)) (λ n above. if_none (version_numbered n p.versions) (p.last < n) (omega arith)) g.0.versions;
            },
            acts (λ n. MatchOption (find (λ (b : Activation). b.number == n) p.activations) (b0.next ≤ n) (λ b. Unit {0}))
                (λ n above. match_old (find (λ (b : Activation). b.number == n) p.activations) (b0.next ≤ n) above) g.1,
          )

  gentle_follows : (f : Object → Object) → IsGentle f → ((o : Object) → (f o).class ≡ o.class) → ((o : Object) → o.last ≤ (f o).last) → ((o : Object) → Lifts version_of_number (λ n. o.last < n) o.versions (f o).versions)
      → (o : Object) → FollowsObject b0 o → FollowsObject b0 (f o)
  gentle_follows f g class last versions o =
      follows_by o (f o) (g.id o) (class o) (last o) (versions o)
      (λ P new all. subst (AllByRecursion (λ (a : Activation). P a.number)) (sym (g.activations o)) (all_same act_number (g.each o) (λ a. ap act_number (g.same o a)) P o.activations all))

  -- a new number was never there
  none_numbered : (next n : ℕ) → next ≤ n → (os : List Object) → AllByRecursion (HasNumbers next) os → object_numbered n os ≡ None
  none_numbered next n less [] all = refl
  none_numbered next n less (o ∷ os) all =
      let drawn : o.id < next = all.0.drawn in
      ap (λ t. cond t (Some o) (object_numbered n os)) (apart o.id n (omega arith)) ∙ none_numbered next n less os all.1

  module _ {O A : Type 0} (past : Past O A) (numbers : AllByRecursion (HasNumbers b0.next) b0.objects) where
    pub record Following (n : ℕ) (x : Tx O A) : Type 0 where
      pub first : x.first.bones ≡ b0
      pub next : b0.next ≤ x.now.bones.next
      pub objects : AllByRecursion (FollowsObject b0) x.now.bones.objects
      pub numbered : AreNumbered (unclassed x.now.bones)
      pub versions : AllByRecursion HasVersions x.now.bones.objects

    gentle_following : (n : ℕ) (x : Tx O A) (id : ℕ) (f : Object → Object) → IsGentle f → ((o : Object) → (f o).class ≡ o.class) → ((o : Object) → o.last ≤ (f o).last) → ((o : Object) → Lifts version_of_number (λ m. o.last < m) o.versions (f o).versions)
        → AllByRecursion HasVersions (with_object id f x.now.bones.objects) → Following n x → Following n (altered id f x)
    gentle_following n x id f g class last lifts versions h = record {
      first = h.first;
      next = h.next;
      objects = all_with (FollowsObject b0) id f (gentle_follows f g class last lifts) x.now.bones.objects h.objects;
      numbered = gentle_numbered id f g (unclassed x.now.bones) h.numbered;
      versions = versions;
    }

    -- one that leaves versions as they are
    pub plain_following : (n : ℕ) (x : Tx O A) (id : ℕ) (f : Object → Object) → IsGentle f → ((o : Object) → (f o).class ≡ o.class) → ((o : Object) → (f o).last ≡ o.last) → ((o : Object) → (f o).versions ≡ o.versions)
        → Following n x → Following n (altered id f x)
    plain_following n x id f g class last versions h =
        gentle_following n x id f g class (λ o. let e : (f o).last ≡ o.last = last o in omega arith) (λ o P new all. subst (AllByRecursion (λ (v : Version). P v.number)) (sym (versions o)) all)
        (all_with HasVersions id f (λ o v. record {
          some = subst (λ vs. 0 < length vs) (sym (versions o)) v.some;
          rising = subst (λ vs. RiseFrom 0 (map version_of_number vs)) (sym (versions o)) v.rising;
          drawn = subst (λ m. AllByRecursion (λ (w : Version). w.number ≤ m) (f o).versions) (sym (last o)) (subst (AllByRecursion (λ (w : Version). w.number ≤ o.last)) (sym (versions o)) v.drawn);
        }) x.now.bones.objects h.versions) h

    lift_append : (o : Object) (new : Version) → o.last < new.number → Lifts version_of_number (λ m. o.last < m) o.versions (o.versions ++ new ∷ [])
    lift_append o new above P lifts all = all-append (λ (v : Version). P v.number) o.versions (new ∷ []) all (lifts new.number above, tt)

    new_following : (n : ℕ) (x : Tx O A) (class : ℕ) (fields : List Value) → Following n x → Following n (turned (with_new past class fields) x)
    new_following n x class fields h = record {
      first = h.first;
      next = let less : b0.next ≤ x.now.bones.next = h.next in omega arith;
      objects = all-append (FollowsObject b0) x.now.bones.objects (object_with (stamp_in x) x.now.bones.next class fields ∷ []) h.objects (fresh, tt);
      numbered = new_numbered (unclassed x.now.bones) class fields h.numbered;
      versions =
          all-append HasVersions x.now.bones.objects (object_with (stamp_in x) x.now.bones.next class fields ∷ []) h.versions
          (record { some = omega arith; rising = (omega arith, tt); drawn = (omega arith, tt) }, tt);
    }
      where
        fresh : FollowsObject b0 (object_with (stamp_in x) x.now.bones.next class fields)
        fresh =
            subst (λ m. MatchOption m ((b0.next ≤ x.now.bones.next) × AreActivations b0.next []) (λ p. StaysObject p (object_with (stamp_in x) x.now.bones.next class fields) × AllByRecursion (IsOldActivation b0.next p) []))
            (sym (none_numbered b0.next x.now.bones.next h.next b0.objects numbers)) (h.next, tt)

    active_following : (n : ℕ) (x : Tx O A) (id : ℕ) (t : Trigger) (args : List Value) → Following n x → Following n (turned (with_active past id t args) x)
    active_following n x id t args h = record {
      first = h.first;
      next = let less : b0.next ≤ x.now.bones.next = h.next in omega arith;
      objects =
          all_with (FollowsObject b0) id (with_activation t args x.now.bones.next)
          (λ o. follows_by o (with_activation t args x.now.bones.next o) refl refl (omega arith) (λ P new all. all)
          (λ P new all. all-append (λ (a : Activation). P a.number) o.activations (record { number = x.now.bones.next; class = t.class; trigger = t.place; args = args; on = true } ∷ []) all (new x.now.bones.next h.next, tt)))
          x.now.bones.objects h.objects;
      numbered = active_numbered (unclassed x.now.bones) id t args h.numbered;
      versions = all_with HasVersions id (with_activation t args x.now.bones.next) (λ o v. record { some = v.some; rising = v.rising; drawn = v.drawn }) x.now.bones.objects h.versions;
    }

    pub following_keeps : Keeps past Following
    following_keeps = record {
      less = λ n x h. record { first = h.first; next = h.next; objects = h.objects; numbered = h.numbered; versions = h.versions };
      statement = λ n x h more. record { first = h.first; next = h.next; objects = h.objects; numbered = h.numbered; versions = h.versions };
      foot = λ n x change h. record { first = h.first; next = h.next; objects = h.objects; numbered = h.numbered; versions = h.versions };
      line = λ n x line h fits. record { first = h.first; next = h.next; objects = h.objects; numbered = h.numbered; versions = h.versions };
      keys = λ n x keys h fits. record { first = h.first; next = h.next; objects = h.objects; numbered = h.numbered; versions = h.versions };
      touch = λ n x id h. record { first = h.first; next = h.next; objects = h.objects; numbered = h.numbered; versions = h.versions };
      defer = λ n x f h more. record { first = h.first; next = h.next; objects = h.objects; numbered = h.numbered; versions = h.versions };
      collect = λ n x independent f h room. record { first = h.first; next = h.next; objects = h.objects; numbered = h.numbered; versions = h.versions };
      set = λ n x r v place value h is small.
          gentle_following n x r.object (set_in (stamp_in x) v place value) (set_gentle (stamp_in x) v place value) (λ o. refl) (λ o. omega arith)
          (λ o P new all. all_same version_of_number (with_fields (stamp_in x) v.number (slice_set v.fields place value))
          (fields_same (stamp_in x) v.number (slice_set v.fields place value)) P o.versions all)
          (all_with HasVersions r.object (set_in (stamp_in x) v place value) (set_versions (stamp_in x) v place value) x.now.bones.objects h.versions) h;
      derive = λ n x r v o h is there more small.
          gentle_following n x o.id (derived_from (stamp_in x) v) (derived_gentle (stamp_in x) v) (λ q. refl) (λ q. omega arith)
          (λ q. lift_append q (record { number = q.last + 1; parent = Some v.number; stamp = stamp_in x; fields = v.fields }) (omega arith))
          (all_with HasVersions o.id (derived_from (stamp_in x) v) (derived_versions (stamp_in x) v) x.now.bones.objects h.versions) h;
      drop = λ n x r v o h is there more.
          gentle_following n x o.id (dropped_from v) (dropped_gentle v) (λ q. refl) (λ q. omega arith)
          (λ q P new all. all-filter (λ (w : Version). P w.number) (λ (w : Version). not (w.number == v.number)) q.versions all)
          (all_with_found HasVersions o.id (dropped_from v) o (dropped_versions v o (ltb-true 1 (length o.versions) more)) x.now.bones.objects
          (ap (λ m. object_numbered m x.now.bones.objects) (numbered_id r.object x.now.bones.objects o (at_numbered x.now.bones r.object o there)) ∙ at_numbered x.now.bones r.object o there) h.versions) h;
      remove = λ n x id h. plain_following n x id removed removed_gentle (λ o. refl) (λ o. refl) (λ o. refl) h;
      off = λ n x id number h. plain_following n x id (off_in number) (off_gentle number) (λ o. refl) (λ o. refl) (λ o. refl) h;
      new = λ n x class fields h left small. new_following n x class fields h;
      active = λ n x id t args h left short. active_following n x id t args h;
      point = λ n x id p o firings h there.
          plain_following n (turned (with_point past (both_lists past) p o) x) id (object_after firings) (after_gentle firings) (λ q. refl) (λ q. refl) (λ q. refl)
          (record { first = h.first; next = h.next; objects = h.objects; numbered = h.numbered; versions = h.versions });
    }
