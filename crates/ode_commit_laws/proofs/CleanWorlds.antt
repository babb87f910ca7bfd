-- A point of a live object leaves the same, but for what is gone, in a world and in the same without what is gone.
use Rattle.std.proofs.Common.{◌≡◌, ◌==◌, ℕ, List, [], ◌∷◌, map, Bool, true, false, cond, not, Option, Some, None, refl, sym, ap, subst, ◌∙◌}
use Rattle.std.proofs.lemmas.Bool.{eq-eqb}
use Rattle.std.specs.Prelude.{◌&&◌, ◌||◌}
use Rattle.std.specs.List.{filter, filter_map, list_any}
use Rattle.std.specs.Option.{option_and_then, option_map, option_map_or}
use Rattle.ode_commit_laws.proofs.CleanLists.{all_twice, kept_after, kept_at_number, kept_with, number_of, of_number}
use Rattle.ode_commit_laws.proofs.CleanPoints.{same_fired, same_growth}
use Rattle.ode_commit_laws.proofs.CleanRows.{Below, IsWithin, kept_there, kept_with_at, rows_again, rows_with}
use Rattle.ode_laws.proofs.AlikePairs.{all_found, gentle_numbered}
use Rattle.ode_laws.proofs.AlikeWork.{after_gentle}
use Rattle.ode_laws.proofs.Rows.{at_numbered, find-with}
use Rattle.ode_laws.specs.Numbered.{AreNumbered, HasNumbers}
use Rattle.ode_value.specs.Denoting.{if_live, object_at, object_numbered}
use Rattle.ode_value.specs.Firings.{Place, after_firings, ends_by, fired, fired_in, grown_past, new_point, object_after, with_point}
use Rattle.ode_value.specs.GoodWorlds.{RiseFrom}
use Rattle.ode_value.specs.Keeping.{is_active, kept_bones, kept_object, kept_past, kept_row, kept_world}
use Rattle.ode_value.specs.Objects.{Activation}
use Rattle.ode_value.specs.Pasts.{Kept, Past}
use Rattle.ode_value.specs.Transactions.{Firing}
use Rattle.ode_value.specs.Worlds.{Bones, Object, World, kept_at, with_kept, with_object}
use Rattle.ode_value.specs.declared.event.Kind.{Kind}

-- ---- which are on behind firings

on_before : (fs : List Firing) (n : ℕ) (acts : List Activation) → list_any (of_number n) (filter is_active (map (after_firings fs) acts)) ≡ true → list_any (of_number n) (filter is_active acts) ≡ true
on_before fs n [] has = has
on_before fs n (a ∷ acts) has = by_on a.on refl (list_any (ends_by a.number) fs) has (on_before fs n acts) where
  longer : (b t : Bool) → list_any (of_number n) (filter is_active acts) ≡ true → (t || list_any (of_number n) (filter is_active acts)) ≡ true
  longer b true more = refl
  longer b false more = more

  either : (t : Bool) → (t || list_any (of_number n) (filter is_active (map (after_firings fs) acts))) ≡ true
      → (list_any (of_number n) (filter is_active (map (after_firings fs) acts)) ≡ true → list_any (of_number n) (filter is_active acts) ≡ true) → (t || list_any (of_number n) (filter is_active acts)) ≡ true
  either true some more = refl
  either false some more = more some

  by_on : (b : Bool) → a.on ≡ b → (e : Bool)
      → list_any (of_number n) (cond (b && not e) (after_firings fs a ∷ filter is_active (map (after_firings fs) acts)) (filter is_active (map (after_firings fs) acts))) ≡ true
      → (list_any (of_number n) (filter is_active (map (after_firings fs) acts)) ≡ true → list_any (of_number n) (filter is_active acts) ≡ true)
      → list_any (of_number n) (cond b (a ∷ filter is_active acts) (filter is_active acts)) ≡ true
  by_on true on true some more = longer true (a.number == n) (more some)
  by_on true on false some more = either (a.number == n) some more
  by_on false on e some more = more some

within_after : (fs : List Firing) (o : Object) → IsWithin (kept_object (object_after fs o)) (kept_object o)
within_after fs o n has = on_before fs n o.activations has

-- ---- objects behind a change of one

none_with : (n id : ℕ) (f : Object → Object) → ((o : Object) → (f o).id ≡ o.id) → (os : List Object) → object_numbered n os ≡ None → object_numbered n (with_object id f os) ≡ None
none_with n id f same [] none = refl
none_with n id f same (o ∷ os) none = by_tests (o.id == id) (o.id == n) refl none (none_with n id f same os) where
  by_tests : (a b : Bool) → (o.id == n) ≡ b → cond b (Some o) (object_numbered n os) ≡ None → (object_numbered n os ≡ None → object_numbered n (with_object id f os) ≡ None)
      → object_numbered n (cond a (f o ∷ os) (o ∷ with_object id f os)) ≡ None
  by_tests a true is e more = absurd (cc)
  by_tests true false is e more = ap (λ t. cond t (Some (f o)) (object_numbered n os)) (ap (λ m. m == n) (same o) ∙ is) ∙ e
  by_tests false false is e more = ap (λ t. cond t (Some o) (object_numbered n (with_object id f os))) is ∙ more e

module _ (id : ℕ) (fs : List Firing) where
  abbrev changed : ℕ → Object → Object
  changed n o = cond (n == id) (object_after fs o) o

  abbrev behind : Bones → Bones
  behind b = record b { objects = with_object id (object_after fs) b.objects }

  numbered_behind : (n : ℕ) (os : List Object) (f : Option Object) → object_numbered n os ≡ f → object_numbered n (with_object id (object_after fs) os) ≡ option_map (changed n) f
  numbered_behind n os None is = none_with n id (object_after fs) (λ o. refl) os is
  numbered_behind n os (Some o) is = find-with n id (object_after fs) (λ o. refl) os o is

  live_behind : (n : ℕ) (f : Option Object) → option_and_then if_live (option_map (changed n) f) ≡ option_map (changed n) (option_and_then if_live f)
  live_behind n None = refl
  live_behind n (Some o) = by_test (n == id) o.live refl where
    by_test : (b t : Bool) → o.live ≡ t → option_and_then if_live (Some (cond b (object_after fs o) o)) ≡ option_map (λ (q : Object). cond b (object_after fs q) q) (cond t (Some o) None)
    by_test true true is = ap (λ u. cond u (Some (object_after fs o)) None) is
    by_test true false is = ap (λ u. cond u (Some (object_after fs o)) None) is
    by_test false true is = ap (λ u. cond u (Some o) None) is
    by_test false false is = ap (λ u. cond u (Some o) None) is

  at_behind : (b : Bones) (n : ℕ) → object_at (behind b) n ≡ option_map (changed n) (object_at b n)
  at_behind b n = ap (option_and_then if_live) (numbered_behind n b.objects (object_numbered n b.objects) refl) ∙ live_behind n (object_numbered n b.objects)

  -- no more are on than were
  below_by : (n : ℕ) (f : Option Object) → Below (option_map kept_object f) (option_map kept_object (option_map (changed n) f))
  below_by n None = tt
  below_by n (Some o) = by_test (n == id) where
    by_test : (b : Bool) → IsWithin (kept_object (cond b (object_after fs o) o)) (kept_object o)
    by_test true = within_after fs o
    by_test false = λ m has. has

  below_behind : (b : Bones) → AreNumbered b → (n : ℕ) → Below (object_at (kept_bones b) n) (object_at (kept_bones (behind b)) n)
  below_behind b numbered n =
      let later = gentle_numbered id (object_after fs) (after_gentle fs) b numbered in
      subst (λ (f : Option Object). Below f (object_at (kept_bones (behind b)) n)) (sym (kept_at_number b n numbered.rising))
      (subst (λ (f : Option Object). Below (option_map kept_object (object_at b n)) f) (sym (kept_at_number (behind b) n later.rising ∙ ap (option_map kept_object) (at_behind b n))) (below_by n (object_at b n)))

-- ---- a point

module _ {O A : Type 0} (past : Past O A) (place : Place O A) (kind : Kind) where
  -- a world behind a point of an object, where these are its firings
  abbrev pub pointed : ℕ → List Firing → World O A → Object → World O A
  pointed id fs v q =
      let grown = with_point past place (new_point kind [] q) q v in
      record grown { bones = record grown.bones { objects = with_object id (object_after fs) grown.bones.objects } }

  abbrev pub fired_at : World O A → Object → List Firing
  fired_at v q = fired past place q (with_point past place (new_point kind [] q) q v)

  module _ (w : World O A) (o : Object) (at : object_at w.bones o.id ≡ Some o) (numbered : AreNumbered w.bones) where
    rise : RiseFrom 0 (map number_of o.activations)
    rise = (all_found (HasNumbers w.bones.next) o.id w.bones.objects numbered.objects o (at_numbered w.bones o.id o at)).rising

    abbrev its : Object
    its = kept_object o

    abbrev grow : Kept O A → Kept O A
    grow = grown_past past place (new_point kind [] o) w.bones.classes o

    abbrev grow_its : Kept O A → Kept O A
    grow_its = grown_past past place (new_point kind [] o) w.bones.classes its

    kept_there_now : object_at (kept_bones w.bones) o.id ≡ Some its
    kept_there_now = kept_at_number w.bones o.id numbered.rising ∙ ap (option_map kept_object) at

    by_kept : (m : Option (Kept O A)) → option_map_or (fired_in past place its w.bones.classes) (option_map grow_its (option_map (λ (k : Kept O A). kept_past k its) m)) []
        ≡ option_map_or (fired_in past place o w.bones.classes) (option_map grow m) []
    by_kept None = refl
    by_kept (Some k) = same_fired past place (new_point kind [] o) w.bones.classes o rise k

    -- the same firings
    pub fired_clean : fired_at (kept_world w) its ≡ fired_at w o
    fired_clean =
        ap (λ (m : Option (Kept O A)). option_map_or (fired_in past place its w.bones.classes) m [])
        (kept_with_at o.id grow_its (filter_map (kept_row (kept_bones w.bones)) w.pasts) ∙ ap (option_map grow_its) (kept_there (kept_bones w.bones) o.id its kept_there_now w.pasts))
        ∙ by_kept (kept_at o.id w.pasts)
        ∙ sym (ap (λ (m : Option (Kept O A)). option_map_or (fired_in past place o w.bones.classes) m []) (kept_with_at o.id grow w.pasts))

    module _ (fs : List Firing) where
      abbrev then_bones : Bones
      then_bones = behind o.id fs w.bones

      bones_clean : kept_bones (behind o.id fs (kept_bones w.bones)) ≡ kept_bones then_bones
      bones_clean =
          ap (λ (os : List Object). record w.bones { objects = os })
          (kept_with o.id (object_after fs) (λ q. refl) (kept_after fs) w.bones.objects o at)

      then_there : object_at (kept_bones then_bones) o.id ≡ Some (kept_object (object_after fs o))
      then_there =
          kept_at_number then_bones o.id (gentle_numbered o.id (object_after fs) (after_gentle fs) w.bones numbered).rising
          ∙ ap (option_map kept_object) (at_behind o.id fs w.bones o.id ∙ ap (option_map (changed o.id fs o.id)) at)
          ∙ ap (λ b. Some (kept_object (cond b (object_after fs o) o))) (eq-eqb o.id o.id refl)

      -- and the same world, but for what is gone
      pub world_clean : kept_world (pointed o.id fs (kept_world w) its) ≡ kept_world (pointed o.id fs w o)
      world_clean =
          let rows =
          ap (λ (c : Bones). filter_map (kept_row c) (with_kept o.id grow_its (filter_map (kept_row (kept_bones w.bones)) w.pasts))) bones_clean
          ∙ rows_with (kept_bones w.bones) (kept_bones then_bones) (below_behind o.id fs w.bones numbered) o.id grow grow_its its (kept_object (object_after fs o)) kept_there_now then_there
          (same_growth past place (new_point kind [] o) w.bones.classes o rise (kept_object (object_after fs o)) (within_after fs o)) w.pasts in
          λ i. record { bones = bones_clean i; pasts = rows i }

-- what is kept is kept again
pub world_twice : {O A : Type 0} (w : World O A) → kept_world (kept_world w) ≡ kept_world w
world_twice {O} {A} w =
    let bones : kept_bones (kept_bones w.bones) ≡ kept_bones w.bones = ap (λ (os : List Object). record w.bones { objects = os }) (all_twice w.bones.objects) in
    let rows =
    ap (λ (c : Bones). filter_map (kept_row c) (filter_map (kept_row (kept_bones w.bones)) w.pasts)) bones
    ∙ rows_again (kept_bones w.bones) (kept_bones w.bones) (λ n. itself (object_at (kept_bones w.bones) n)) w.pasts in
    λ i. record { bones = bones i; pasts = rows i }
  where
    itself : (f : Option Object) → Below f f
    itself None = tt
    itself (Some o) = λ n has. has
