-- What the world has of an object stands under the object's keys.
use Rattle.std.proofs.Common.{◌≡◌, ◌==◌, ℕ, List, [], ◌∷◌, map, Bool, true, false, cond, Option, Some, None, refl, sym, ap, subst, ◌∙◌}
use Rattle.std.specs.List.{AllByRecursion, find}
use Rattle.std.specs.Option.{option_and_then, option_map, option_map_or, unwrap_or}
use Rattle.ode_codec.specs.StoredRows.{Stored, activation_row, activation_rows, object_row, rows, state_in, state_of, version_rows}
use Rattle.ode_formed_laws.proofs.ObjectLaws.{by_form}
use Rattle.ode_keep.specs.Entries.{value_under}
use Rattle.ode_laws.proofs.AlikePairs.{all_found}
use Rattle.ode_laws.proofs.BornLaws.{newest_born}
use Rattle.ode_laws.proofs.Rows.{find-map}
use Rattle.ode_objects.specs.Objects.{has_number, is_numbered}
use Rattle.ode_objects.specs.declared.object.Active.{Active}
use Rattle.ode_objects.specs.declared.object.Object as tracked
use Rattle.ode_overlay_laws.specs.Standing.{IsIn, active_as, object_as}
use Rattle.ode_settling_laws.proofs.KindLaws.{activation_stands, object_stands, version_stands}
use Rattle.ode_settling_laws.proofs.PartLaws.{activations_stand, all_stored, number_found, of_number, state_found, versions_stand}
use Rattle.ode_settling_laws.specs.Formed.{AreNewest, IsOwn, active_value, object_value, value_in, version_value}
use Rattle.ode_value.specs.Fields.{fields_of}
use Rattle.ode_value.specs.GoodWorlds.{AreBones, IsActivation, IsObject}
use Rattle.ode_value.specs.Keys.{activation_key, object_key, version_key}
use Rattle.ode_value.specs.Language.{Language}
use Rattle.ode_value.specs.Making.{stamp_now}
use Rattle.ode_value.specs.Objects.{Activation}
use Rattle.ode_value.specs.Pasts.{Kept}
use Rattle.ode_value.specs.Worlds.{Object}
use Rattle.ode_value.specs.declared.class.Field.{Field}
use Rattle.ode_value.specs.declared.key.Key.{Key}

abbrev NumberKept : Type 0
NumberKept = Kept (Unit {0}) ℕ

module _ (l : Language) (s : Stored) (good : AreBones l s.world.bones) (id : ℕ) (o : tracked.Object) (at : IsIn s.world id o) where
  its : IsObject s.world.bones (object_as id o)
  its = all_found (IsObject s.world.bones) id s.world.bones.objects good.objects (object_as id o) at.object

  pub live : o.live ≡ true
  live = its.live

  -- its activations are on
  all_on : (acts : List Active) → AllByRecursion (IsActivation s.world.bones o.class) (map active_as acts) → AllByRecursion (λ (a : Active). a.on ≡ true) acts
  all_on [] all = tt
  all_on (a ∷ acts) all = (all.0.on, all_on acts all.1)

  found_all : (P : Active → Type 0) (n : ℕ) (acts : List Active) → AllByRecursion P acts → (a : Active) → find (has_number n) acts ≡ Some a → P a
  found_all P n [] all a is = absurd (cc)
  found_all P n (c ∷ acts) all a is = by_test (c.number == n) is (found_all P n acts all.1 a) where
    by_test : (b : Bool) → cond b (Some c) (find (has_number n) acts) ≡ Some a → (find (has_number n) acts ≡ Some a → P a) → P a
    by_test true e more = let same : c ≡ a = cc in subst P same all.0
    by_test false e more = more e

  pub is_on : (n : ℕ) (a : Active) → find (has_number n) o.activations ≡ Some a → a.on ≡ true
  is_on n a found = found_all (λ (c : Active). c.on ≡ true) n o.activations (all_on o.activations its.activations) a found

  -- a live object's value
  while_live : (v : Option (List ℕ)) → v ≡ cond o.live v None
  while_live v = sym (ap (λ b. cond b v None) live)

  object_there : value_under (rows s) (object_key id) ≡ value_in s.world.bones.classes (object_key id) o
  object_there = object_stands s id ∙ ap (option_map (λ (p : Object). (object_row p).1)) at.object ∙ while_live (Some (object_value id o))

  -- the fields of its class
  abbrev fields : List Field
  fields = fields_of s.world.bones.classes o.class

  version_there : AreNewest (stamp_now s.world.bones) o → (n : ℕ) → value_under (rows s) (version_key id n) ≡ value_in s.world.bones.classes (version_key id n) o
  version_there newest n =
      version_stands s good.rising id n ∙ ap (option_and_then (λ (p : Object). value_under (version_rows s.world.bones.classes p) (version_key id n))) at.object
      ∙ versions_stand id n fields o.versions (all_stored (stamp_now s.world.bones) fields o.versions (newest_born l s.world.bones good.classes (object_as id o) its) newest)
      ∙ while_live (option_map (version_value fields) (find (is_numbered n) o.versions))

  state_is : (n : ℕ) (a : Active) → find (has_number n) o.activations ≡ Some a → state_of s.world id a.number ≡ a.state
  state_is n a found =
      ap (state_of s.world id) (number_found n o.activations a found)
      ∙ ap (λ (k : Option NumberKept). option_map_or (state_in n) k 0) at.kept
      ∙ ap (λ (m : Option ℕ). unwrap_or m 0) (state_found n o.activations ∙ ap (option_map (λ (c : Active). c.state)) found)

  abbrev spelled : Activation → List ℕ
  spelled a = (activation_row id (state_of s.world id a.number) a).1

  by_found : (n : ℕ) (f : Option Active) → find (has_number n) o.activations ≡ f → option_map spelled (option_map active_as f) ≡ option_and_then (active_value id) f
  by_found n None is = refl
  by_found n (Some a) is =
      ap (λ m. Some (activation_row id m (active_as a)).1) (state_is n a is) ∙ sym (ap (λ b. cond b (Some (activation_row id a.state (active_as a)).1) None) (is_on n a is))

  activation_there : (n : ℕ) → value_under (rows s) (activation_key id n) ≡ value_in s.world.bones.classes (activation_key id n) o
  activation_there n =
      activation_stands s good.rising id n ∙ ap (option_and_then (λ (p : Object). value_under (activation_rows s.world p) (activation_key id n))) at.object
      ∙ activations_stand id n (λ m. state_of s.world id m) (map active_as o.activations)
      ∙ ap (option_map spelled) (find-map (has_number n) (of_number n) active_as (λ a. refl) o.activations)
      ∙ by_found n (find (has_number n) o.activations) refl
      ∙ while_live (option_and_then (active_value id) (find (has_number n) o.activations))

  pub first_stands : AreNewest (stamp_now s.world.bones) o → (q : Key) → IsOwn q → q.a ≡ id → value_under (rows s) q ≡ value_in s.world.bones.classes q o
  first_stands newest q own is = by_form (λ k. value_under (rows s) k ≡ value_in s.world.bones.classes k o) id object_there (version_there newest) activation_there q own is
