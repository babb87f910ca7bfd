-- The records of added fields stand in rising order of their keys.
use Rattle.std.proofs.Common.{◌≡◌, ◌==◌, ℕ, ◌+◌, ◌<◌, ◌≤◌, List, [], ◌∷◌, map, Bool, true, false, cond, refl, sym, subst, ◌∙◌, arith}
use Rattle.std.proofs.lemmas.Bool.{eqb-true}
use Rattle.std.proofs.lemmas.Bool.Decides.{nat_tests}
use Rattle.std.specs.List.{AllByRecursion, flat_map}
use Rattle.std.specs.declared.cmp.Ordering.TheVariants.{Less}
use Rattle.ode_batch_laws.proofs.ClimbLaws.{AllBefore, Before, Climb, climb_flat}
use Rattle.ode_codec.specs.StoredRows.{added_row}
use Rattle.ode_laws.proofs.Each.{all-of}
use Rattle.ode_value.specs.Changing.{added_to}
use Rattle.ode_value.specs.GoodWorlds.{AreAdded, RiseFrom}
use Rattle.ode_value.specs.Keys.{added_key, key_cmp}
use Rattle.ode_value.specs.Records.{Row}
use Rattle.ode_value.specs.Worlds.{Declared}
use Rattle.ode_value.specs.declared.change.Added.{Added}

-- ---- keys

added_less : (class m n : ℕ) → m < n → key_cmp (added_key class m) (added_key class n) ≡ Less
added_less class m n less = grind (arith, nat_tests)

added_across : (i j m n : ℕ) → i < j → key_cmp (added_key i m) (added_key j n) ≡ Less
added_across i j m n less = grind (arith, nat_tests)

-- ---- those of one class

abbrev IsOf : ℕ → Added → Type 0
IsOf class a = a.class ≡ class

abbrev birth_of : Added → ℕ
birth_of a = a.birth

own_class : (class : ℕ) (added : List Added) → AllByRecursion (IsOf class) (added_to class added)
own_class class [] = tt
own_class class (a ∷ added) = by_test (a.class == class) refl (own_class class added) where
  by_test : (b : Bool) → (a.class == class) ≡ b → AllByRecursion (IsOf class) (added_to class added) → AllByRecursion (IsOf class) (cond b (a ∷ added_to class added) (added_to class added))
  by_test true is own = (eqb-true a.class class is, own)
  by_test false is own = own

births_rise : (classes : List Declared) (class low birth : ℕ) (added : List Added) → low ≤ birth → AreAdded classes birth added → RiseFrom low (map birth_of (added_to class added))
births_rise classes class low birth [] less are = tt
births_rise classes class low birth (a ∷ added) less are =
    let is : a.birth ≡ birth = are.0 in
    by_test (a.class == class) (omega (arith, is, less)) (births_rise classes class (a.birth + 1) (birth + 1) added (omega (arith, is)) are.2)
    (births_rise classes class low (birth + 1) added (omega (arith, less)) are.2) where
      by_test : (b : Bool) → low ≤ a.birth → RiseFrom (a.birth + 1) (map birth_of (added_to class added)) → RiseFrom low (map birth_of (added_to class added))
          → RiseFrom low (map birth_of (cond b (a ∷ added_to class added) (added_to class added)))
      by_test true up more rest = (up, more)
      by_test false up more rest = rest

module _ (classes : List Declared) where
  abbrev rows_of : List Added → List Row
  rows_of added = map (added_row classes) added

  one_before : (a : Added) (class low : ℕ) (added : List Added) → a.class ≡ class → a.birth < low → AllByRecursion (IsOf class) added → RiseFrom low (map birth_of added)
      → Before (added_row classes a) (rows_of added)
  one_before a class low [] is less own rise = tt
  one_before a class low (c ∷ added) is less own rise =
      let up : low ≤ c.birth = rise.0 in
      let later : a.birth < c.birth = omega (arith, less, up) in (
        subst (λ n. key_cmp (added_key a.class a.birth) (added_key n c.birth) ≡ Less) (is ∙ sym own.0) (added_less a.class a.birth c.birth later),
        one_before a class (c.birth + 1) added is (omega (arith, later)) own.1 rise.1,
      )

  class_climbs : (class low : ℕ) (added : List Added) → AllByRecursion (IsOf class) added → RiseFrom low (map birth_of added) → Climb (rows_of added)
  class_climbs class low [] own rise = tt
  class_climbs class low (a ∷ added) own rise = (one_before a class (a.birth + 1) added own.0 (omega arith) own.1 rise.1, class_climbs class (a.birth + 1) added own.1 rise.1)

  -- ---- those of two

  one_across : (a : Added) (i j : ℕ) (added : List Added) → a.class ≡ i → i < j → AllByRecursion (IsOf j) added → Before (added_row classes a) (rows_of added)
  one_across a i j [] is less own = tt
  one_across a i j (c ∷ added) is less own =
      let its : c.class ≡ j = own.0 in
      (added_across a.class c.class a.birth c.birth (omega (arith, is, its, less)), one_across a i j added is less own.1)

  all_across : (i j : ℕ) (ones others : List Added) → i < j → AllByRecursion (IsOf i) ones → AllByRecursion (IsOf j) others → AllBefore (rows_of ones) (rows_of others)
  all_across i j [] others less own its = tt
  all_across i j (a ∷ ones) others less own its = (one_across a i j others own.0 less its, all_across i j ones others less own.1 its)

  -- ---- all of them

  pub added_climb : (added : List Added) → RiseFrom 0 (map (λ (c : Declared). c.class.number) classes) → AreAdded classes 1 added
      → Climb (flat_map (λ (c : Declared). rows_of (added_to c.class.number added)) classes)
  added_climb added rise are =
      climb_flat (λ (c : Declared). c.class.number) (λ (c : Declared). rows_of (added_to c.class.number added))
      (λ c d less. all_across c.class.number d.class.number (added_to c.class.number added) (added_to d.class.number added) less (own_class c.class.number added) (own_class d.class.number added))
      0 classes
      (all-of (λ (c : Declared). Climb (rows_of (added_to c.class.number added)))
      (λ c. class_climbs c.class.number 0 (added_to c.class.number added) (own_class c.class.number added) (births_rise classes c.class.number 0 1 added (omega arith) are)) classes) rise
