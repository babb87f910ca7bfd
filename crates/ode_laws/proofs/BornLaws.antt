-- The fields of a good world's classes were there at its newest stamp, so what is written now has all of its values in its record.
use Rattle.std.proofs.Common.{◌≡◌, ◌==◌, ℕ, List, [], ◌∷◌, ◌++◌, Bool, true, false, cond, length, map, Option, Some, None, refl, sym, subst, arith}
use Rattle.std.specs.List.{AllByRecursion, AllZip}
use Rattle.std.specs.Option.{IfSome, IsSome, option_map_or}
use Rattle.std.proofs.lemmas.Bool.Decides.{nat_tests}
use Rattle.ode_laws.proofs.Each.{all-then}
use Rattle.ode_value.proofs.BornLaws.{all_born}
use Rattle.ode_value.specs.Fields.{AreBorn, HasLiterals, IsBorn, IsLiteral, born_values, fields_of, is_born}
use Rattle.ode_value.specs.Fitting.{FitsSort}
use Rattle.ode_value.specs.GoodWorlds.{AreClasses, IsObject, IsVersion}
use Rattle.ode_value.specs.Language.{Language}
use Rattle.ode_value.specs.Versions.{Version}
use Rattle.ode_value.specs.Worlds.{Bones, Declared, Object, class_numbered}
use Rattle.ode_value.specs.declared.change.Added.{Added}
use Rattle.ode_value.specs.declared.class.Class.{Class}
use Rattle.ode_value.specs.declared.class.Field.{Field}
use Rattle.ode_value.specs.declared.value.Value.{Value}

-- no field of a good world's class is above the newest stamp
pub classes_born : (l : Language) (added : List Added) (earlier cs : List Declared) → AreClasses l added earlier cs → AllByRecursion (AreBorn (length added)) (map (λ (d : Declared). d.class) cs)
classes_born l added earlier [] good = tt
classes_born l added earlier (d ∷ cs) good = (good.0.fields, classes_born l added (earlier ++ d ∷ []) cs good.1)

-- nor one of the class of a number, where none of all classes is
pub class_born : (stamp : ℕ) (cs : List Declared) → AllByRecursion (AreBorn stamp) (map (λ (d : Declared). d.class) cs) → (number : ℕ) (c : Class) → class_numbered number cs ≡ Some c → AreBorn stamp c
class_born stamp [] all number c is = absurd (cc)
class_born stamp (d ∷ cs) all number c is = by_test (d.class.number == number) is (class_born stamp cs all.1 number c) where
  by_test : (b : Bool) → cond b (Some d.class) (class_numbered number cs) ≡ Some c → (class_numbered number cs ≡ Some c → AreBorn stamp c) → AreBorn stamp c
  by_test true e more = let same : d.class ≡ c = cc in subst (AreBorn stamp) same all.0
  by_test false e more = more e

-- a version's record has all of its values
abbrev pub HasAll : List Field → Version → Type 0
HasAll fields v = born_values v.stamp fields v.fields ≡ v.fields

-- that of a version with the newest stamp has
pub newest_born : (l : Language) (b : Bones) → AreClasses l b.added [] b.classes → (o : Object) → IsObject b o
    → AllByRecursion (λ (v : Version). v.stamp ≡ length b.added → HasAll (fields_of b.classes o.class) v) o.versions
newest_born l b good o its = by_class (class_numbered o.class b.classes) refl its.class its.versions where
  by_class : (f : Option Class) → class_numbered o.class b.classes ≡ f → IsSome f → IfSome f (λ c. AllByRecursion (IsVersion b c o.last) o.versions)
      → AllByRecursion (λ (v : Version). v.stamp ≡ length b.added → HasAll (option_map_or (λ (c : Class). c.fields) f []) v) o.versions
  by_class None is some each = absurd (cc)
  by_class (Some c) is some each =
      let born : AreBorn (length b.added) c = class_born (length b.added) b.classes (classes_born l b.added [] b.classes good) o.class c is in
      all-then (IsVersion b c o.last) (λ (v : Version). v.stamp ≡ length b.added → HasAll c.fields v)
      (λ v fits newest. all_born (λ (f : Field). FitsSort b f.sort) v.stamp c.fields v.fields (subst (λ n. AreBorn n c) (sym newest) born) fits.fields) o.versions each

-- the value of a field that was there is the version's own
literal_none : (stamp : ℕ) (f : Field) (v : Value) → IsBorn stamp f → IsLiteral stamp f v
literal_none stamp f v is = let born : is_born stamp f ≡ true = grind (arith, nat_tests, is) in subst (λ t. cond t (Unit {0}) (f.literal ≡ Some v)) (sym born) tt

-- so where all were, no value has to be a literal
pub have_literals : (R : Field → Value → Type 0) (stamp : ℕ) (fs : List Field) (vs : List Value) → AllByRecursion (IsBorn stamp) fs → AllZip R fs vs → HasLiterals stamp fs vs
have_literals R stamp [] [] all fit = tt
have_literals R stamp [] (v ∷ vs) all fit = absurd fit
have_literals R stamp (f ∷ fs) [] all fit = absurd fit
have_literals R stamp (f ∷ fs) (v ∷ vs) all fit = (literal_none stamp f v all.0, have_literals R stamp fs vs all.1 fit.1)
