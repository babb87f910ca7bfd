-- What is read of the records that hold a world is what the world has.
use Rattle.std.proofs.Common.{◌≡◌, ℕ, Bool, true, false, cond, List, [], ◌∷◌, map, ◌==◌, Option, Some, None, refl, sym, ap, ◌∙◌, subst}
use Rattle.std.specs.List.{AllByRecursion}
use Rattle.std.specs.Option.{IfSome, option_and_then, option_map_or}
use Rattle.ode_codec.specs.Standing.{HoldsWorld}
use Rattle.ode_codec.specs.StoredRows.{Stored, rows}
use Rattle.ode_heap.specs.Activations.{activations_in}
use Rattle.ode_heap.specs.Answering.{IsOfClass, IsVersionOf, activations_of, class_of}
use Rattle.ode_heap.specs.Answers.{There}
use Rattle.ode_heap.specs.Looking.{fit_fields}
use Rattle.ode_laws.proofs.AlikePairs.{all_found}
use Rattle.ode_value.specs.Denoting.{object_numbered}
use Rattle.ode_value.specs.Fields.{fields_of}
use Rattle.ode_value.specs.Fitting.{FitFields}
use Rattle.ode_value.specs.GoodWorlds.{IsObject, IsVersion}
use Rattle.ode_value.specs.Language.{Language, ListWorld}
use Rattle.ode_value.specs.Records.{Row}
use Rattle.ode_value.specs.Versions.{Version, version_numbered}
use Rattle.ode_value.specs.Worlds.{Bones, Object, class_numbered}
use Rattle.ode_value.specs.declared.class.Class.{Class}
use Rattle.ode_value.specs.declared.class.Field.{Field}
use Rattle.ode_value.specs.declared.value.Value.{Value}

-- what the heap's tests ask of values that fit
abbrev pub FitClass : Type 0
FitClass = (b : Bones) (fields : List Field) (values : List Value) → FitFields b fields values → fit_fields fields values ≡ true

-- what holds of all versions holds of the one of a number
version_found : (P : Version → Type 0) (vs : List Version) → AllByRecursion P vs → (n : ℕ) (v : Version) → version_numbered n vs ≡ Some v → P v
version_found P [] all n v is = absurd (cc)
version_found P (u ∷ us) all n v is = by_test (u.number == n) is (version_found P us all.1 n v)
  where
    by_test : (b : Bool) → cond b (Some u) (version_numbered n us) ≡ Some v → (version_numbered n us ≡ Some v → P v) → P v
    by_test true e rest = let same : u ≡ v = cc in subst P same all.0
    by_test false e rest = rest e

abbrev pub version_at : ℕ → Option Object → Option Version
version_at n found = option_and_then (λ (p : Object). version_numbered n p.versions) found

module _ (l : Language) (records : List Row) (w : ListWorld) (held : HoldsWorld l records w) where
  abbrev s : Stored
  s = held.stored

  -- what is read of the stored database's rows is read of the records, and what its bones give the world's give
  pub shown : (X : Type 0) (read : List Row → X) (give : Bones → X) → read (rows s) ≡ give s.world.bones → read records ≡ give w.bones
  shown X read give is = ap read held.rows ∙ is ∙ ap give held.stands.bones

  pub activations_shown : (id : ℕ) → activations_in (rows s) id (map class_of s.world.bones.classes) ≡ There (activations_of s id)
      → activations_in records id (map class_of w.bones.classes) ≡ There (activations_of s id)
  activations_shown id is =
      ap (λ (r : List Row). activations_in r id (map class_of w.bones.classes)) held.rows
      ∙ ap (λ (b : Bones). activations_in (rows s) id (map class_of b.classes)) (sym held.stands.bones) ∙ is

  -- ---- the fields of a version

  module _ (fit : FitClass) (id n : ℕ) (o : Object) (c : Class) (there : object_numbered id w.bones.objects ≡ Some o) (class : class_numbered o.class w.bones.classes ≡ Some c) where
    good : IsObject w.bones o
    good = all_found (IsObject w.bones) id w.bones.objects held.good.bones.objects o there

    version_good : (found : Option Version) → version_numbered n o.versions ≡ found → IfSome found (IsVersionOf c)
    version_good None at = tt
    version_good (Some v) at =
        let all : AllByRecursion (IsVersion w.bones c o.last) o.versions = subst (λ (f : Option Class). IfSome f (λ d. AllByRecursion (IsVersion w.bones d o.last) o.versions)) class good.versions in
        let is : IsVersion w.bones c o.last v = version_found (IsVersion w.bones c o.last) o.versions all n v at in
        record { fit = fit w.bones c.fields v.fields is.fields; later = is.later }

    abbrev HasFields : Bones → Type 0
    HasFields b = IfSome (object_numbered id b.objects) (λ (p : Object). fields_of b.classes p.class ≡ c.fields)

    abbrev HasVersion : Bones → Type 0
    HasVersion b = IfSome (version_at n (object_numbered id b.objects)) (IsVersionOf c)

    same_fields : fields_of w.bones.classes o.class ≡ c.fields
    same_fields = ap (λ (f : Option Class). option_map_or (λ (d : Class). d.fields) f []) class

    -- the object of a number and its version are of the object's class
    pub of_class : IsOfClass s id n c
    of_class = record {
      object = subst HasFields (sym held.stands.bones) (subst (λ (f : Option Object). IfSome f (λ (p : Object). fields_of w.bones.classes p.class ≡ c.fields)) (sym there) same_fields);
      version = subst HasVersion (sym held.stands.bones)
          (subst (λ (f : Option Object). IfSome (version_at n f) (IsVersionOf c)) (sym there) (version_good (version_numbered n o.versions) refl));
    }
