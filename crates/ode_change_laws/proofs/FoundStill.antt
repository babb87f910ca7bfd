-- In a good world each object is the one of its number, and each version has a value of each field of its class.
use Rattle.std.proofs.Common.{◌≡◌, ◌<◌, ◌≤◌, ℕ, suc, ◌+◌, Bool, true, false, cond, List, [], ◌∷◌, length, map, Option, Some, None, refl, ap, ◌∙◌, arith}
use Rattle.std.specs.Prelude.{◌==◌}
use Rattle.std.specs.List.{AllByRecursion}
use Rattle.std.specs.Option.{IfSome, IsSome, option_map_or}
use Rattle.std.proofs.lemmas.Bool.Decides.{Decides-eqb}
use Rattle.ode_value.specs.declared.change.Change.{Change}
use Rattle.ode_value.specs.declared.class.Class.{Class}
use Rattle.ode_value.specs.declared.class.Field.{Field}
use Rattle.ode_value.specs.declared.value.Value.{Value}
use Rattle.ode_value.specs.Denoting.{object_numbered}
use Rattle.ode_value.specs.Fitting.{FitFields}
use Rattle.ode_value.specs.GoodWorlds.{IsObject, IsVersion, RiseFrom}
use Rattle.ode_value.specs.Versions.{Version}
use Rattle.ode_value.specs.Worlds.{Bones, Declared, Object, class_numbered}
use Rattle.ode_change_laws.specs.Moves.{HasValues, IsFound}

differs : (m n : ℕ) → m < n → (m == n) ≡ false
differs m n less = by (m == n) refl
  where
    by : (t : Bool) → (m == n) ≡ t → (m == n) ≡ false
    by true is = absurd (omega (arith, less, (Decides-eqb m n).0 is))
    by false is = is

abbrev Found : List Object → Object → Type 0
Found os o = object_numbered o.id os ≡ Some o

-- those behind an object of a lower number
behind : (o : Object) (os : List Object) (low : ℕ) → o.id < low → (ps : List Object) → RiseFrom low (map (λ (p : Object). p.id) ps) → AllByRecursion (Found os) ps
    → AllByRecursion (Found (o ∷ os)) ps
behind o os low less [] rise all = tt
behind o os low less (p ∷ ps) rise all = (
  ap (λ t. cond t (Some o) (object_numbered p.id os)) (differs o.id p.id (omega (arith, less, rise.0))) ∙ all.0,
  behind o os (p.id + 1) (omega (arith, less, rise.0)) ps rise.1 all.1,
)

each-found : (low : ℕ) (os : List Object) → RiseFrom low (map (λ (o : Object). o.id) os) → AllByRecursion (Found os) os
each-found low [] rise = tt
each-found low (o ∷ os) rise = (
  ap (λ t. cond t (Some o) (object_numbered o.id os)) ((Decides-eqb o.id o.id).1 refl),
  behind o os (o.id + 1) (omega arith) os rise.1 (each-found (o.id + 1) os rise.1),
)

module _ (b : Bones) (c : Change) (classes : List Declared) where
  pub all-found : RiseFrom 0 (map (λ (o : Object). o.id) b.objects) → AllByRecursion (IsFound b c classes) b.objects
  all-found rise = each-found 0 b.objects rise

  fit-length : (fs : List Field) (vs : List Value) → FitFields b fs vs → length vs ≡ length fs
  fit-length [] [] fit = refl
  fit-length [] (v ∷ vs) fit = absurd fit
  fit-length (f ∷ fs) [] fit = absurd fit
  fit-length (f ∷ fs) (v ∷ vs) fit = ap suc (fit-length fs vs fit.1)

  stamps-of : (k : Class) (last : ℕ) (vs : List Version) → AllByRecursion (IsVersion b k last) vs → AllByRecursion (λ (v : Version). v.stamp ≤ length b.added) vs
  stamps-of k last [] all = tt
  stamps-of k last (v ∷ vs) all = (all.0.stamp, stamps-of k last vs all.1)

  lengths-of : (k : Class) (last : ℕ) (vs : List Version) → AllByRecursion (IsVersion b k last) vs → AllByRecursion (λ (v : Version). length v.fields ≡ length k.fields) vs
  lengths-of k last [] all = tt
  lengths-of k last (v ∷ vs) all = (fit-length k.fields v.fields all.0.fields, lengths-of k last vs all.1)

  abbrev fields_found : Option Class → List Field
  fields_found x = option_map_or (λ (k : Class). k.fields) x []

  values-by : (o : Object) (x : Option Class) → IsSome x → IfSome x (λ k. AllByRecursion (IsVersion b k o.last) o.versions)
      → AllByRecursion (λ (v : Version). v.stamp ≤ length b.added) o.versions × AllByRecursion (λ (v : Version). length v.fields ≡ length (fields_found x)) o.versions
  values-by o None some all = absurd (cc (some))
  values-by o (Some k) some all = (stamps-of k o.last o.versions all, lengths-of k o.last o.versions all)

  pub have-values : (os : List Object) → AllByRecursion (IsObject b) os → AllByRecursion (HasValues b c classes) os
  have-values [] all = tt
  have-values (o ∷ os) all =
      let both = values-by o (class_numbered o.class b.classes) all.0.class all.0.versions in
      (record { class = all.0.class; stamps = both.0; values = both.1 }, have-values os all.1)
