-- Good worlds are settled.
use Rattle.std.proofs.Common.{◌≡◌, ◌≤◌, ◌==◌, ℕ, List, [], ◌∷◌, Bool, true, false, cond, Option, None, Some, refl, sym, ap, subst, ◌∙◌}
use Rattle.std.specs.List.{AllByRecursion, AllZip}
use Rattle.std.specs.Option.{IfSome, IsSome}
use Rattle.ode_codec.specs.Standing.{ArePasts, AreStates, StandsAs}
use Rattle.ode_laws.proofs.Each.{all-then}
use Rattle.ode_laws.specs.Alike.{NumberWorld}
use Rattle.ode_value.specs.Denoting.{object_numbered}
use Rattle.ode_value.specs.GoodWorlds.{IsActivation, IsGood, IsObject, IsVersion}
use Rattle.ode_value.specs.Language.{Language, ListWorld}
use Rattle.ode_value.specs.Objects.{Activation, Histories, Starts}
use Rattle.ode_value.specs.Pasts.{Kept}
use Rattle.ode_value.specs.Tables.{Table}
use Rattle.ode_value.specs.Versions.{Version}
use Rattle.ode_value.specs.Worlds.{Bones, Declared, Object, class_numbered, kept_at}
use Rattle.ode_value.specs.declared.class.Class.{Class}
use Rattle.ode_version_laws.proofs.SumLaws.{all_numbered}
use Rattle.ode_version_laws.specs.Denoting.{HaveVersions}
use Rattle.ode_version_laws.specs.Showing.{AreSettled, IsSettled}

abbrev IsRowOf : Activation → ℕ × ℕ → Type 0
IsRowOf a row = row.0 ≡ a.number

-- what is found of an object is kept of its activations
record Found (f : Option (Kept (Unit {0}) ℕ)) (o : Object) : Type 0 where
  past : Kept (Unit {0}) ℕ
  kept : f ≡ Some past
  numbers : AllZip IsRowOf o.activations past.activations

module _ (tables : ℕ → ℕ → Table) (classes : List Declared) where
  states_numbered : (h : Histories) (activations : List Activation) (rows : List (ℕ × ℕ)) (starts : List (ℕ × Starts)) → AreStates tables classes h activations rows starts → AllZip IsRowOf activations rows
  states_numbered h [] [] [] states = tt
  states_numbered h (a ∷ more) (row ∷ rows) (start ∷ starts) states = (states.0.number, states_numbered h more rows starts states.1)
  states_numbered h [] (row ∷ rows) starts states = absurd states
  states_numbered h [] [] (start ∷ starts) states = absurd states
  states_numbered h (a ∷ more) [] starts states = absurd states
  states_numbered h (a ∷ more) (row ∷ rows) [] states = absurd states

  past_of : (id : ℕ) (o : Object) (os : List Object) (rows : List (ℕ × Kept (Unit {0}) ℕ)) (pasts : List (ℕ × Kept Histories Starts)) → ArePasts tables classes os rows pasts
      → object_numbered id os ≡ Some o → Found (kept_at id rows) o
  past_of id o [] rows pasts stands is = absurd (cc)
  past_of id o (p ∷ os) (row ∷ rows) (past ∷ pasts) stands is = by_test (p.id == id) (row.0 == id) (ap (λ (n : ℕ). n == id) (sym stands.0)) is (past_of id o os rows pasts stands.2) where
    by_test : (a b : Bool) → a ≡ b → cond a (Some p) (object_numbered id os) ≡ Some o → (object_numbered id os ≡ Some o → Found (kept_at id rows) o)
        → Found (cond b (Some row.1) (kept_at id rows)) o
    by_test true true same e more =
        let it : p ≡ o = cc in
        record {
          past = row.1;
          kept = refl;
          numbers = subst (λ (q : Object). AllZip IsRowOf q.activations row.1.activations) it (states_numbered past.1.own p.activations row.1.activations past.1.activations stands.1);
        }
    by_test false false same e more = more e
    by_test true false same e more = absurd (cc)
    by_test false true same e more = absurd (cc)
  past_of id o (p ∷ os) [] pasts stands is = absurd stands
  past_of id o (p ∷ os) (row ∷ rows) [] stands is = absurd stands

good_object : (v : NumberWorld) (id : ℕ) (o : Object) → IsObject v.bones o → Found (kept_at id v.pasts) o → IsSettled v id o
good_object v id o good past = record {
  live = good.live;
  class = good.class;
  rising = good.rising_activations;
  on = all-then (IsActivation v.bones o.class) (λ (a : Activation). a.on ≡ true) (λ a is. is.on) o.activations good.activations;
  past = past.past;
  kept = past.kept;
  numbers = past.numbers;
}

pub settled_law : (l : Language) (tables : ℕ → ℕ → Table) (v : NumberWorld) (w : ListWorld) → IsGood l w → StandsAs tables v w → AreSettled v
settled_law l tables v w good stands = λ id o is.
    let objects : AllByRecursion (IsObject v.bones) v.bones.objects = subst (λ (b : Bones). AllByRecursion (IsObject b) b.objects) (sym stands.bones) good.bones.objects in
    good_object v id o (all_numbered (IsObject v.bones) id v.bones.objects o objects is)
    (past_of tables w.bones.classes id o w.bones.objects v.pasts w.pasts stands.pasts (ap (λ (b : Bones). object_numbered id b.objects) (sym stands.bones) ∙ is))

-- their objects have versions
below_last : (b : Bones) (last : ℕ) (vs : List Version) (f : Option Class) → IsSome f → IfSome f (λ c. AllByRecursion (IsVersion b c last) vs) → AllByRecursion (λ (v : Version). v.number ≤ last) vs
below_last b last vs None some all = absurd (cc)
below_last b last vs (Some c) some all = all-then (IsVersion b c last) (λ (v : Version). v.number ≤ last) (λ v is. is.number) vs all

pub versions_law : (l : Language) (tables : ℕ → ℕ → Table) (v : NumberWorld) (w : ListWorld) → IsGood l w → StandsAs tables v w → HaveVersions v.bones
versions_law l tables v w good stands = λ id o is.
    let objects : AllByRecursion (IsObject v.bones) v.bones.objects = subst (λ (b : Bones). AllByRecursion (IsObject b) b.objects) (sym stands.bones) good.bones.objects in
    let known = all_numbered (IsObject v.bones) id v.bones.objects o objects is in
    record { some = known.some; rising = known.rising; last = below_last v.bones o.last o.versions (class_numbered o.class v.bones.classes) known.class known.versions }
