-- The numbers of a world go on rising, those of versions among them.
use Rattle.std.proofs.Common.{◌≡◌, ℕ, ◌+◌, ◌<◌, ◌≤◌, Bool, true, false, cond, not, List, [], ◌∷◌, map, length, ◌==◌, Some, refl, sym, ap, ◌∙◌, subst, arith}
use Rattle.std.specs.List.{AllByRecursion}
use Rattle.std.specs.Prelude.{slice_set}
use Rattle.std.proofs.lemmas.Bool.{eqb-true}
use Rattle.std.proofs.lemmas.List.{length-append, map-append}
use Rattle.ode_value.specs.declared.value.Value.{Value}
use Rattle.ode_value.specs.Denoting.{object_numbered}
use Rattle.ode_value.specs.GoodWorlds.{RiseFrom}
use Rattle.ode_value.specs.Making.{with_fields, without_version, derived_from}
use Rattle.ode_value.specs.Versions.{Version}
use Rattle.ode_value.specs.Worlds.{Object, with_object}
use Rattle.ode_run_laws.specs.Orders.{HasVersions}
use Rattle.ode_laws.proofs.Each.{all-append, all-then, all-map, all-filter}
use Rattle.ode_laws.proofs.Numbers.{rise_more, rise_filter}
use Rattle.ode_laws.proofs.Sides.{set_in, dropped_from}

abbrev pub version_of_number : Version → ℕ
version_of_number v = v.number

-- things changed but for their numbers
pub numbers_same : {X : Type 0} (number : X → ℕ) (e : X → X) → ((x : X) → number (e x) ≡ number x) → (xs : List X) → map number (map e xs) ≡ map number xs
numbers_same number e same [] = refl
numbers_same number e same (x ∷ xs) = ap (λ n. n ∷ map number (map e xs)) (same x) ∙ ap (λ ns. number x ∷ ns) (numbers_same number e same xs)

pub all_same : {X : Type 0} (number : X → ℕ) (e : X → X) → ((x : X) → number (e x) ≡ number x) → (P : ℕ → Type 0) (xs : List X) → AllByRecursion (λ x. P (number x)) xs → AllByRecursion (λ x. P (number x)) (map e xs)
all_same number e same P [] all = tt
all_same number e same P (x ∷ xs) all = (subst P (sym (same x)) all.0, all_same number e same P xs all.1)

pub fields_same : (stamp number : ℕ) (fields : List Value) (v : Version) → (with_fields stamp number fields v).number ≡ v.number
fields_same stamp number fields v = by_test (v.number == number) where
  by_test : (b : Bool) → (cond b (record v { fields = fields; stamp = stamp }) v).number ≡ v.number
  by_test true = refl
  by_test false = refl

pub mapped_some : {X : Type 0} (e : X → X) (xs : List X) → 0 < length xs → 0 < length (map e xs)
mapped_some e [] less = less
mapped_some e (x ∷ xs) less = omega arith

pub set_versions : (stamp : ℕ) (v : Version) (place : ℕ) (value : Value) (o : Object) → HasVersions o → HasVersions (set_in stamp v place value o)
set_versions stamp v place value o h = record {
  some = mapped_some (with_fields stamp v.number (slice_set v.fields place value)) o.versions h.some;
  rising =
      subst (RiseFrom 0)
      (sym (numbers_same version_of_number (with_fields stamp v.number (slice_set v.fields place value)) (fields_same stamp v.number (slice_set v.fields place value)) o.versions)) h.rising;
  drawn =
      all_same version_of_number (with_fields stamp v.number (slice_set v.fields place value)) (fields_same stamp v.number (slice_set v.fields place value)) (λ n. n ≤ o.last) o.versions
      h.drawn;
}

pub derived_versions : (stamp : ℕ) (v : Version) (o : Object) → HasVersions o → HasVersions (derived_from stamp v o)
derived_versions stamp v o h =
    let new : Version = record { number = o.last + 1; parent = Some v.number; stamp = stamp; fields = v.fields } in
    record {
      some = omega (arith, length-append o.versions (new ∷ []));
      rising =
          subst (RiseFrom 0) (sym (map-append version_of_number o.versions (new ∷ [])))
          (rise_more 0 (o.last + 1) (map version_of_number o.versions) (omega arith) h.rising
          (all-map (λ m. m < o.last + 1) version_of_number o.versions (all-then (λ (w : Version). w.number ≤ o.last) (λ (w : Version). w.number < o.last + 1) (λ w less. omega arith) o.versions h.drawn)));
      drawn =
          all-append (λ (w : Version). w.number ≤ o.last + 1) o.versions (new ∷ [])
          (all-then (λ (w : Version). w.number ≤ o.last) (λ (w : Version). w.number ≤ o.last + 1) (λ w less. omega arith) o.versions h.drawn) (omega arith, tt);
    }

-- of two versions or more one is left
left_some : (n low : ℕ) (vs : List Version) → 1 < length vs → RiseFrom low (map version_of_number vs) → 0 < length (without_version n vs)
left_some n low [] more rise = absurd (omega arith)
left_some n low (v ∷ []) more rise = absurd (omega arith)
left_some n low (v ∷ w ∷ vs) more rise = by_tests (v.number == n) (w.number == n) refl refl (let up : v.number + 1 ≤ w.number = rise.1.0 in let less : v.number < w.number = omega arith in less) where
  by_tests : (b c : Bool) → (v.number == n) ≡ b → (w.number == n) ≡ c → v.number < w.number → 0 < length (cond (not b) (v ∷ cond (not c) (w ∷ without_version n vs) (without_version n vs)) (cond (not c) (w ∷ without_version n vs) (without_version n vs)))
  by_tests false c e f less = omega arith
  by_tests true false e f less = omega arith
  by_tests true true e f less = let one : v.number ≡ n = eqb-true v.number n e in let two : w.number ≡ n = eqb-true w.number n f in absurd (omega arith)

pub dropped_versions : (v : Version) (o : Object) → 1 < length o.versions → HasVersions o → HasVersions (dropped_from v o)
dropped_versions v o more h = record {
  some = left_some v.number 0 o.versions more h.rising;
  rising = rise_filter version_of_number (λ (w : Version). not (w.number == v.number)) 0 o.versions h.rising;
  drawn = all-filter (λ (w : Version). w.number ≤ o.last) (λ (w : Version). not (w.number == v.number)) o.versions h.drawn;
}

-- the object of a number changed
pub all_with_found : (P : Object → Type 0) (id : ℕ) (f : Object → Object) (o : Object) → (P o → P (f o)) → (os : List Object) → object_numbered id os ≡ Some o → AllByRecursion P os → AllByRecursion P (with_object id f os)
all_with_found P id f o keeps [] is all = tt
all_with_found P id f o keeps (p ∷ os) is all = by_test (p.id == id) is (λ e. all_with_found P id f o keeps os e all.1) where
  by_test : (b : Bool) → cond b (Some p) (object_numbered id os) ≡ Some o → (object_numbered id os ≡ Some o → AllByRecursion P (with_object id f os)) → AllByRecursion P (cond b (f p ∷ os) (p ∷ with_object id f os))
  by_test true e rest = let it : p ≡ o = cc in (subst (λ q. P (f q)) (sym it) (keeps (subst P it all.0)), all.1)
  by_test false e rest = (all.0, rest e)
