-- Objects go on having versions.
use Rattle.std.proofs.Common.{◌≡◌, ◌+◌, ◌<◌, ◌≤◌, ◌==◌, ℕ, List, [], ◌∷◌, Bool, true, false, cond, length, map, not, nat_lt, Some, refl, sym, ap, subst, ◌∙◌, arith}
use Rattle.std.proofs.lemmas.Bool.{eqb-true}
use Rattle.std.proofs.lemmas.Bool.Decides.{nat_tests}
use Rattle.std.proofs.lemmas.List.{length-append, length-map, map-append}
use Rattle.std.specs.List.{AllByRecursion}
use Rattle.ode_keep.specs.Entries.{Entries}
use Rattle.ode_laws.proofs.Each.{all-append, all-filter, all-map, all-then}
use Rattle.ode_laws.proofs.Numbers.{rise_filter, rise_more}
use Rattle.ode_laws.specs.Alike.{NumberTx}
use Rattle.ode_objects.specs.Objects.{derived, made, values_of, without, written}
use Rattle.ode_objects.specs.declared.object.Object.{Object}
use Rattle.ode_objects.specs.declared.object.Version.{Version}
use Rattle.ode_overlay.specs.Answers.{Answer}
use Rattle.ode_overlay.specs.Changing.{activate, create, deactivate, derive, drop_version, put_acts, remove, touch, write}
use Rattle.ode_overlay.specs.Layers.{Layer}
use Rattle.ode_overlay_laws.specs.Following.{Continues}
use Rattle.ode_overlay_laws.specs.Standing.{Stands, object_as, version_as}
use Rattle.ode_types.specs.declared.running.Running.{Running}
use Rattle.ode_value.specs.GoodWorlds.{RiseFrom}
use Rattle.ode_value.specs.Making.{derived_from, with_fields, without_version}
use Rattle.ode_value.specs.Versions as versions
use Rattle.ode_value.specs.Worlds as worlds
use Rattle.ode_value.specs.declared.class.Class.{Class}
use Rattle.ode_value.specs.declared.value.Ref.{Ref}
use Rattle.ode_value.specs.declared.value.Value.{Value}
use Rattle.ode_version_laws.proofs.DeriveLaws.{derived_same}
use Rattle.ode_version_laws.proofs.EachLaws.{AnyTaking, GoesOn, IsKept, activate_each, create_each, deactivate_each, derive_each, done_then, drop_each, put_each, remove_each, touch_each, write_each}
use Rattle.ode_version_laws.proofs.PositionLaws.{without_same, written_same}
use Rattle.ode_version_laws.specs.Denoting.{HasVersions, HaveVersions, IsRead}
use Rattle.ode_version_laws.specs.Leaving.{IfDone, StillHaveVersions}

-- ---- what a change of versions keeps

abbrev number_of : versions.Version → ℕ
number_of v = v.number

numbers_same : (stamp n : ℕ) (fields : List Value) (vs : List versions.Version) → map number_of (map (with_fields stamp n fields) vs) ≡ map number_of vs
numbers_same stamp n fields [] = refl
numbers_same stamp n fields (v ∷ vs) =
    ap (λ (m : ℕ). m ∷ map number_of (map (with_fields stamp n fields) vs)) (same (v.number == n)) ∙ ap (λ (ns : List ℕ). v.number ∷ ns) (numbers_same stamp n fields vs)
  where
    same : (b : Bool) → (cond b (record v { fields = fields; stamp = stamp }) v).number ≡ v.number
    same true = refl
    same false = refl

below_same : (stamp n last : ℕ) (fields : List Value) (vs : List versions.Version) → AllByRecursion (λ (v : versions.Version). v.number ≤ last) vs
    → AllByRecursion (λ (v : versions.Version). v.number ≤ last) (map (with_fields stamp n fields) vs)
below_same stamp n last fields [] below = tt
below_same stamp n last fields (v ∷ vs) below = (same (v.number == n), below_same stamp n last fields vs below.1) where
  same : (b : Bool) → (cond b (record v { fields = fields; stamp = stamp }) v).number ≤ last
  same true = below.0
  same false = below.0

set_has : (stamp n : ℕ) (fields : List Value) (o : worlds.Object) → HasVersions o → HasVersions (record o { versions = map (with_fields stamp n fields) o.versions })
set_has stamp n fields o has = record {
  some = subst (λ (m : ℕ). 0 < m) (sym (length-map o.versions (with_fields stamp n fields))) has.some;
  rising = subst (RiseFrom 0) (sym (numbers_same stamp n fields o.versions)) has.rising;
  last = below_same stamp n o.last fields o.versions has.last;
}

derived_has : (stamp : ℕ) (v : versions.Version) (o : worlds.Object) → HasVersions o → HasVersions (derived_from stamp v o)
derived_has stamp v o has =
    let new : versions.Version = record { number = o.last + 1; parent = Some v.number; stamp = stamp; fields = v.fields } in
    record {
      some = omega (arith, length-append o.versions (new ∷ []));
      rising =
          subst (RiseFrom 0) (sym (map-append number_of o.versions (new ∷ [])))
          (rise_more 0 (o.last + 1) (map number_of o.versions) (omega arith) has.rising
          (all-map (λ m. m < o.last + 1) number_of o.versions (all-then (λ (w : versions.Version). w.number ≤ o.last) (λ (w : versions.Version). w.number < o.last + 1) (λ w less. omega arith) o.versions has.last)));
      last =
          all-append (λ (w : versions.Version). w.number ≤ o.last + 1) o.versions (new ∷ [])
          (all-then (λ (w : versions.Version). w.number ≤ o.last) (λ (w : versions.Version). w.number ≤ o.last + 1) (λ w less. omega arith) o.versions has.last) (omega arith, tt);
    }

-- of two or more one is left
one_left : (n low : ℕ) (vs : List versions.Version) → nat_lt 1 (length vs) ≡ true → RiseFrom low (map number_of vs) → 0 < length (without_version n vs)
one_left n low [] more rise = absurd (grind (arith, nat_tests))
one_left n low (v ∷ []) more rise = absurd (grind (arith, nat_tests))
one_left n low (v ∷ w ∷ vs) more rise = by_tests (v.number == n) (w.number == n) refl refl (let up : v.number + 1 ≤ w.number = rise.1.0 in let less : v.number < w.number = omega arith in less) where
  by_tests : (b c : Bool) → (v.number == n) ≡ b → (w.number == n) ≡ c → v.number < w.number
      → 0 < length (cond (not b) (v ∷ cond (not c) (w ∷ without_version n vs) (without_version n vs)) (cond (not c) (w ∷ without_version n vs) (without_version n vs)))
  by_tests false c e f less = omega arith
  by_tests true false e f less = omega arith
  by_tests true true e f less = let one : v.number ≡ n = eqb-true v.number n e in let two : w.number ≡ n = eqb-true w.number n f in absurd (omega arith)

dropped_has : (n : ℕ) (o : worlds.Object) → nat_lt 1 (length o.versions) ≡ true → HasVersions o → HasVersions (record o { versions = without_version n o.versions })
dropped_has n o more has = record {
  some = one_left n 0 o.versions more has.rising;
  rising = rise_filter number_of (λ (w : versions.Version). not (w.number == n)) 0 o.versions has.rising;
  last = all-filter (λ (w : versions.Version). w.number ≤ o.last) (λ (w : versions.Version). not (w.number == n)) o.versions has.last;
}

-- ---- the same of an object in the overlay

abbrev Own : ℕ → Object → Type 0
Own id o = HasVersions (object_as id o)

written_has : (id n : ℕ) (fields : ℕ × List Value) (o : Object) → Own id o → Own id (written n fields o)
written_has id n fields o has =
    subst HasVersions (ap (λ (vs : List versions.Version). record (object_as id o) { versions = vs }) (written_same n 0 fields o.versions has.rising)) (set_has fields.0 n fields.1 (object_as id o) has)

derived_own : (id stamp : ℕ) (v : Version) (o : Object) → Own id o → Own id (derived v.number (stamp, values_of v.fields) o)
derived_own id stamp v o has = subst HasVersions (derived_same id stamp v o) (derived_has stamp (version_as v) (object_as id o) has)

without_has : (id n : ℕ) (o : Object) → nat_lt 1 (length o.versions) ≡ true → Own id o → Own id (without n o)
without_has id n o more has =
    subst HasVersions (ap (λ (vs : List versions.Version). record (object_as id o) { versions = vs }) (without_same n 0 o.versions has.rising))
    (dropped_has n (object_as id o) (ap (λ (m : ℕ). nat_lt 1 m) (length-map o.versions version_as) ∙ more) has)

made_has : (id class : ℕ) (fields : ℕ × List Value) → Own id (made class fields)
made_has id class fields = record { some = omega arith; rising = (omega arith, tt); last = (omega arith, tt) }

-- ---- the same of all objects

versions_kept : IsKept (λ next. HasVersions) AnyTaking
versions_kept = record {
  later = λ low next o up has. has;
  set = λ next id n fields o fit has. written_has id n fields o has;
  version = λ next id stamp v o fit has. derived_own id stamp v o has;
  dropped = λ next id n o more has. without_has id n o more has;
  removed = λ next id o has. record { some = has.some; rising = has.rising; last = has.last };
  active = λ next id class trigger args o may has. record { some = has.some; rising = has.rising; last = has.last };
  off = λ next id number o has. record { some = has.some; rising = has.rising; last = has.last };
  states = λ next id rs o has. record { some = has.some; rising = has.rising; last = has.last };
  new = λ next class fields fit. made_has next class fields;
}

have_then : {R : Type 0} (y : NumberTx) (answer : Answer (R × Layer)) → IfDone (GoesOn (λ next. HasVersions) y) answer → StillHaveVersions y answer
have_then y answer = done_then (GoesOn (λ next. HasVersions) y) (λ (x : Layer). (z : NumberTx) → Stands x z → Continues y z → HaveVersions z.now.bones) (λ x goes z stands on. (goes z stands on).0) answer

-- ---- each call

pub write_has : (classes : List Class) (base : Entries) (x : Layer) (y : NumberTx) (r : Ref) (slot : ℕ) (value : Value) → Stands x y → HaveVersions y.now.bones → IsRead classes base x y r.object → StillHaveVersions y (write classes base r slot value x)
write_has classes base x y r slot value stands have found = have_then y (write classes base r slot value x) (write_each (λ next. HasVersions) versions_kept classes base x y r slot value stands have found)

pub derive_has : (classes : List Class) (base : Entries) (x : Layer) (y : NumberTx) (r : Ref) → Stands x y → HaveVersions y.now.bones → IsRead classes base x y r.object → StillHaveVersions y (derive classes base r x)
derive_has classes base x y r stands have found = have_then y (derive classes base r x) (derive_each (λ next. HasVersions) versions_kept classes base x y r stands have found)

pub drop_has : (classes : List Class) (base : Entries) (x : Layer) (y : NumberTx) (r : Ref) → Stands x y → HaveVersions y.now.bones → IsRead classes base x y r.object → StillHaveVersions y (drop_version classes base r x)
drop_has classes base x y r stands have found = have_then y (drop_version classes base r x) (drop_each (λ next. HasVersions) versions_kept classes base x y r stands have found)

pub touch_has : (classes : List Class) (base : Entries) (x : Layer) (y : NumberTx) (id : ℕ) → Stands x y → HaveVersions y.now.bones → IsRead classes base x y id → StillHaveVersions y (touch classes base id x)
touch_has classes base x y id stands have found = have_then y (touch classes base id x) (touch_each (λ next. HasVersions) versions_kept classes base x y id stands have found)

pub remove_has : (classes : List Class) (base : Entries) (x : Layer) (y : NumberTx) (id : ℕ) → Stands x y → HaveVersions y.now.bones → IsRead classes base x y id → StillHaveVersions y (remove classes base id x)
remove_has classes base x y id stands have found = have_then y (remove classes base id x) (remove_each (λ next. HasVersions) versions_kept classes base x y id stands have found)

pub activate_has : (classes : List Class) (base : Entries) (x : Layer) (y : NumberTx) (id class trigger : ℕ) (args : List Value) → Stands x y → HaveVersions y.now.bones → IsRead classes base x y id → StillHaveVersions y (activate classes base id class trigger args x)
activate_has classes base x y id class trigger args stands have found = have_then y (activate classes base id class trigger args x) (activate_each (λ next. HasVersions) versions_kept classes base x y id class trigger args stands have found (λ o is. tt))

pub deactivate_has : (classes : List Class) (base : Entries) (x : Layer) (y : NumberTx) (id number : ℕ) → Stands x y → HaveVersions y.now.bones → IsRead classes base x y id → StillHaveVersions y (deactivate classes base id number x)
deactivate_has classes base x y id number stands have found = have_then y (deactivate classes base id number x) (deactivate_each (λ next. HasVersions) versions_kept classes base x y id number stands have found)

pub put_has : (classes : List Class) (base : Entries) (x : Layer) (y : NumberTx) (id : ℕ) (rs : List Running) → Stands x y → HaveVersions y.now.bones → IsRead classes base x y id → StillHaveVersions y (put_acts classes base id rs x)
put_has classes base x y id rs stands have found = have_then y (put_acts classes base id rs x) (put_each (λ next. HasVersions) versions_kept classes base x y id rs stands have found)

pub create_has : (class : ℕ) (fields : List Value) (x : Layer) (y : NumberTx) → Stands x y → HaveVersions y.now.bones → StillHaveVersions y (create class fields x)
create_has class fields x y stands have = have_then y (create class fields x) (create_each (λ next. HasVersions) versions_kept class fields x y stands have)
