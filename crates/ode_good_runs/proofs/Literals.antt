-- The literals of a statement have objects of their classes.
use Rattle.std.proofs.Common.{◌≡◌, ℕ, Bool, true, false, cond, List, [], ◌∷◌, ◌==◌, Option, Some, None, Ok, Err, refl, sym, ap, ◌∙◌, subst, ◌<◌, ◌≤◌}
use Rattle.std.specs.Prelude.{is_some}
use Rattle.std.specs.List.{AllByRecursion}
use Rattle.std.proofs.lemmas.Bool.{eqb-true}
use Rattle.ode_value.specs.declared.reason.Refusal.TheVariants as refusal
use Rattle.ode_value.specs.declared.value.Ref.{Ref}
use Rattle.ode_value.specs.Answers.{Answer}
use Rattle.ode_value.specs.Denoting.{object_numbered, object_of}
use Rattle.ode_value.specs.Fitting.{IsDrawn}
use Rattle.ode_value.specs.References.{IsRef}
use Rattle.ode_value.specs.Versions.{Version, version_numbered, version_of}
use Rattle.ode_value.specs.Worlds.{Object, Bones}
use Rattle.ode_machine.specs.Refusals.{class_behind, classes_behind}
use Rattle.ode_laws.proofs.AlikePairs.{all_found}
use Rattle.ode_laws.proofs.Rows.{at_numbered, numbered_id}
use Rattle.ode_sound_laws.specs.Fits.{alive, all_alive, FitsVersion, FitsWorld, FitsLiteral, AreFit}
use Rattle.ode_sound_laws.proofs.Basics.{if_some_from, same_some}
use Rattle.ode_sound_laws.proofs.ExprLaws.{version_all}
use Rattle.ode_sound_laws.proofs.FitLaws.{of_alive, of_live}

-- goes on with an answer
abbrev pub then_answer : {X Y : Type 0} → Answer X → (X → Answer Y) → Answer Y
then_answer (Ok x) next = next x
then_answer (Err refusal) next = Err refusal

pub then_ok : {X Y : Type 0} (a : Answer X) (next : X → Answer Y) (y : Y) → then_answer a next ≡ Ok y → (x : X) × (a ≡ Ok x) × (next x ≡ Ok y)
then_ok (Ok x) next y e = (x, refl, e)
then_ok (Err refusal) next y e = absurd (cc)

pub ok_same : {X : Type 0} (x y : X) → ◌≡◌ {A = Answer X} (Ok x) (Ok y) → x ≡ y
ok_same x y e = cc

module _ (b : Bones) (fit : AreFit b) where
  numbered_is : (n : ℕ) (vs : List Version) (v : Version) → version_numbered n vs ≡ Some v → v.number ≡ n
  numbered_is n [] v e = absurd (cc)
  numbered_is n (w ∷ vs) v e = by_test (w.number == n) (eqb-true w.number n) e (numbered_is n vs v) where
    by_test : (t : Bool) → (t ≡ true → w.number ≡ n) → cond t (Some w) (version_numbered n vs) ≡ Some v → (version_numbered n vs ≡ Some v → v.number ≡ n) → v.number ≡ n
    by_test true same f rest = ap (λ (u : Version). u.number) (sym (same_some w v f)) ∙ same refl
    by_test false same f rest = rest f

  drawn_of : (o : Object) → FitsWorld b o → (n : Option ℕ) → is_some (version_of n o.versions) ≡ true → IsDrawn o.last n
  drawn_of o h None e = tt
  drawn_of o h (Some n) e = by_version (version_numbered n o.versions) refl e where
    by_version : (m : Option Version) → version_numbered n o.versions ≡ m → is_some m ≡ true → n ≤ o.last
    by_version (Some v) is f =
        let fits : FitsVersion b h.class o.last v = version_all (FitsVersion b h.class o.last) (Some n) o.versions h.versions v is in
        subst (λ k. k ≤ o.last) (numbered_is n o.versions v is) fits.number
    by_version None is f = absurd (cc)

  literal_fits : (r : Ref) → IsRef r → (class : ℕ) → class_behind r (object_of b r) ≡ Ok class → FitsLiteral b (r, class)
  literal_fits r is class e = by_object (object_of b r) refl e where
    by_live : (o : Object) → object_of b r ≡ Some o → (t : Bool) → is_some (version_of r.version o.versions) ≡ t → cond t (Ok o.class) (Err (refusal.NoVersion r)) ≡ Ok class → FitsLiteral b (r, class)
    by_live o there true some f =
        let live = of_live b r o there in
        let found : object_numbered r.object b.objects ≡ Some o = at_numbered b r.object o live.1 in
        let world : FitsWorld b o = all_found (FitsWorld b) r.object b.objects fit.objects o found in
        record {
          is = is;
          drawn = subst (λ n. n < b.next) (numbered_id r.object b.objects o found) world.number;
          object = if_some_from (λ (p : Object). (p.class ≡ class) × IsDrawn p.last r.version) (object_of (all_alive b) r) (λ p at.
              let it = of_alive b r p at in
              let same : o ≡ it.0 = same_some o it.0 (sym found ∙ it.2) in
              subst (λ (q : Object). (q.class ≡ class) × IsDrawn q.last r.version) (ap alive same ∙ it.3) (ok_same o.class class f, drawn_of o world r.version some));
        }
    by_live o there false some f = absurd (cc)

    by_object : (m : Option Object) → object_of b r ≡ m → class_behind r m ≡ Ok class → FitsLiteral b (r, class)
    by_object (Some o) there f = by_live o there (is_some (version_of r.version o.versions)) refl f
    by_object None there f = absurd (cc)

  pub literals_fit : (rs : List Ref) → AllByRecursion IsRef rs → (ls : List (Ref × ℕ)) → classes_behind b rs ≡ Ok ls → AllByRecursion (FitsLiteral b) ls
  literals_fit [] all ls e = subst (AllByRecursion (FitsLiteral b)) (ok_same [] ls e) tt
  literals_fit (r ∷ rs) all ls e =
      let class = then_ok (class_behind r (object_of b r)) (λ class. then_answer (classes_behind b rs) (λ classes. Ok ((r, class) ∷ classes))) ls e in
      let rest = then_ok (classes_behind b rs) (λ classes. Ok ((r, class.0) ∷ classes)) ls class.2 in
      subst (AllByRecursion (FitsLiteral b)) (ok_same ((r, class.0) ∷ rest.0) ls rest.2) (literal_fits r all.0 class.0 class.1, literals_fit rs all.1 rest.0 rest.1)
