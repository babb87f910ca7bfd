-- An object is changed with its state numbers, in the overlay and in the machine.
use Rattle.std.proofs.Common.{◌≡◌, ◌==◌, ℕ, List, [], ◌∷◌, Bool, true, false, cond, Option, Some, None, refl, sym, ap, subst, ◌∙◌, arith}
use Rattle.std.proofs.lemmas.Bool.{eq-eqb}
use Rattle.std.proofs.lemmas.Bool.Decides.{nat_tests}
use Rattle.std.proofs.lemmas.Cmp.{nat_cmp_total}
use Rattle.std.specs.BTreeMap.{is_at}
use Rattle.std.specs.Map.{lookup}
use Rattle.std.specs.Ordering.{nat_cmp}
use Rattle.ode_keep.proofs.Maps.{lookup_put}
use Rattle.ode_laws.proofs.Rows.{find-with, kept-with}
use Rattle.ode_laws.specs.Alike.{NumberTx, NumberWorld}
use Rattle.ode_objects.specs.declared.object.Object.{Object}
use Rattle.ode_objects.specs.declared.tracked.Tracked.{Tracked}
use Rattle.ode_overlay.specs.Changing.{now_tracked, object_of, put_now}
use Rattle.ode_overlay.specs.Layers.{Layer, tracked_at}
use Rattle.ode_overlay_laws.proofs.AlteredLaws.{at_other, at_same, now_current, numbered_past}
use Rattle.ode_overlay_laws.specs.Standing.{IsAsAtFirst, IsIn, Stands, kept_as, object_as}
use Rattle.ode_value.specs.Denoting.{object_numbered}
use Rattle.ode_value.specs.Pasts.{Kept}
use Rattle.ode_value.specs.Worlds as worlds
use Rattle.ode_value.specs.Worlds.{kept_at, with_kept, with_object}

abbrev pub NumberKept : Type 0
NumberKept = Kept (Unit {0}) ℕ

-- what is kept by the other numbers stays
kept_past : {K : Type 0} (n id : ℕ) (h : K → K) → (n == id) ≡ false → (rows : List (ℕ × K)) → kept_at n (with_kept id h rows) ≡ kept_at n rows
kept_past n id h other [] = refl
kept_past {K} n id h other (row ∷ rows) = by_tests (row.0 == id) (row.0 == n) refl refl (kept_past n id h other rows) where
  by_tests : (a b : Bool) → (row.0 == id) ≡ a → (row.0 == n) ≡ b → kept_at n (with_kept id h rows) ≡ kept_at n rows
      → kept_at n (cond a ((row.0, h row.1) ∷ rows) (row ∷ with_kept id h rows)) ≡ cond b (Some row.1) (kept_at n rows)
  by_tests true true e g rest = absurd (grind (arith, nat_tests))
  by_tests true false e g rest = ap (λ t. cond t (Some (h row.1)) (kept_at n rows)) g
  by_tests false true e g rest = ap (λ t. cond t (Some row.1) (kept_at n (with_kept id h rows))) g
  by_tests false false e g rest = ap (λ t. cond t (Some row.1) (kept_at n (with_kept id h rows))) g ∙ rest

-- one object becomes another, with its state numbers
module _ (x : Layer) (y : NumberTx) (id : ℕ) (new : Option Tracked) (was o : Object) (g : worlds.Object → worlds.Object) (h : NumberKept → NumberKept) (now : NumberWorld)
    (stands : Stands x y) (at : IsIn y.now id was) (same : (q : worlds.Object) → (g q).id ≡ q.id) (becomes : g (object_as id was) ≡ object_as id o)
    (kept : h (kept_as was) ≡ kept_as o) (objects : now.bones.objects ≡ with_object id g y.now.bones.objects) (pasts : now.pasts ≡ with_kept id h y.now.pasts) where
  abbrev tracked_then : Tracked
  tracked_then = now_tracked o (object_of new id x)

  here : IsIn now id o
  here = record {
    object = ap (λ (os : List worlds.Object). object_numbered id os) objects
        ∙ find-with id id g same y.now.bones.objects (object_as id was) at.object
        ∙ ap (λ b. Some (cond b (g (object_as id was)) (object_as id was))) (eq-eqb id id refl) ∙ ap (λ (q : worlds.Object). Some q) becomes;
    kept = ap (λ (rows : List (ℕ × NumberKept)). kept_at id rows) pasts
        ∙ kept-with id id h y.now.pasts (kept_as was) at.kept
        ∙ ap (λ b. Some (cond b (h (kept_as was)) (kept_as was))) (eq-eqb id id refl) ∙ ap (λ (k : NumberKept). Some k) kept;
  }

  tracked_in : (n : ℕ) (t : Tracked) (b : Bool) → is_at (nat_cmp id) n ≡ b → cond b (Some tracked_then) (tracked_at n x) ≡ Some t → IsIn now n t.current
  tracked_in n t true is e =
      let one : tracked_then ≡ t = cc in
      let current : o ≡ t.current = sym (now_current o (object_of new id x)) ∙ ap (λ (u : Tracked). u.current) one in
      subst (λ m. IsIn now m t.current) (sym (at_same id n is)) (subst (λ (c : Object). IsIn now id c) current here)
  tracked_in n t false is e =
      let there = stands.tracked n t e in
      record {
        object = ap (λ (os : List worlds.Object). object_numbered n os) objects
            ∙ find-with n id g same y.now.bones.objects (object_as n t.current) there.object
            ∙ ap (λ b. Some (cond b (g (object_as n t.current)) (object_as n t.current))) (at_other id n is);
        kept = ap (λ (rows : List (ℕ × NumberKept)). kept_at n rows) pasts
            ∙ kept-with n id h y.now.pasts (kept_as t.current) there.kept
            ∙ ap (λ b. Some (cond b (h (kept_as t.current)) (kept_as t.current))) (at_other id n is);
      }

  others_in : (n : ℕ) (b : Bool) → is_at (nat_cmp id) n ≡ b → cond b (Some tracked_then) (tracked_at n x) ≡ None → IsAsAtFirst now y.first n
  others_in n true is e = absurd (cc)
  others_in n false is e =
      let there = stands.others n e in
      record {
        object = ap (λ (os : List worlds.Object). object_numbered n os) objects ∙ numbered_past n id g same (at_other id n is) y.now.bones.objects ∙ there.object;
        kept = ap (λ (rows : List (ℕ × NumberKept)). kept_at n rows) pasts ∙ kept_past n id h (at_other id n is) y.now.pasts ∙ there.kept;
      }

  pub tracked_now : (n : ℕ) (t : Tracked) → lookup (is_at (nat_cmp n)) (put_now id new o x.objects) ≡ Some t → IsIn now n t.current
  tracked_now n t is = tracked_in n t (is_at (nat_cmp id) n) refl (sym (lookup_put nat_cmp_total id tracked_then n x.objects) ∙ is)

  pub others_now : (n : ℕ) → lookup (is_at (nat_cmp n)) (put_now id new o x.objects) ≡ None → IsAsAtFirst now y.first n
  others_now n is = others_in n (is_at (nat_cmp id) n) refl (sym (lookup_put nat_cmp_total id tracked_then n x.objects) ∙ is)
