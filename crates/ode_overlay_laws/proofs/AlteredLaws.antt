-- An object is changed, in the overlay and in the machine.
use Rattle.std.proofs.Common.{◌≡◌, ◌==◌, ℕ, List, [], ◌∷◌, Bool, true, false, cond, Option, Some, None, refl, sym, ap, subst, ◌∙◌, arith}
use Rattle.std.proofs.lemmas.Bool.{eq-eqb}
use Rattle.std.proofs.lemmas.Bool.Decides.{nat_tests}
use Rattle.std.proofs.lemmas.Cmp.{nat_cmp_total}
use Rattle.std.proofs.lemmas.Map.Lookups.{exact_unsigned}
use Rattle.std.specs.BTreeMap.{is_at}
use Rattle.std.specs.Cmp.{Equal-is}
use Rattle.std.specs.List.{AllByRecursion, fold}
use Rattle.std.specs.Ordering.{nat_cmp}
use Rattle.ode_keep.proofs.Maps.{lookup_put}
use Rattle.ode_laws.proofs.Rows.{find-with}
use Rattle.ode_laws.specs.Alike.{NumberTx}
use Rattle.ode_overlay.specs.Changing.{now_tracked, object_of, with_now}
use Rattle.ode_overlay.specs.Layers.{Layer, tracked_at}
use Rattle.ode_overlay.specs.Objects.{Object, Tracked}
use Rattle.ode_overlay_laws.proofs.KeySets.{IsPart, all_between}
use Rattle.ode_overlay_laws.specs.Standing.{IsAsAtFirst, IsFresh, IsIn, Stands, kept_as, object_as}
use Rattle.ode_value.specs.Changes as machine
use Rattle.ode_value.specs.Changes.{with_key}
use Rattle.ode_value.specs.Denoting.{object_numbered}
use Rattle.ode_value.specs.Transactions.{with_bones}
use Rattle.ode_value.specs.Worlds as worlds
use Rattle.ode_value.specs.Worlds.{with_object}
use Rattle.ode_value.specs.declared.key.Key.{Key}

pub at_same : (id n : ℕ) → is_at (nat_cmp id) n ≡ true → n ≡ id
at_same id n at = sym (exact_unsigned id n ((Equal-is (nat_cmp id n)).0 at))

pub at_other : (id n : ℕ) → is_at (nat_cmp id) n ≡ false → (n == id) ≡ false
at_other id n at = grind (arith, nat_tests)

-- the others stay
pub numbered_past : (n id : ℕ) (f : worlds.Object → worlds.Object) → ((o : worlds.Object) → (f o).id ≡ o.id) → (n == id) ≡ false → (os : List worlds.Object)
    → object_numbered n (with_object id f os) ≡ object_numbered n os
numbered_past n id f same other [] = refl
numbered_past n id f same other (p ∷ os) = by_tests (p.id == id) (p.id == n) refl refl (numbered_past n id f same other os) where
  by_tests : (a b : Bool) → (p.id == id) ≡ a → (p.id == n) ≡ b → object_numbered n (with_object id f os) ≡ object_numbered n os
      → object_numbered n (cond a (f p ∷ os) (p ∷ with_object id f os)) ≡ cond b (Some p) (object_numbered n os)
  by_tests true true e g rest = absurd (grind (arith, nat_tests))
  by_tests true false e g rest = ap (λ t. cond t (Some (f p)) (object_numbered n os)) (ap (λ m. m == n) (same p) ∙ g)
  by_tests false true e g rest = ap (λ t. cond t (Some p) (object_numbered n (with_object id f os))) g
  by_tests false false e g rest = ap (λ t. cond t (Some p) (object_numbered n (with_object id f os))) g ∙ rest

-- what is found of an object
abbrev pub Has : NumberTx → ℕ → Option Tracked → Type 0
Has y id None = object_numbered id y.now.bones.objects ≡ None
Has y id (Some t) = IsIn y.now id t.current

pub has_found : (x : Layer) (y : NumberTx) (id : ℕ) (new : Option Tracked) → Stands x y → IsFresh x y id new → Has y id (object_of new id x)
has_found x y id (Some t) stands fresh = fresh
has_found x y id None stands fresh = by_tracked (tracked_at id x) refl where
  by_tracked : (f : Option Tracked) → tracked_at id x ≡ f → Has y id f
  by_tracked None is = fresh is
  by_tracked (Some t) is = stands.tracked id t is

pub now_current : (o : Object) (f : Option Tracked) → (now_tracked o f).current ≡ o
now_current o None = refl
now_current o (Some t) = refl

-- the machine changes an object and holds keys
abbrev pub altered : ℕ → (worlds.Object → worlds.Object) → List Key → NumberTx → NumberTx
altered id g ks y = with_bones (λ b. record b { objects = with_object id g b.objects }) (machine.holding ks y)

module _ (x : Layer) (y : NumberTx) (id : ℕ) (new : Option Tracked) (was o : Object) (g : worlds.Object → worlds.Object) (ks : List Key)
    (stands : Stands x y) (at : IsIn y.now id was) (parts : AllByRecursion IsPart ks) (same : (q : worlds.Object) → (g q).id ≡ q.id)
    (becomes : g (object_as id was) ≡ object_as id o) (kept : kept_as was ≡ kept_as o) where
  abbrev then_x : Layer
  then_x = with_now id new o (fold with_key x.keys ks) x

  abbrev then_y : NumberTx
  then_y = altered id g ks y

  abbrev tracked_then : Tracked
  tracked_then = now_tracked o (object_of new id x)

  found : (n : ℕ) → tracked_at n then_x ≡ cond (is_at (nat_cmp id) n) (Some tracked_then) (tracked_at n x)
  found n = lookup_put nat_cmp_total id tracked_then n x.objects

  here : IsIn then_y.now id o
  here = record {
    object = find-with id id g same y.now.bones.objects (object_as id was) at.object
        ∙ ap (λ b. Some (cond b (g (object_as id was)) (object_as id was))) (eq-eqb id id refl) ∙ ap (λ (q : worlds.Object). Some q) becomes;
    kept = at.kept ∙ ap Some kept;
  }

  tracked_in : (n : ℕ) (t : Tracked) (b : Bool) → is_at (nat_cmp id) n ≡ b → cond b (Some tracked_then) (tracked_at n x) ≡ Some t → IsIn then_y.now n t.current
  tracked_in n t true is e =
      let one : tracked_then ≡ t = cc in
      let current : o ≡ t.current = sym (now_current o (object_of new id x)) ∙ ap (λ (u : Tracked). u.current) one in
      subst (λ m. IsIn then_y.now m t.current) (sym (at_same id n is)) (subst (λ (c : Object). IsIn then_y.now id c) current here)
  tracked_in n t false is e =
      let there = stands.tracked n t e in
      record {
        object = find-with n id g same y.now.bones.objects (object_as n t.current) there.object
            ∙ ap (λ b. Some (cond b (g (object_as n t.current)) (object_as n t.current))) (at_other id n is);
        kept = there.kept;
      }

  others_in : (n : ℕ) (b : Bool) → is_at (nat_cmp id) n ≡ b → cond b (Some tracked_then) (tracked_at n x) ≡ None → IsAsAtFirst then_y.now then_y.first n
  others_in n true is e = absurd (cc)
  others_in n false is e =
      let there = stands.others n e in
      record { object = numbered_past n id g same (at_other id n is) y.now.bones.objects ∙ there.object; kept = there.kept }

  pub altered_stands : Stands then_x then_y
  altered_stands = record {
    origin = stands.origin;
    counters = stands.counters;
    queued = stands.queued;
    next = stands.next;
    added = stands.added;
    tracked = λ n t is. tracked_in n t (is_at (nat_cmp id) n) refl (sym (found n) ∙ is);
    others = λ n is. others_in n (is_at (nat_cmp id) n) refl (sym (found n) ∙ is);
    touched = stands.touched;
    collected = stands.collected;
    gathered = stands.gathered;
    keys = ap (λ zs. fold with_key zs ks) stands.keys ∙ all_between x.origin ks parts x.keys;
    footprint = stands.footprint;
  }
