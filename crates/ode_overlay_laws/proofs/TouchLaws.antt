-- Objects are touched, in the overlay and in the machine.
use Rattle.std.proofs.Common.{◌≡◌, ◌==◌, ℕ, List, [], ◌∷◌, ◌++◌, Bool, true, false, cond, Option, Some, None, Ok, refl, sym, ap, subst, ◌∙◌, arith}
use Rattle.std.proofs.lemmas.Bool.Decides.{nat_tests}
use Rattle.std.proofs.lemmas.Cmp.{nat_cmp_total}
use Rattle.std.specs.Prelude.{◌||◌, nat_eq}
use Rattle.std.specs.BTreeMap.{is_at}
use Rattle.std.specs.List.{fold, list_any}
use Rattle.std.specs.Map.{lookup}
use Rattle.std.specs.Ordering.{nat_cmp}
use Rattle.ode_keep.proofs.Maps.{lookup_put}
use Rattle.ode_laws.specs.Alike.{NumberTx}
use Rattle.ode_overlay.specs.Answers.{Answer}
use Rattle.ode_overlay.specs.Changing.{object_of, put_new, touch_first, touch_with, touched_with}
use Rattle.ode_overlay.specs.Layers.{Layer, is_touched, tracked_at}
use Rattle.ode_overlay.specs.Objects.{Object, Tracked, activation_keys}
use Rattle.ode_overlay_laws.proofs.AlteredLaws.{at_same, has_found}
use Rattle.ode_overlay_laws.proofs.FollowingLaws.{as_well, finds_object, follows_changes, follows_live, live_at}
use Rattle.ode_overlay_laws.proofs.KeySets.{activation_parts, all_between}
use Rattle.ode_overlay_laws.proofs.ObjectLaws.{none_is_short, same_activations}
use Rattle.ode_overlay_laws.specs.Following.{Follows, joins_first, on_live}
use Rattle.ode_overlay_laws.specs.Standing.{IsAsAtFirst, IsFresh, IsIn, Stands, object_as}
use Rattle.ode_value.specs.Acts.{Act, Outcome, Done, Aborted, ◌>>◌, does, gives, go_on}
use Rattle.ode_value.specs.Changes as machine
use Rattle.ode_value.specs.Changes.{changes, draws_none, with_key}
use Rattle.ode_value.specs.Posting as posting
use Rattle.ode_value.specs.Posting.{joins}
use Rattle.ode_value.specs.Transactions.{touching}
use Rattle.ode_value.specs.Worlds as worlds
use Rattle.ode_value.specs.declared.key.Key.{Key}

same_test : (id n : ℕ) → (n == id) ≡ nat_eq id n
same_test id n = grind (arith, nat_tests)

among_same : (id : ℕ) (ns : List ℕ) → list_any (λ n. n == id) ns ≡ list_any (nat_eq id) ns
among_same id [] = refl
among_same id (n ∷ ns) = by_test (n == id) (nat_eq id n) (same_test id n) (among_same id ns) where
  by_test : (a b : Bool) → a ≡ b → list_any (λ m. m == id) ns ≡ list_any (nat_eq id) ns → (a || list_any (λ m. m == id) ns) ≡ (b || list_any (nat_eq id) ns)
  by_test true true e more = refl
  by_test false false e more = more
  by_test true false e more = absurd (cc)
  by_test false true e more = absurd (cc)

-- one act behind two others
in_turn : {R S T : Type 0} (m : Outcome (Unit {0}) ℕ R) (f : R → Act (Unit {0}) ℕ S) (g : S → Act (Unit {0}) ℕ T) → go_on (go_on m f) g ≡ go_on m (λ r z. go_on (f r z) g)
in_turn (Done r z) f g = refl
in_turn (Aborted reason z) f g = refl

module _ (x : Layer) (y : NumberTx) (id : ℕ) (new : Option Tracked) (stands : Stands x y) (fresh : IsFresh x y id new) where
  touched_same : posting.is_touched id y ≡ is_touched id x
  touched_same = ap (λ (ns : List ℕ). list_any (λ n. n == id) ns) stands.touched ∙ among_same id x.touched

  tracked_in : (new : Option Tracked) → IsFresh x y id new → (n : ℕ) (t : Tracked) → lookup (is_at (nat_cmp n)) (put_new id new x.objects) ≡ Some t → IsIn y.now n t.current
  tracked_in None fresh n t is = stands.tracked n t is
  tracked_in (Some new) fresh n t is = by_test (is_at (nat_cmp id) n) refl (sym (lookup_put nat_cmp_total id new n x.objects) ∙ is) where
    by_test : (b : Bool) → is_at (nat_cmp id) n ≡ b → cond b (Some new) (tracked_at n x) ≡ Some t → IsIn y.now n t.current
    by_test true at e = let same : new ≡ t = cc in subst (λ m. IsIn y.now m t.current) (sym (at_same id n at)) (subst (λ (u : Tracked). IsIn y.now id u.current) same fresh)
    by_test false at e = stands.tracked n t e

  others_in : (new : Option Tracked) → (n : ℕ) → lookup (is_at (nat_cmp n)) (put_new id new x.objects) ≡ None → IsAsAtFirst y.now y.first n
  others_in None n is = stands.others n is
  others_in (Some new) n is = by_test (is_at (nat_cmp id) n) refl (sym (lookup_put nat_cmp_total id new n x.objects) ∙ is) where
    by_test : (b : Bool) → is_at (nat_cmp id) n ≡ b → cond b (Some new) (tracked_at n x) ≡ None → IsAsAtFirst y.now y.first n
    by_test true at e = absurd (cc)
    by_test false at e = stands.others n e

  then_stands : (o : Object) → is_touched id x ≡ false → Stands (touched_with new (fold with_key x.keys (activation_keys id o.activations)) id x) (touching id (machine.holding (activation_keys id o.activations) y))
  then_stands o not_yet = record {
    origin = stands.origin;
    counters = stands.counters;
    queued = stands.queued;
    next = stands.next;
    added = stands.added;
    tracked = tracked_in new fresh;
    others = others_in new;
    touched = ap (λ (ns : List ℕ). ns ++ id ∷ []) stands.touched ∙ sym (ap (λ b. cond b x.touched (x.touched ++ id ∷ [])) not_yet);
    collected = stands.collected;
    gathered = stands.gathered;
    keys = ap (λ zs. fold with_key zs (activation_keys id o.activations)) stands.keys ∙ all_between x.origin (activation_keys id o.activations) (activation_parts id o.activations) x.keys;
    footprint = stands.footprint;
  }

  abbrev rest : Object → Answer (Bool × Layer)
  rest o = cond (is_touched id x) (Ok (false, x)) (touch_first new id o x)

  abbrev acts_by : List Key → Outcome (Unit {0}) ℕ Bool
  acts_by ks = go_on (changes ks 0 draws_none y) (λ _. does (touching id) >> gives true)

  abbrev acts_on : worlds.Object → Act (Unit {0}) ℕ (Unit {0})
  acts_on q = changes (machine.activation_keys q) 0 draws_none >> does (touching id)

  joined : (o : Object) → IsIn y.now id o → o.live ≡ true → go_on (joins id y) (λ _. gives true) ≡ acts_by (activation_keys id o.activations)
  joined o at live =
      ap (λ (m : Outcome (Unit {0}) ℕ (Unit {0})). go_on m (λ _. gives true)) (finds_object y id (object_as id o) acts_on (live_at y id o at true live))
      ∙ in_turn (changes (machine.activation_keys (object_as id o)) 0 draws_none y) (λ _. does (touching id)) (λ _. gives true)
      ∙ ap acts_by (same_activations id o.activations)

  by_touched : (o : Object) → IsIn y.now id o → o.live ≡ true → (b : Bool) → is_touched id x ≡ b
      → Follows y gives (cond b (Ok (false, x)) (touch_first new id o x)) (cond b (gives false) (joins id >> gives true) y)
  by_touched o at live true is = (y, (stands, (record { first = refl; bones = refl; deferred = refl; text = refl; run = refl }, refl)))
  by_touched o at live false is =
      as_well y gives (touch_first new id o x) (go_on (joins id y) (λ _. gives true)) (acts_by (activation_keys id o.activations)) (joined o at live)
      (follows_changes x y (activation_keys id o.activations) stands (activation_parts id o.activations) 0 gives (λ keys. Ok (true, touched_with new keys id x)) (does (touching id) >> gives true) none_is_short
      (touching id (machine.holding (activation_keys id o.activations) y), (then_stands o is, (record { first = refl; bones = refl; deferred = refl; text = refl; run = refl }, refl))))

  next : (t : Tracked) → object_of new id x ≡ Some t → IsIn y.now id t.current → t.current.live ≡ true → Follows y gives (rest t.current) (joins_first id y)
  next t is at live =
      as_well y gives (rest t.current) (joins_first id y) (cond (is_touched id x) (gives false) (joins id >> gives true) y)
      (ap (λ b. cond b (gives false) (joins id >> gives true) y) touched_same) (by_touched t.current at live (is_touched id x) refl)

  pub touched_law : Follows y gives (touch_with new id x) (on_live id (joins_first id) y)
  unfolding touch_with
  touched_law = follows_live y id gives (joins_first id) rest (object_of new id x) (has_found x y id new stands fresh) next
