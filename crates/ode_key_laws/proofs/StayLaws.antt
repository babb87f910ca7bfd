-- One object is this from now on, and the keys of touched objects are held.
use Rattle.std.proofs.Common.{◌≡◌, ◌==◌, ℕ, List, [], ◌∷◌, ◌++◌, Bool, true, false, cond, Some, None, refl, sym, ap, subst, ◌∙◌, arith}
use Rattle.std.proofs.lemmas.Bool.Decides.{nat_tests}
use Rattle.std.proofs.lemmas.List.Folds.{list_any-append}
use Rattle.std.specs.Prelude.{◌||◌, nat_eq}
use Rattle.std.specs.BTreeMap.{is_at}
use Rattle.std.specs.List.{fold, list_any}
use Rattle.std.specs.Ordering.{nat_cmp}
use Rattle.ode_key_laws.proofs.PlaceLaws.{all_stay}
use Rattle.ode_key_laws.specs.Keys.{AreHeld, Grows, HoldsKeys}
use Rattle.ode_laws.specs.Alike.{NumberWorld}
use Rattle.ode_objects.specs.Objects.{activation_keys}
use Rattle.ode_objects.specs.declared.object.Object.{Object}
use Rattle.ode_objects.specs.declared.tracked.First.TheVariants.{Other}
use Rattle.ode_objects.specs.declared.tracked.Tracked.{Tracked}
use Rattle.ode_overlay.specs.Layers.{Layer, is_touched, tracked_at}
use Rattle.ode_overlay_laws.proofs.AlteredLaws.{at_other, at_same}
use Rattle.ode_value.specs.Changes.{with_key}
use Rattle.ode_value.specs.declared.key.Key.{Key}
use Rattle.ode_version_laws.specs.Remembering.{IsOutside}

-- ---- the object of a number is this one then, with the keys that are held for it

module _ (first : NumberWorld) (x then_x : Layer) (id : ℕ) (u : Tracked) (ks : List Key) (holds : HoldsKeys first x) (keys : then_x.keys ≡ fold with_key x.keys ks)
    (found : (n : ℕ) → tracked_at n then_x ≡ cond (is_at (nat_cmp id) n) (Some u) (tracked_at n x))
    (others : (n : ℕ) → is_at (nat_cmp id) n ≡ false → is_touched n then_x ≡ is_touched n x)
    (held : is_touched id then_x ≡ true → AreHeld id then_x.keys u.current.activations) (grown : (o : Object) → u.first ≡ Other o → Grows o u.current) where
  now_by : (n : ℕ) (b : Bool) → is_at (nat_cmp id) n ≡ b → is_touched n then_x ≡ true → (v : Tracked) → cond b (Some u) (tracked_at n x) ≡ Some v → AreHeld n then_x.keys v.current.activations
  now_by n true at touched v is =
      let number = at_same id n at in
      let one : u ≡ v = cc in
      subst (λ m. AreHeld m then_x.keys v.current.activations) (sym number)
      (subst (λ (t : Tracked). AreHeld id then_x.keys t.current.activations) one (held (ap (λ m. is_touched m then_x) (sym number) ∙ touched)))
  now_by n false at touched v is =
      subst (λ (js : List Key). AreHeld n js v.current.activations) (sym keys)
      (all_stay (activation_keys n v.current.activations) ks x.keys (holds.now n (sym (others n at) ∙ touched) v is))

  grown_by : (n : ℕ) (b : Bool) → (v : Tracked) → cond b (Some u) (tracked_at n x) ≡ Some v → (o : Object) → v.first ≡ Other o → Grows o v.current
  grown_by n true v is o other =
      let one : u ≡ v = cc in
      subst (λ (t : Tracked). t.first ≡ Other o → Grows o t.current) one (grown o) other
  grown_by n false v is o other = holds.grown n v is o other

  gone_by : (n : ℕ) (b : Bool) → is_at (nat_cmp id) n ≡ b → is_touched n then_x ≡ true → cond b (Some u) (tracked_at n x) ≡ None → IsOutside first n
  gone_by n true at touched is = absurd (cc)
  gone_by n false at touched is = holds.gone n (sym (others n at) ∙ touched) is

  pub then_holds : HoldsKeys first then_x
  then_holds = record {
    now = λ n touched v is. now_by n (is_at (nat_cmp id) n) refl touched v (sym (found n) ∙ is);
    grown = λ n v is o other. grown_by n (is_at (nat_cmp id) n) v (sym (found n) ∙ is) o other;
    gone = λ n touched is. gone_by n (is_at (nat_cmp id) n) refl touched (sym (found n) ∙ is);
  }

-- ---- one object more is touched

or_none : (b c : Bool) → c ≡ false → (b || (c || false)) ≡ b
or_none true c none = refl
or_none false c none = ap (λ t. t || false) none

same_test : (n id : ℕ) → nat_eq n id ≡ (n == id)
same_test n id = grind (arith, nat_tests)

-- the others stay as they were
pub touched_others : (ns : List ℕ) (id n : ℕ) → is_at (nat_cmp id) n ≡ false → (b : Bool) → list_any (nat_eq n) (cond b ns (ns ++ id ∷ [])) ≡ list_any (nat_eq n) ns
touched_others ns id n at true = refl
touched_others ns id n at false =
    list_any-append (nat_eq n) ns (id ∷ []) ∙ or_none (list_any (nat_eq n) ns) (nat_eq n id) (same_test n id ∙ at_other id n at)
