-- Activations go off, in the overlay and in the machine.
use Rattle.std.proofs.Common.{◌≡◌, ◌==◌, ◌⊎◌, inl, inr, ℕ, List, [], ◌∷◌, Bool, true, false, cond, map, pos, Option, Some, None, Ok, refl, sym, ap, subst, ◌∙◌, arith}
use Rattle.std.proofs.lemmas.Bool.{and_parts, eqb-true}
use Rattle.std.proofs.lemmas.Bool.Decides.{nat_tests}
use Rattle.std.specs.Prelude.{◌&&◌, ◌||◌}
use Rattle.std.specs.Ordering.{int_eq}
use Rattle.std.specs.List.{AllByRecursion, find, list_any}
use Rattle.std.specs.Option.{option_map}
use Rattle.ode_laws.proofs.Rows.{find-map}
use Rattle.ode_laws.specs.Alike.{NumberTx}
use Rattle.ode_objects.specs.Objects.{is_on, switched_off, turned_off}
use Rattle.ode_objects.specs.declared.object.Active.{Active}
use Rattle.ode_objects.specs.declared.object.Object.{Object}
use Rattle.ode_objects.specs.declared.tracked.Tracked.{Tracked}
use Rattle.ode_overlay.specs.Answers.{Answer}
use Rattle.ode_overlay.specs.Changing.{deactivate_with, object_of, switch_off, with_now}
use Rattle.ode_overlay.specs.Layers.{Layer}
use Rattle.ode_overlay_laws.proofs.AlteredLaws.{altered, altered_stands, has_found}
use Rattle.ode_overlay_laws.proofs.FollowingLaws.{as_well, finds_object, follows_changes, follows_live, live_at}
use Rattle.ode_overlay_laws.proofs.KeySets.{IsPart, activation_part}
use Rattle.ode_overlay_laws.proofs.ObjectLaws.{none_is_short}
use Rattle.ode_overlay_laws.specs.Following.{Follows, on_live}
use Rattle.ode_overlay_laws.specs.Standing.{IsFresh, IsIn, Stands, active_as, object_as}
use Rattle.ode_value.specs.Acts.{Act, Outcome, gives, go_on}
use Rattle.ode_value.specs.Changes.{alters_object, changes, draws_none}
use Rattle.ode_value.specs.Keys.{activation_key}
use Rattle.ode_value.specs.Making as making
use Rattle.ode_value.specs.Objects as objects
use Rattle.ode_value.specs.Pasts.{numbers}
use Rattle.ode_value.specs.Statements as statements
use Rattle.ode_value.specs.Statements.{switches_off_found, switches_off_numbered}
use Rattle.ode_value.specs.Tables.{Table}
use Rattle.ode_value.specs.Worlds as worlds
use Rattle.ode_value.specs.declared.key.Key.{Key}
use Rattle.ode_value.specs.declared.value.Ref.{Ref}
use Rattle.ode_value.specs.declared.value.Value.TheVariants as value

-- ---- which one goes off

same_number : (m n : ℕ) → int_eq (pos m) (pos n) ≡ (n == m)
same_number m n = grind (arith, nat_tests)

turned : (a b : Bool) → (a && b) ≡ (b && a)
turned true true = refl
turned true false = refl
turned false true = refl
turned false false = refl

same_on : (number : ℕ) (a : Active) → statements.is_on (value.Int (pos number)) (active_as a) ≡ is_on number a
same_on number a = ap (λ b. a.on && b) (same_number number a.number) ∙ turned a.on (a.number == number)

-- an activation that is found is on, and has the number
pub record IsTurned (n : ℕ) (acts : List Active) (f : Option objects.Activation) : Type 0 where
  pub active : Active
  pub is : f ≡ Some (active_as active)
  pub number : active.number ≡ n
  pub any : list_any (is_on n) acts ≡ true

pub record IsUnturned (number : ℕ) (acts : List Active) (f : Option objects.Activation) : Type 0 where
  pub is : f ≡ None
  pub none : list_any (is_on number) acts ≡ false

-- as the overlay finds it
abbrev first_on : ℕ → List Active → Option objects.Activation
first_on number acts = option_map active_as (find (is_on number) acts)

on_or_off : (number : ℕ) (acts : List Active) → IsTurned number acts (first_on number acts) ⊎ IsUnturned number acts (first_on number acts)
on_or_off number [] = inr (record { is = refl; none = refl })
on_or_off number (a ∷ more) = by_test (is_on number a) refl (on_or_off number more) where
  tail : (b : Bool) → is_on number a ≡ b → b ≡ false → list_any (is_on number) (a ∷ more) ≡ list_any (is_on number) more
  tail true is off = absurd (cc)
  tail false is off = ap (λ b. b || list_any (is_on number) more) is

  by_test : (b : Bool) → is_on number a ≡ b → IsTurned number more (first_on number more) ⊎ IsUnturned number more (first_on number more)
      → IsTurned number (a ∷ more) (option_map active_as (cond b (Some a) (find (is_on number) more))) ⊎ IsUnturned number (a ∷ more) (option_map active_as (cond b (Some a) (find (is_on number) more)))
  by_test true is later = inl (record {
    active = a;
    is = refl;
    number = eqb-true a.number number (and_parts (a.number == number) a.on is).0;
    any = ap (λ b. b || list_any (is_on number) more) is;
  })
  by_test false is (inl found) = inl (record { active = found.active; is = found.is; number = found.number; any = tail false is refl ∙ found.any })
  by_test false is (inr none) = inr (record { is = none.is; none = tail false is refl ∙ none.none })

-- ---- what it leaves

off_as : (number : ℕ) (a : Active) (b : Bool) → cond b (record (active_as a) { on = false }) (active_as a) ≡ active_as (cond b (record a { on = false }) a)
off_as number a true = refl
off_as number a false = refl

all_off : (number : ℕ) (acts : List Active) → map (making.switched_off number) (map active_as acts) ≡ map active_as (map (turned_off number) acts)
all_off number [] = refl
all_off number (a ∷ more) =
    ap (λ (q : objects.Activation). q ∷ map (making.switched_off number) (map active_as more)) (off_as number a (a.number == number))
    ∙ ap (λ (qs : List objects.Activation). active_as (turned_off number a) ∷ qs) (all_off number more)

abbrev state_row : Active → ℕ × ℕ
state_row a = (a.number, a.state)

same_row : (a : Active) (b : Bool) → state_row a ≡ state_row (cond b (record a { on = false }) a)
same_row a true = refl
same_row a false = refl

same_rows : (number : ℕ) (acts : List Active) → map state_row acts ≡ map state_row (map (turned_off number) acts)
same_rows number [] = refl
same_rows number (a ∷ more) =
    ap (λ (row : ℕ × ℕ). row ∷ map state_row more) (same_row a (a.number == number))
    ∙ ap (λ (rows : List (ℕ × ℕ)). state_row (turned_off number a) ∷ rows) (same_rows number more)

-- ---- the law

module _ (tables : ℕ → ℕ → Table) (x : Layer) (y : NumberTx) (r : Ref) (number : ℕ) (new : Option Tracked) (stands : Stands x y) (fresh : IsFresh x y r.object new) where
  abbrev id : ℕ
  id = r.object

  abbrev ks : List Key
  ks = activation_key id number ∷ []

  parts : AllByRecursion IsPart ks
  parts = (activation_part id number, tt)

  abbrev off : worlds.Object → worlds.Object
  off q = record q { activations = map (making.switched_off number) q.activations }

  abbrev rest : Object → Answer (Unit {0} × Layer)
  rest o = cond (list_any (is_on number) o.activations) (switch_off new id number o x) (Ok (tt, x))

  abbrev off_at : ℕ → Outcome (Unit {0}) ℕ (Unit {0})
  off_at n = go_on (changes (activation_key id n ∷ []) 0 draws_none y) (λ _. alters_object id (λ o. record o { activations = map (making.switched_off n) o.activations }))

  abbrev off_found : Option objects.Activation → Outcome (Unit {0}) ℕ (Unit {0})
  off_found f = switches_off_found (numbers tables) id f y

  abbrev off_in : worlds.Object → Act (Unit {0}) ℕ (Unit {0})
  off_in q = switches_off_found (numbers tables) id (find (statements.is_on (value.Int (pos number))) q.activations)

  goes_off : (o : Object) → IsIn y.now id o → Follows y gives (switch_off new id number o x) (off_at number)
  goes_off o at =
      let then_stands = altered_stands x y id new o (switched_off number o) off ks stands at parts (λ q. refl)
      (ap (λ (acts : List objects.Activation). record (object_as id o) { activations = acts }) (all_off number o.activations))
      (ap (λ (rows : List (ℕ × ℕ)). record { own = tt; activations = rows }) (same_rows number o.activations)) in
      follows_changes x y ks stands parts 0 gives (λ keys. Ok (tt, with_now id new (switched_off number o) keys x)) (alters_object id off) none_is_short
      (altered id off ks y, (then_stands, (record { first = refl; bones = refl; deferred = refl; text = refl; run = refl }, refl)))

  by_found : (o : Object) → IsIn y.now id o → IsTurned number o.activations (first_on number o.activations) ⊎ IsUnturned number o.activations (first_on number o.activations)
      → Follows y gives (rest o) (off_found (first_on number o.activations))
  by_found o at (inl found) =
      subst (λ b. Follows y gives (cond b (switch_off new id number o x) (Ok (tt, x))) (off_found (first_on number o.activations))) (sym found.any)
      (as_well y gives (switch_off new id number o x) (off_found (first_on number o.activations)) (off_at number) (ap off_found found.is ∙ ap off_at found.number) (goes_off o at))
  by_found o at (inr none) =
      subst (λ b. Follows y gives (cond b (switch_off new id number o x) (Ok (tt, x))) (off_found (first_on number o.activations))) (sym none.none)
      (y, (stands, (record { first = refl; bones = refl; deferred = refl; text = refl; run = refl }, ap off_found none.is)))

  next : (t : Tracked) → object_of new id x ≡ Some t → IsIn y.now id t.current → t.current.live ≡ true → Follows y gives (rest t.current) (switches_off_numbered (numbers tables) r (value.Int (pos number)) y)
  unfolding switches_off_numbered
  next t is at live =
      as_well y gives (rest t.current) (switches_off_numbered (numbers tables) r (value.Int (pos number)) y) (off_found (first_on number t.current.activations))
      (finds_object y id (object_as id t.current) off_in (live_at y id t.current at true live)
      ∙ ap off_found (find-map (is_on number) (statements.is_on (value.Int (pos number))) active_as (same_on number) t.current.activations))
      (by_found t.current at (on_or_off number t.current.activations))

  pub went_off : Follows y gives (deactivate_with new id number x) (on_live id (switches_off_numbered (numbers tables) r (value.Int (pos number))) y)
  unfolding deactivate_with
  went_off = follows_live y id gives (switches_off_numbered (numbers tables) r (value.Int (pos number))) rest (object_of new id x) (has_found x y id new stands fresh) next
