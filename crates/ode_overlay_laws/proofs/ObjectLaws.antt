-- Objects are touched, and removed, in the overlay and in the machine.
use Rattle.std.proofs.Common.{◌≡◌, ℕ, List, [], ◌∷◌, ◌++◌, true, false, map, Option, Some, Ok, refl, ap, ◌∙◌}
use Rattle.std.specs.Prelude.{nat_le}
use Rattle.ode_laws.specs.Alike.{NumberTx}
use Rattle.ode_overlay.specs.Answers.{Answer, ◌>>=◌}
use Rattle.ode_overlay.specs.Changing.{object_of, remove_with, with_now}
use Rattle.ode_overlay.specs.Layers.{Layer, holding}
use Rattle.ode_overlay.specs.Objects.{Active, Object, Tracked, Version, activation_keys, dead, object_keys, version_keys}
use Rattle.ode_overlay_laws.proofs.AlteredLaws.{altered, altered_stands, has_found}
use Rattle.ode_overlay_laws.proofs.FollowingLaws.{as_well, finds_object, follows_changes, follows_live, live_at}
use Rattle.ode_overlay_laws.proofs.KeySets.{object_parts}
use Rattle.ode_overlay_laws.specs.Following.{Follows, on_live}
use Rattle.ode_overlay_laws.specs.Standing.{IsFresh, IsIn, Stands, active_as, object_as, version_as}
use Rattle.ode_value.specs.Acts.{Act, Outcome, ◌>>◌, gives, go_on}
use Rattle.ode_value.specs.Changes as machine
use Rattle.ode_value.specs.Changes.{alters_object, changes, draws_none}
use Rattle.ode_value.specs.Keys.{activation_key, object_key, version_key}
use Rattle.ode_value.specs.Limits.{value_limit}
use Rattle.ode_value.specs.Making.{removes}
use Rattle.ode_value.specs.Worlds as worlds
use Rattle.ode_value.specs.declared.key.Key.{Key}

same_versions : (id : ℕ) (vs : List Version) → map (λ v. version_key id v.number) (map version_as vs) ≡ version_keys id vs
same_versions id [] = refl
same_versions id (v ∷ vs) = ap (λ (ks : List Key). version_key id v.number ∷ ks) (same_versions id vs)

pub same_activations : (id : ℕ) (activations : List Active) → map (λ a. activation_key id a.number) (map active_as activations) ≡ activation_keys id activations
same_activations id [] = refl
same_activations id (a ∷ more) = ap (λ (ks : List Key). activation_key id a.number ∷ ks) (same_activations id more)

pub same_keys : (id : ℕ) (o : Object) → object_key id ∷ machine.version_keys (object_as id o) ++ machine.activation_keys (object_as id o) ≡ object_keys id o
same_keys id o =
    ap (λ (ks : List Key). object_key id ∷ (ks ++ machine.activation_keys (object_as id o))) (same_versions id o.versions)
    ∙ ap (λ (ks : List Key). object_key id ∷ (version_keys id o.versions ++ ks)) (same_activations id o.activations)

pub none_is_short : nat_le 0 value_limit ≡ true
unfolding value_limit
none_is_short = refl

module _ (x : Layer) (y : NumberTx) (id : ℕ) (new : Option Tracked) (stands : Stands x y) (fresh : IsFresh x y id new) where
  abbrev die : worlds.Object → worlds.Object
  die q = record q { live = false }

  abbrev rest : Object → Answer (Unit {0} × Layer)
  rest o = holding (object_keys id o) x >>= λ keys. Ok (tt, with_now id new (dead o) keys x)

  abbrev acts_by : List Key → Outcome (Unit {0}) ℕ (Unit {0})
  acts_by ks = go_on (changes ks 0 draws_none y) (λ _. alters_object id die)

  abbrev acts_on : worlds.Object → Act (Unit {0}) ℕ (Unit {0})
  acts_on q = changes (object_key id ∷ machine.version_keys q ++ machine.activation_keys q) 0 draws_none >> alters_object id die

  next : (t : Tracked) → object_of new id x ≡ Some t → IsIn y.now id t.current → t.current.live ≡ true → Follows y gives (rest t.current) (removes id y)
  next t is at live =
      let o = t.current in
      let machines : removes id y ≡ acts_by (object_keys id o) = finds_object y id (object_as id o) acts_on (live_at y id o at true live) ∙ ap acts_by (same_keys id o) in
      as_well y gives (rest o) (removes id y) (acts_by (object_keys id o)) machines
      (follows_changes x y (object_keys id o) stands (object_parts id o) 0 gives (λ keys. Ok (tt, with_now id new (dead o) keys x)) (alters_object id die) none_is_short
      (altered id die (object_keys id o) y, (altered_stands x y id new o (dead o) die (object_keys id o) stands at (object_parts id o) (λ q. refl) refl refl, (record { first = refl; bones = refl; deferred = refl; text = refl; run = refl }, refl))))

  pub removed : Follows y gives (remove_with new id x) (on_live id (removes id) y)
  unfolding remove_with
  removed = follows_live y id gives (removes id) rest (object_of new id x) (has_found x y id new stands fresh) next
