-- The keys of activations that an overlay holds for the objects that it touched.
use Rattle.std.specs.Prelude.{◌≡◌, ℕ, List, ◌++◌, map, true, Some, None}
use Rattle.std.specs.List.{AllByRecursion}
use Rattle.ode_laws.specs.Alike.{NumberWorld}
use Rattle.ode_objects.specs.Objects.{activation_keys}
use Rattle.ode_objects.specs.declared.object.Active.{Active}
use Rattle.ode_objects.specs.declared.object.Object.{Object}
use Rattle.ode_objects.specs.declared.tracked.First.TheVariants.{Other}
use Rattle.ode_objects.specs.declared.tracked.Tracked.{Tracked}
use Rattle.ode_overlay.specs.Answers.{Answer}
use Rattle.ode_overlay.specs.Layers.{Layer, is_touched, tracked_at}
use Rattle.ode_overlay_laws.specs.Standing.{object_as}
use Rattle.ode_point_laws.specs.Points.{HoldsActivations}
use Rattle.ode_value.specs.Changes.{with_key}
use Rattle.ode_value.specs.Worlds as worlds
use Rattle.ode_value.specs.declared.key.Key.{Key}
use Rattle.ode_version_laws.specs.Leaving.{IfDone}
use Rattle.ode_version_laws.specs.Remembering.{IsOutside}

-- a key stands in its place
abbrev pub IsHeld : List Key → Key → Type 0
IsHeld ks k = with_key ks k ≡ ks

-- those of all these activations do
abbrev pub AreHeld : ℕ → List Key → List Active → Type 0
AreHeld id ks acts = AllByRecursion (IsHeld ks) (activation_keys id acts)

abbrev pub numbers_of : List Active → List ℕ
numbers_of acts = map (λ (a : Active). a.number) acts

-- an object still has the activations that it had, by their numbers, and these more behind them
pub record Grows (was now : Object) : Type 0 where
  pub more : List ℕ
  pub is : numbers_of now.activations ≡ numbers_of was.activations ++ more

-- The keys of all activations of a touched object are held; one that isn't tracked wasn't there in the first world. An object still has the
-- activations that it had at first.
pub record HoldsKeys (first : NumberWorld) (x : Layer) : Type 0 where
  pub now : (id : ℕ) → is_touched id x ≡ true → (t : Tracked) → tracked_at id x ≡ Some t → AreHeld id x.keys t.current.activations
  pub grown : (id : ℕ) (t : Tracked) → tracked_at id x ≡ Some t → (o : Object) → t.first ≡ Other o → Grows o t.current
  pub gone : (id : ℕ) → is_touched id x ≡ true → tracked_at id x ≡ None → IsOutside first id

-- so does the layer that a call leaves, where it is done
abbrev pub StillHoldsKeys : {R : Type 0} → NumberWorld → Answer (R × Layer) → Type 0
StillHoldsKeys first answer = IfDone (HoldsKeys first) answer

-- an object of the world now is tracked, and a point finds the keys of all its activations held
pub record IsAtHand (x : Layer) (id : ℕ) (o : worlds.Object) : Type 0 where
  pub tracked : Tracked
  pub found : tracked_at id x ≡ Some tracked
  pub same : object_as id tracked.current ≡ o
  pub keys : HoldsActivations id tracked.current x
