-- Worlds and transactions of which all fits.
use Rattle.std.specs.Prelude.{◌≡◌, ◌<◌, ℕ, List, true}
use Rattle.std.specs.List.{AllByRecursion}
use Rattle.ode_value.specs.Acts.{Outcome, Done, Aborted}
use Rattle.ode_value.specs.Objects.{Activation}
use Rattle.ode_value.specs.Transactions.{Tx, Collected}
use Rattle.ode_value.specs.Versions.{Version}
use Rattle.ode_value.specs.Worlds.{Entry, Object, Bones}
use Rattle.ode_sound_laws.specs.Fits.{AreFit, FitsEntry, FitsFiring}
use Rattle.ode_sound_laws.specs.Growing.{Grows}
use Rattle.ode_sound_laws.specs.Sound.{AreSound}

-- an object that wasn't removed, with its activations on
pub record IsWhole (o : Object) : Type 0 where
  pub live : o.live ≡ true
  pub on : AllByRecursion (λ (a : Activation). a.on ≡ true) o.activations

-- the entries of a queue fit
abbrev pub FitQueue : Bones → List (ℕ × Entry) → Type 0
FitQueue b queue = AllByRecursion (λ (q : ℕ × Entry). FitsEntry b q.1) queue

-- between transactions: sound classes, objects that fit and are whole, and entries that fit
pub record IsTypedWorld (b : Bones) : Type 0 where
  pub sound : AreSound b.classes
  pub fit : AreFit b
  pub whole : AllByRecursion IsWhole b.objects
  pub queue : FitQueue b b.queue

-- the numbers of versions begin at 1
abbrev pub AreFromOne : Bones → Type 0
AreFromOne b = AllByRecursion (λ (o : Object). AllByRecursion (λ (v : Version). 0 < v.number) o.versions) b.objects

-- a transaction, from a first world of which all fits to a world now that grew from it
pub record IsTyped {O A : Type 0} (x : Tx O A) : Type 0 where
  pub sound : AreSound x.now.bones.classes
  pub grows : Grows x.first.bones x.now.bones
  pub first : AreFit x.first.bones
  pub waiting : FitQueue x.first.bones x.first.bones.queue
  pub now : AreFit x.now.bones
  pub deferred : AllByRecursion (FitsFiring x.now.bones) x.deferred
  pub collected : AllByRecursion (λ (c : Collected). FitsEntry x.now.bones c.entry) x.collected

-- what an act reached, done or aborted
abbrev pub StaysTyped : {O A R : Type 0} → Outcome O A R → Type 0
StaysTyped (Done answer x) = IsTyped x
StaysTyped (Aborted reason x) = IsTyped x
