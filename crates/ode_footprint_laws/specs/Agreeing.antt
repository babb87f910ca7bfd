-- When two transactions agree on what one of them looks at, draws and queues, and how they end then.
use Rattle.std.specs.Prelude.{◌≡◌, ℕ, List, length, true, nat_eq}
use Rattle.std.specs.List.{list_any}
use Rattle.ode_value.specs.Acts.{Outcome, Done, Aborted, reached}
use Rattle.ode_value.specs.Denoting.{object_numbered}
use Rattle.ode_value.specs.Footprints.{Footprint}
use Rattle.ode_value.specs.Language.{ListTx, ListWorld}
use Rattle.ode_value.specs.Objects.{Histories, Starts}
use Rattle.ode_value.specs.Posting.{waiting}
use Rattle.ode_value.specs.Transactions.{Origin}
use Rattle.ode_value.specs.Worlds.{kept_at}

-- a number is among these
abbrev pub IsAmong : ℕ → List ℕ → Type 0
IsAmong id ids = list_any (nat_eq id) ids ≡ true

-- two worlds have the same object of a number, or none, with the same past
pub record IsSameAt (v w : ListWorld) (id : ℕ) : Type 0 where
  pub object : object_numbered id v.bones.objects ≡ object_numbered id w.bones.objects
  pub past : kept_at id v.pasts ≡ kept_at id w.pasts

-- two worlds have the same classes, the same objects of the numbers that were looked at, and the same next number where one was drawn
pub record AgreeOn (f : Footprint) (v w : ListWorld) : Type 0 where
  pub classes : v.bones.classes ≡ w.bones.classes
  pub added : v.bones.added ≡ w.bones.added
  pub objects : (id : ℕ) → IsAmong id f.looked → IsSameAt v w id
  pub next : f.drew ≡ true → v.bones.next ≡ w.bones.next

-- and as many entries that wait, and the same next number of one, where a firing was collected or dropped
pub record AgreeAtFirst (f : Footprint) (origin : Origin) (v w : ListWorld) : Type 0 where
  pub worlds : AgreeOn f v w
  pub waiting : f.queued ≡ true → length (waiting origin v.bones.queue) ≡ length (waiting origin w.bones.queue)
  pub next_entry : f.queued ≡ true → v.bones.next_entry ≡ w.bones.next_entry

-- two transactions agree in all parts but their worlds, and their worlds agree on this footprint
pub record Agree (f : Footprint) (y x : ListTx) : Type 0 where
  pub first : AgreeAtFirst f x.origin y.first x.first
  pub now : AgreeOn f y.now x.now
  pub origin : y.origin ≡ x.origin
  pub touched : y.touched ≡ x.touched
  pub deferred : y.deferred ≡ x.deferred
  pub collected : y.collected ≡ x.collected
  pub gathered : y.gathered ≡ x.gathered
  pub text : y.text ≡ x.text
  pub run : y.run ≡ x.run
  pub keys : y.keys ≡ x.keys
  pub footprint : y.footprint ≡ x.footprint

-- both outcomes are done with one answer or aborted with one reason, and the transactions reached agree
abbrev pub EndAgreeing : {R : Type 0} → Footprint → Outcome Histories Starts R → Outcome Histories Starts R → Type 0
EndAgreeing f (Done r y) (Done s x) = (r ≡ s) × Agree f y x
EndAgreeing f (Aborted r y) (Aborted s x) = (r ≡ s) × Agree f y x
EndAgreeing f (Done r y) (Aborted s x) = ⊥
EndAgreeing f (Aborted r y) (Done s x) = ⊥

-- the footprint that an outcome reached
abbrev pub reached_footprint : {R : Type 0} → Outcome Histories Starts R → Footprint
reached_footprint o = (reached o).footprint
