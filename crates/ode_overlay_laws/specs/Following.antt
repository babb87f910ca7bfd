-- When a call of the overlay does what an act of the machine does.
use Rattle.std.specs.Prelude.{◌≡◌, ℕ, [], ◌∷◌, Bool, true, false, cond, Option, Some, None, Ok, Err}
use Rattle.ode_codec.specs.declared.record.Entry.{Entry}
use Rattle.ode_laws.specs.Alike.{NumberTx}
use Rattle.ode_overlay.specs.Answers.{Answer}
use Rattle.ode_overlay.specs.Layers.{Layer, is_touched as is_touched_yet}
use Rattle.ode_overlay.specs.declared.error.OverlayError.{OverlayError}
use Rattle.ode_overlay.specs.declared.error.OverlayError.TheVariants as error
use Rattle.ode_overlay_laws.specs.Standing.{Stands}
use Rattle.ode_value.specs.Acts.{Act, Outcome, Done, Aborted, ◌>>=◌, ◌>>◌, gives, prints, reads, looks}
use Rattle.ode_value.specs.Changes.{there}
use Rattle.ode_value.specs.Denoting.{object_numbered}
use Rattle.ode_value.specs.Posting.{is_touched, joins}
use Rattle.ode_value.specs.Worlds.{kept_at}
use Rattle.ode_value.specs.Texts.{new_line}
use Rattle.ode_value.specs.Transactions.{Firing, drawing, queueing}
use Rattle.ode_value.specs.declared.reason.Reason.{Reason}
use Rattle.ode_value.specs.declared.reason.Reason.TheVariants as reason

-- the reason for which the machine aborts where the overlay refuses
abbrev pub reason_as : OverlayError → Option Reason
reason_as (error.NoObject id) = Some (reason.NoObject id)
reason_as (error.NoVersion r) = Some (reason.NoVersion r)
reason_as (error.LastVersion id) = Some (reason.LastVersion id)
reason_as error.TooManyChanges = Some reason.Size
reason_as error.TooLong = Some reason.Size
reason_as error.NoNumber = Some reason.Space
reason_as error.Memory = None
reason_as error.DiskFault = None
reason_as (error.Damaged key) = None

-- what an act leaves as it was: the first world, of the world now all but its objects, their pasts and the next number, the deferred
-- firings, the text and how many statements ran
pub record Continues (y z : NumberTx) : Type 0 where
  pub first : z.first ≡ y.first
  pub bones : record z.now.bones { objects = y.now.bones.objects; next = y.now.bones.next } ≡ y.now.bones
  pub deferred : z.deferred ≡ y.deferred
  pub text : z.text ≡ y.text
  pub run : z.run ≡ y.run

-- where the call is done, the act goes on as the next one from a transaction for which the overlay then stands, and which continues the
-- one before; where it is refused, the act aborts with the reason, and nothing changed
abbrev pub Follows : {R S : Type 0} → NumberTx → (R → Act (Unit {0}) ℕ S) → Answer (R × Layer) → Outcome (Unit {0}) ℕ S → Type 0
Follows y next (Ok done) outcome = (z : NumberTx) × (Stands done.1 z × (Continues y z × (outcome ≡ next done.0 z)))
Follows y next (Err why) outcome = (r : Reason) × ((reason_as why ≡ Some r) × (outcome ≡ Aborted r y))

-- what a call that draws a number leaves at an error: it found none left, or nothing changed
abbrev pub drawn_by : OverlayError → NumberTx → NumberTx
drawn_by error.NoNumber y = drawing true y
drawn_by why y = y

-- the same of such a call
abbrev pub FollowsDrawing : {R S : Type 0} → NumberTx → (R → Act (Unit {0}) ℕ S) → Answer (R × Layer) → Outcome (Unit {0}) ℕ S → Type 0
FollowsDrawing y next (Ok done) outcome = (z : NumberTx) × (Stands done.1 z × (Continues y z × (outcome ≡ next done.0 z)))
FollowsDrawing y next (Err why) outcome = (r : Reason) × ((reason_as why ≡ Some r) × (outcome ≡ Aborted r (drawn_by why y)))

-- an act on an object that is there
abbrev pub on_live : {R : Type 0} → ℕ → Act (Unit {0}) ℕ R → Act (Unit {0}) ℕ R
on_live id act = there id >> act

-- a firing's entry
abbrev pub entry_by : ℕ → Firing → Entry
entry_by generation f = record { object = f.object; class = f.trigger.class; trigger = f.trigger.place; generation = generation; args = f.args }

-- where it is collected, so it is in the machine; where it isn't, the machine drops it
abbrev pub Collects : Bool → Layer → NumberTx → Outcome (Unit {0}) ℕ (Unit {0}) → Outcome (Unit {0}) ℕ (Unit {0}) → Type 0
Collects true x y dropped outcome = (z : NumberTx) × (Stands x z × (Continues y z × (outcome ≡ Done tt z)))
Collects false x y dropped outcome = Stands x (queueing y) × (outcome ≡ dropped)

-- the first touch of an object, before its point is posted: whether it is the first
abbrev pub joins_first : ℕ → Act (Unit {0}) ℕ Bool
joins_first id = do
  touched ← reads (is_touched id)
  cond touched (gives false) (joins id >> gives true)

-- a number that no object has yet
pub record IsNewNumber (x : Layer) (y : NumberTx) (id : ℕ) : Type 0 where
  pub object : object_numbered id y.now.bones.objects ≡ None
  pub kept : kept_at id y.now.pasts ≡ None
  pub touched : is_touched_yet id x ≡ false

-- a look at a new object, its line, and its number
abbrev pub tells_new : ℕ → Act (Unit {0}) ℕ ℕ
tells_new n = looks (n ∷ []) >> (prints (new_line n) >> gives n)
