-- What a call of the overlay does to the view of it, beside an act of the machine.
use Rattle.std.specs.Prelude.{◌≡◌, ◌<◌, ℕ, Bool, true, false, Some, Ok, Err}
use Rattle.std.specs.List.{AllByRecursion}
use Rattle.ode_laws.specs.Alike.{NumberTx, NumberWorld}
use Rattle.ode_overlay.specs.Answers.{Answer}
use Rattle.ode_overlay.specs.Layers.{Layer}
use Rattle.ode_overlay_laws.specs.Following.{reason_as}
use Rattle.ode_value.specs.Acts.{Act, Outcome, Done, Aborted}
use Rattle.ode_value.specs.declared.reason.Reason.{Reason}
use Rattle.ode_view_laws.specs.Ordering.{IsOrdered}
use Rattle.ode_view_laws.specs.Viewing.{IsOver, world_now}
use Rattle.ode_overlay.specs.Changing.{left_by}
use Rattle.ode_value.specs.Transactions.{queueing}

-- an overlay over this world: the numbers of both worlds' objects rise, and those of touched objects were drawn
pub record IsViewed (first : NumberWorld) (x : Layer) : Type 0 where
  pub over : IsOver first x
  pub began : IsOrdered first
  pub now : IsOrdered (world_now first.bones.classes first x)
  pub touched : AllByRecursion (λ id. id < x.next) x.touched

-- where the call is done, the act goes on as the next one from the view of the overlay then; where it is refused, the act aborts with
-- the reason, and nothing changed
abbrev pub Shows : {R S : Type 0} → (Layer → NumberTx) → (R → Act (Unit {0}) ℕ S) → Layer → Answer (R × Layer) → Outcome (Unit {0}) ℕ S → Type 0
Shows view next x (Ok done) outcome = outcome ≡ next done.0 (view done.1)
Shows view next x (Err why) outcome = (r : Reason) × ((reason_as why ≡ Some r) × (outcome ≡ Aborted r (view x)))

-- the same of a call that draws a number: where none was left, that is marked
abbrev pub ShowsDrawing : {R S : Type 0} → (Layer → NumberTx) → (R → Act (Unit {0}) ℕ S) → Layer → Answer (R × Layer) → Outcome (Unit {0}) ℕ S → Type 0
ShowsDrawing view next x (Ok done) outcome = outcome ≡ next done.0 (view done.1)
ShowsDrawing view next x (Err why) outcome = (r : Reason) × ((reason_as why ≡ Some r) × (outcome ≡ Aborted r (view (left_by why x))))

-- and what is known of the overlay goes on
abbrev pub StaysViewed : {R : Type 0} → NumberWorld → Answer (R × Layer) → Type 0
StaysViewed first (Ok done) = IsViewed first done.1
StaysViewed first (Err why) = Unit {0}

-- a firing is collected, and the act is done with the view then; or it isn't, and the machine drops it
abbrev pub ShowsCollected : Bool → (Layer → NumberTx) → Layer → NumberTx → Outcome (Unit {0}) ℕ (Unit {0}) → Outcome (Unit {0}) ℕ (Unit {0}) → Type 0
ShowsCollected true view x y dropped outcome = outcome ≡ Done tt (view x)
ShowsCollected false view x y dropped outcome = (view x ≡ queueing y) × (outcome ≡ dropped)
