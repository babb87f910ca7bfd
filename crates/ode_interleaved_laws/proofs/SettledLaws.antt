-- The world that a transaction settles agrees with the one that it began on, on all that another session holds.
use Rattle.std.proofs.Common.{◌≡◌, ◌+◌, ℕ, Bool, true, false, List, [], ◌++◌, map, length, refl, ap, ◌∙◌, arith}
use Rattle.std.proofs.lemmas.List.{append-nil}
use Rattle.std.specs.List.{enumerate_from}
use Rattle.ode_footprint_laws.specs.Agreeing.{AgreeAtFirst}
use Rattle.ode_footprint_laws.specs.Staying.{StaysBut}
use Rattle.ode_interleaved_laws.specs.Meeting.{AreApart}
use Rattle.ode_value.specs.Acts.{Aborted, Done, Outcome}
use Rattle.ode_value.specs.Footprints.{Footprint}
use Rattle.ode_value.specs.Language.{ListTx, ListWorld}
use Rattle.ode_value.specs.Objects.{Histories, Starts}
use Rattle.ode_value.specs.Pasts.{lists}
use Rattle.ode_value.specs.Posting.{waiting}
use Rattle.ode_value.specs.Settling.{ended, entry_in, settle, settled_world}
use Rattle.ode_value.specs.Transactions.{Collected, Origin, Script}

-- A script's transaction from a world, behind its last points, and what it leaves.
pub record HasEnded (w : ListWorld) (p : Outcome Histories Starts (Unit {0})) : Type 0 where
  pub first : (ended lists p).first ≡ w
  pub origin : (ended lists p).origin ≡ Script
  pub collected : (ended lists p).footprint.queued ≡ false → (ended lists p).collected ≡ []
  pub stays : StaysBut (ended lists p).footprint w (settle lists p).0

-- no mark where it would clash
fails : (b : Bool) → (b ≡ true → ⊥) → b ≡ false
fails true none = absurd (none refl)
fails false none = refl

nothing_more : (n : ℕ) (cs : List Collected) → cs ≡ [] → n + length cs ≡ n
nothing_more n cs is = ap (λ (c : List Collected). n + length c) is ∙ none n where
  none : (m : ℕ) → m + 0 ≡ m
  none m = omega arith

settled_by : (p : Outcome Histories Starts (Unit {0})) → (settle lists p).0 ≡ settled_world (ended lists p)
settled_by (Done answer x) = refl
settled_by (Aborted reason x) = refl

module _ (w : ListWorld) (p : Outcome Histories Starts (Unit {0})) (has : HasEnded w p) where
  abbrev last : ListTx
  last = ended lists p

  queue_stays : last.footprint.queued ≡ false → (settle lists p).0.bones.queue ≡ w.bones.queue
  queue_stays none =
      ap (λ (v : ListWorld). v.bones.queue) (settled_by p)
      ∙ ap (λ (o : Origin). waiting o last.first.bones.queue ++ enumerate_from last.first.bones.next_entry (map entry_in last.collected)) has.origin
      ∙ ap (λ (cs : List Collected). last.first.bones.queue ++ enumerate_from last.first.bones.next_entry (map entry_in cs)) (has.collected none)
      ∙ append-nil last.first.bones.queue
      ∙ ap (λ (v : ListWorld). v.bones.queue) has.first

  entry_stays : last.footprint.queued ≡ false → (settle lists p).0.bones.next_entry ≡ w.bones.next_entry
  entry_stays none =
      ap (λ (v : ListWorld). v.bones.next_entry) (settled_by p) ∙ nothing_more last.first.bones.next_entry last.collected (has.collected none)
      ∙ ap (λ (v : ListWorld). v.bones.next_entry) has.first

  pub settled_agrees : (held : Footprint) → AreApart last.footprint held → AgreeAtFirst held Script (settle lists p).0 w
  settled_agrees held apart = record {
    worlds = record {
      classes = has.stays.classes;
      added = has.stays.added;
      objects = λ id among. has.stays.objects id (λ one. apart.objects id one among);
      next = λ drew. has.stays.next (fails last.footprint.drew (λ is. apart.numbers is drew));
    };
    waiting = λ queued. ap length (queue_stays (fails last.footprint.queued (λ is. apart.queue is queued)));
    next_entry = λ queued. entry_stays (fails last.footprint.queued (λ is. apart.queue is queued));
  }

  pub transaction_next : (settle lists p).0.bones.transaction ≡ w.bones.transaction + 1
  transaction_next = ap (λ (v : ListWorld). v.bones.transaction) (settled_by p) ∙ ap (λ (v : ListWorld). v.bones.transaction + 1) has.first
