-- Behind a transaction that settled the other sessions go on, each with all its statements done.
use Rattle.std.proofs.Common.{◌+◌, ◌≤◌, List, [], ◌∷◌, map, length, sym, subst}
use Rattle.std.specs.List.{AllByRecursion}
use Rattle.ode_footprint_laws.specs.Agreeing.{AgreeAtFirst}
use Rattle.ode_good_laws.specs.Well.{IsWell}
use Rattle.ode_interleaved_laws.proofs.Again.{open_again}
use Rattle.ode_interleaved_laws.proofs.ComingLaws.{drained_well}
use Rattle.ode_interleaved_laws.proofs.OpenLaws.{number_of}
use Rattle.ode_interleaved_laws.proofs.SettledLaws.{HasEnded, settled_agrees, transaction_next}
use Rattle.ode_interleaved_laws.specs.Meeting.{AreAllApart, AreApart, AreLeft, IsInterleaved, IsOpenOver}
use Rattle.ode_language.specs.Languages.{ode}
use Rattle.ode_laws.proofs.GoodNumbers.{good_numbered}
use Rattle.ode_laws.specs.Numbered.{AreNumbered}
use Rattle.ode_machine.specs.Interleaving.{Open, behind}
use Rattle.ode_value.specs.Acts.{Outcome}
use Rattle.ode_value.specs.Draining.{world_after}
use Rattle.ode_value.specs.Footprints.{Footprint}
use Rattle.ode_value.specs.GoodWorlds.{RiseFrom}
use Rattle.ode_value.specs.Language.{ListWorld}
use Rattle.ode_value.specs.Limits.{number_limit}
use Rattle.ode_value.specs.Objects.{Histories, Starts}
use Rattle.ode_value.specs.Pasts.{lists}
use Rattle.ode_value.specs.Settling.{ended, settle}
use Rattle.ode_value.specs.Transactions.{Script}

all_again : (w v : ListWorld) → AreNumbered w.bones → AreNumbered v.bones → (f : Footprint) → ((held : Footprint) → AreApart f held → AgreeAtFirst held Script v w) → (os : List Open)
    → AllByRecursion (λ (o : Open). AreApart f o.held) os → AllByRecursion (IsOpenOver ode w) os → AllByRecursion (IsOpenOver ode v) os
all_again w v numbered_w numbered_v f agree [] apart open_w = tt
all_again w v numbered_w numbered_v f agree (o ∷ os) apart open_w = (
  open_again ode w v o numbered_w numbered_v (agree o.held apart.0) open_w.0,
  all_again w v numbered_w numbered_v f agree os apart.1 open_w.1,
)

-- no session is open
pub none_open : (w : ListWorld) → IsWell ode w → IsInterleaved ode (record { world = w; sessions = [] })
none_open w well = record { well = well; numbers = tt; rising = tt; sessions = tt; apart = tt }

-- behind a transaction from a world that left a well one, where these others are open and stay apart from it
pub others_go_on : (w : ListWorld) → IsWell ode w → (p : Outcome Histories Starts (Unit {0})) → HasEnded w p → IsWell ode (settle lists p).0 → (os : List Open)
    → AllByRecursion (λ (o : Open). AreApart (ended lists p).footprint o.held) os → AllByRecursion (IsOpenOver ode w) os → RiseFrom 0 (map number_of os) → AreAllApart os → AreLeft (w.bones.transaction + 1) os
    → IsInterleaved ode (record { world = world_after w (behind os (settle lists p)); sessions = os })
others_go_on w well p has settled [] apart open_w rising all left = none_open (world_after w (behind [] (settle lists p))) (drained_well (settle lists p).0 settled)
others_go_on w well p has settled (o ∷ os) apart open_w rising all left = record {
  well = settled;
  numbers = subst (λ t. t + length (o ∷ os) ≤ number_limit) (sym (transaction_next w p has)) left;
  rising = rising;
  sessions =
      all_again w (settle lists p).0 (good_numbered ode w well.good) (good_numbered ode (settle lists p).0 settled.good) (ended lists p).footprint (settled_agrees w p has) (o ∷ os) apart open_w;
  apart = all;
}
