-- The world with which a transaction over lists began stays.
use Rattle.std.proofs.Common.{◌≡◌, ℕ, List, refl}
use Rattle.ode_laws.proofs.Alone.{Alone, Ended, Keeps, alone, ended}
use Rattle.ode_laws.proofs.SideCompleting.{completes_alike, first_runs_alike}
use Rattle.ode_laws.proofs.SidePosting.{posts_alike, touches_alike}
use Rattle.ode_laws.proofs.SideStatements.{commands_alike, first_alike}
use Rattle.ode_laws.proofs.Sides.{EndsBy, Sides}
use Rattle.ode_value.specs.Acts.{Outcome}
use Rattle.ode_value.specs.Completing.{completes}
use Rattle.ode_value.specs.Executing.{commands, first_actions}
use Rattle.ode_value.specs.Language.{ListTx}
use Rattle.ode_value.specs.Objects.{Histories, Starts}
use Rattle.ode_value.specs.Pasts.{lists}
use Rattle.ode_value.specs.Posting.{posts, runs, touches}
use Rattle.ode_value.specs.Transactions.{Firing}
use Rattle.ode_value.specs.declared.event.Kind.{Kind}
use Rattle.ode_value.specs.declared.statement.Stmt.{Stmt}
use Rattle.ode_value.specs.declared.value.Value.{Value}

-- an act leaves a transaction that began with the same world
abbrev pub StaysFirst : {X : Type 0} → ListTx → Outcome Histories Starts X → Type 0
StaysFirst x outcome = Ended (λ (z : ListTx). z.first ≡ x.first) (λ (z : ListTx). z.first ≡ x.first) outcome

module _ (x : ListTx) where
  abbrev Began : ℕ → ListTx → Type 0
  Began n z = z.first ≡ x.first

  began_keeps : Keeps lists Began
  began_keeps = record {
    less = λ n z h. h;
    statement = λ n z h more. h;
    foot = λ n z change h. h;
    line = λ n z line h fits. h;
    keys = λ n z keys h fits. h;
    touch = λ n z id h. h;
    defer = λ n z f h room. h;
    collect = λ n z independent f h room. h;
    set = λ n z r v place value h is small. h;
    derive = λ n z r v o h is there more small. h;
    drop = λ n z r v o h is there more. h;
    remove = λ n z id h. h;
    off = λ n z id number h. h;
    new = λ n z class fields h left small. h;
    active = λ n z id t args h left short. h;
    point = λ n z id p o firings h there. h;
  }

  abbrev itself : Sides Histories Starts Histories Starts
  itself = alone lists Began began_keeps x.now.bones.classes

  abbrev Still : ListTx → ListTx → Type 0
  Still = Alone lists Began began_keeps x.now.bones.classes 0

  still : {X : Type 0} (outcome : Outcome Histories Starts X) → EndsBy Still Still outcome outcome → StaysFirst x outcome
  still outcome h = ended (λ (z : ListTx). z.first ≡ x.first) (λ (z : ListTx). z.first ≡ x.first) Still Still (λ y z s. s.2) (λ y z s. s.2) outcome h

  pub statement_stays : (s : Stmt) → StaysFirst x (commands lists s x)
  statement_stays s = still (commands lists s x) (commands_alike itself 0 s x x (refl, refl, refl))

  pub touch_stays : (id : ℕ) → StaysFirst x (touches lists (first_actions lists) id x)
  touch_stays id = still (touches lists (first_actions lists) id x) (touches_alike itself 0 (first_actions lists) (first_actions lists) (first_alike itself) id x x (refl, refl, refl))

  pub point_stays : (id : ℕ) (kind : Kind) (args : List Value) → StaysFirst x (posts lists (first_actions lists) id kind args x)
  point_stays id kind args = still (posts lists (first_actions lists) id kind args x) (posts_alike itself 0 (first_actions lists) (first_actions lists) (first_alike itself) id kind args x x (refl, refl, refl))

  pub firing_stays : (f : Firing) → StaysFirst x (runs (first_actions lists) f x)
  firing_stays f = still (runs (first_actions lists) f x) (first_runs_alike itself 0 f x x (refl, refl, refl))

  pub completion_stays : StaysFirst x (completes lists x)
  completion_stays = still (completes lists x) (completes_alike itself 0 x x (refl, refl, refl))
