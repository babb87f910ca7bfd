-- When a transaction over state numbers runs as one over lists of points.
use Rattle.std.specs.Prelude.{◌≡◌, ◌≤◌, ℕ, ◌==◌, Some}
use Rattle.std.specs.List.{AllByRecursion, AllZip, find}
use Rattle.ode_value.specs.Acts.{Outcome, Done, Aborted, Act}
use Rattle.ode_value.specs.Classes.{Trigger, own_triggers}
use Rattle.ode_value.specs.Denoting.{object_numbered}
use Rattle.ode_value.specs.Language.{ListWorld, ListTx}
use Rattle.ode_value.specs.Objects.{Activation, Histories, Starts}
use Rattle.ode_value.specs.Pasts.{Kept}
use Rattle.ode_value.specs.Settling.{Settled}
use Rattle.ode_value.specs.Tables.{Table}
use Rattle.ode_value.specs.Transactions.{Tx}
use Rattle.ode_value.specs.Worlds.{Declared, Object, World, kept_at}
use Rattle.ode_codec.specs.Standing.{StandsAs}
use Rattle.ode_laws.specs.Numbered.{AreNumbered}

-- a world over state numbers
abbrev pub NumberWorld : Type 0
NumberWorld = World (Unit {0}) ℕ

-- a transaction over them
abbrev pub NumberTx : Type 0
NumberTx = Tx (Unit {0}) ℕ

-- a world over numbers stands for one over lists, whose numbers tell its parts apart
pub record IsAlike (tables : ℕ → ℕ → Table) (v : NumberWorld) (w : ListWorld) : Type 0 where
  pub stands : StandsAs tables v w
  pub numbered : AreNumbered w.bones

-- an activation stays, on or off, and its views begin where they did
pub record StaysActive (o : Object) (kept : Kept Histories Starts) (a : Activation) (row : ℕ × Starts) : Type 0 where
  pub now : Activation
  pub found : find (λ (b : Activation). b.number == a.number) o.activations ≡ Some now
  pub same : record now { on = a.on } ≡ a
  pub start : kept_at a.number kept.activations ≡ Some row.1

-- an object of the first world stays, live or not, with its activations
pub record StaysIn (w : ListWorld) (o : Object) (row : ℕ × Kept Histories Starts) : Type 0 where
  pub object : Object
  pub found : object_numbered o.id w.bones.objects ≡ Some object
  pub past : Kept Histories Starts
  pub kept : kept_at o.id w.pasts ≡ Some past
  pub activations : AllZip (StaysActive object past) o.activations row.1.activations

-- Its worlds stand for the other's, and all else is the same. What the first world has is still there, so that an abort finds it.
pub record RunsAs (tables : ℕ → ℕ → Table) (y : NumberTx) (x : ListTx) : Type 0 where
  pub first : IsAlike tables y.first x.first
  pub now : IsAlike tables y.now x.now
  pub classes : x.now.bones.classes ≡ x.first.bones.classes
  pub next : x.first.bones.next ≤ x.now.bones.next
  pub stays : AllZip (StaysIn x.now) x.first.bones.objects x.first.pasts
  pub origin : y.origin ≡ x.origin
  pub touched : y.touched ≡ x.touched
  pub deferred : y.deferred ≡ x.deferred
  pub collected : y.collected ≡ x.collected
  pub gathered : y.gathered ≡ x.gathered
  pub text : y.text ≡ x.text
  pub run : y.run ≡ x.run
  pub keys : y.keys ≡ x.keys
  pub footprint : y.footprint ≡ x.footprint

-- both outcomes are done with one answer, or aborted with one reason
abbrev pub EndsAs : {R : Type 0} → (ℕ → ℕ → Table) → Outcome (Unit {0}) ℕ R → Outcome Histories Starts R → Type 0
EndsAs tables (Done r y) (Done s x) = (r ≡ s) × RunsAs tables y x
EndsAs tables (Aborted r y) (Aborted s x) = (r ≡ s) × RunsAs tables y x
EndsAs tables (Done r y) (Aborted s x) = ⊥
EndsAs tables (Aborted r y) (Done s x) = ⊥

-- two acts, each time run alike
abbrev pub RunAlike : {R : Type 0} → (ℕ → ℕ → Table) → Act (Unit {0}) ℕ R → Act Histories Starts R → Type 0
RunAlike tables a b = (y : NumberTx) (x : ListTx) → RunsAs tables y x → EndsAs tables (a y) (b x)

-- a settled transaction over numbers leaves a world that stands for the other's, and prints the same
pub record SettledAs (tables : ℕ → ℕ → Table) (s : Settled (Unit {0}) ℕ) (t : Settled Histories Starts) : Type 0 where
  pub world : IsAlike tables s.0 t.0
  pub text : s.1 ≡ t.1

-- other tables are the same for the triggers that a class declares
abbrev pub AgreesOn : (tables other : ℕ → ℕ → Table) → Declared → Type 0
AgreesOn tables other d = AllByRecursion (λ (t : Trigger). other t.class t.place ≡ tables t.class t.place) (own_triggers d.class)
