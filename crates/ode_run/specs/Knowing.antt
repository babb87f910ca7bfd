-- What is known of a transaction's context while it runs.
use Rattle.std.specs.Prelude.{◌≡◌, ◌-◌, ◌≤◌, ℕ, List, map, Bool, true}
use Rattle.ode_host.specs.Causes.{RoseIf}
use Rattle.ode_host.specs.Host.{Looks}
use Rattle.ode_host.specs.View.{View}
use Rattle.ode_interpreter.specs.declared.stop.Stop.{Stop}
use Rattle.ode_interpreter.specs.declared.stop.Stop.TheVariants.{Abort, Damaged, DiskFault, Memory}
use Rattle.ode_keep.specs.Entries.{Entries}
use Rattle.ode_known_laws.specs.Knowing.{IsKnown}
pub use Rattle.ode_known_laws.specs.Knowing.{declared_in}
use Rattle.ode_laws.specs.Alike.{NumberTx, NumberWorld}
use Rattle.ode_overlay.specs.Layers.{Layer}
use Rattle.ode_run.specs.declared.work.Work.{Work}
use Rattle.ode_schema.specs.Parts.{Parts, trigger_of}
use Rattle.ode_states.specs.declared.fired.Fired.{Fired}
use Rattle.ode_value.specs.Limits.{budget_limit}
use Rattle.ode_value.specs.Transactions.{Firing}
use Rattle.ode_value.specs.Weights.{weight}
use Rattle.ode_value.specs.Worlds.{Declared}
use Rattle.ode_value.specs.declared.class.Class.{Class}
use Rattle.ode_view_laws.specs.Viewing.{Beside, running}

-- the names of what the context lends, the host as it began, the records, and the first world
pub record Known (H : Type 0) : Type 0 where
  pub heap : ℕ
  pub overlay : ℕ
  pub deferred : ℕ
  pub text : ℕ
  pub budget : ℕ
  pub host : ℕ
  pub began : H
  pub entries : Entries
  pub first : NumberWorld

-- a deferred firing, as the machine has it
abbrev pub deferred_as : List Class → ℕ × Fired → Firing
deferred_as classes d = record {
  object = d.0;
  activation = d.1.activation;
  trigger = record { class = d.1.class; place = d.1.trigger; decl = trigger_of classes d.1.class d.1.trigger };
  args = d.1.args;
}

-- what stands beside the overlay, where so many statements are left
abbrev pub beside : NumberWorld → List (ℕ × Fired) → List ℕ → ℕ → Beside
beside first deferred text left = record { deferred = map (deferred_as (declared_in first)) deferred; text = text; run = budget_limit - left }

-- the names of what is lent are those that are known
pub record IsLent {H : Type 0} (k : Known H) (heap_name overlay_name deferred_name text_name budget_name host_name : ℕ) : Type 0 where
  pub heap : heap_name ≡ k.heap
  pub overlay : overlay_name ≡ k.overlay
  pub deferred : deferred_name ≡ k.deferred
  pub text : text_name ≡ k.text
  pub budget : budget_name ≡ k.budget
  pub host : host_name ≡ k.host

-- The keeper may be used and holds the records, which show the world that the overlay began with and that has this weight; the disk
-- didn't fail.
pub record Holds {H : Type 0} (seen : H → View) (held : Entries → Type 0) (live : Bool) (now : H) (x : Layer) (left size : ℕ) (k : Known H) : Type 0 where
  pub usable : live ≡ true
  pub records : held k.entries
  pub looks : Looks (seen k.began) (seen now)
  pub faults : (seen now).disk_faults ≡ (seen k.began).disk_faults
  pub known : IsKnown k.entries k.first x
  pub budget : left ≤ budget_limit
  pub bytes : size ≡ weight k.first.bones

-- no record is damaged
abbrev pub IsSound : Stop → Type 0
IsSound (Abort why) = Unit {0}
IsSound Memory = Unit {0}
IsSound DiskFault = Unit {0}
IsSound (Damaged key) = ⊥

-- where a call failed, the host only looked, the disk failed exactly where that is the stop, and no record is damaged
pub record Failed {H : Type 0} (seen : H → View) (now : H) (k : Known H) (stop : Stop) : Type 0 where
  pub sound : IsSound stop
  pub looks : Looks (seen k.began) (seen now)
  pub faults : RoseIf (stop ≡ DiskFault) (seen k.began).disk_faults (seen now).disk_faults

-- ---- of a transaction that runs

-- the transaction over state numbers that it stands for, with these classes in its world now
abbrev pub tx : {H K : Type 0} → List Declared → Known H → Work H K → NumberTx
tx classes k w = running classes k.first w.overlay.now (beside k.first w.deferred.now w.text.now w.budget.now)

-- what it was lent it still has
abbrev pub Lent : {H K : Type 0} → Known H → Work H K → Type 0
Lent k w = IsLent k w.heap.ghost_name w.overlay.ghost_name w.deferred.ghost_name w.text.ghost_name w.budget.ghost_name w.host.ghost_name

-- this is known of it
abbrev pub IsRunning : {H K : Type 0} → (H → View) → (K → View → Entries → Type 0) → (K → Bool) → Work H K → Known H → Type 0
IsRunning seen held live w k = Holds seen (held w.heap.now (seen w.host.now)) (live w.heap.now) w.host.now w.overlay.now w.budget.now w.bytes k

-- and by a program with the classes of its first world
pub record Knows {H K : Type 0} (seen : H → View) (held : K → View → Entries → Type 0) (live : K → Bool) (w : Work H K) (p : Parts) (k : Known H) : Type 0 where
  pub lent : Lent k w
  pub runs : IsRunning seen held live w k
  pub classes : p.classes ≡ declared_in k.first

-- where it failed, it still has what it was lent
pub record Fails {H K : Type 0} (seen : H → View) (w : Work H K) (k : Known H) (why : Stop) : Type 0 where
  pub lent : Lent k w
  pub failed : Failed seen w.host.now k why
