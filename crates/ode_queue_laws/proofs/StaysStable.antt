-- References stay stable over runs and stops.
use Rattle.std.proofs.Common.{ℕ, zero, suc, List, [], ◌∷◌, ◌++◌, map}
use Rattle.std.specs.Prelude.{take}
use Rattle.std.specs.List.{AllByRecursion}
use Rattle.ode_value.specs.Language.{ListWorld, Settlings, Language}
use Rattle.ode_value.specs.Objects.{Histories, Starts}
use Rattle.ode_value.specs.Settling.{Settled}
use Rattle.ode_value.specs.Worlds.{Bones}
use Rattle.ode_machine.specs.Runs.{Item, Settles, Refuses, trace, worlds, world_at}
use Rattle.ode_machine.specs.Stability.{EachFollows, IsStable}
use Rattle.ode_run_laws.specs.Orders.{IsOrdered}
use Rattle.ode_run_laws.proofs.FollowRuns.{runs_stable, runs_ordered}
use Rattle.ode_run_laws.proofs.StableLaws.{stable}
use Rattle.ode_queue_laws.specs.Stops.{StoppedRun, settled_by}
use Rattle.ode_run_laws.specs.Settled.{settled_of}

abbrev bones_of : ListWorld → Bones
bones_of w = w.bones

abbrev left_by : Settled Histories Starts → Bones
left_by s = s.0.bones

-- worlds that follow one another, all ordered
pub record Follow (b : Bones) (bs : List Bones) : Type 0 where
  pub each : EachFollows b bs
  pub ordered : AllByRecursion IsOrdered bs

-- those of a run until a stop
taken_follow : (k : ℕ) (b : Bones) (items : List Item) → Follow b (map bones_of (worlds items)) → Follow b (map left_by (take k (settled_of items)))
taken_follow zero b items follow = record { each = tt; ordered = tt }
taken_follow (suc k) b [] follow = record { each = tt; ordered = tt }
taken_follow (suc k) b (Refuses line ∷ items) follow = taken_follow (suc k) b items follow
taken_follow (suc k) b (Settles world text ∷ items) follow =
    let rest : Follow world.bones (map left_by (take k (settled_of items))) = taken_follow k world.bones items (record { each = follow.each.1; ordered = follow.ordered.1 }) in
    record { each = (follow.each.0, rest.each); ordered = (follow.ordered.0, rest.ordered) }

-- the world that a stop leaves is ordered
stopped_ordered : (k : ℕ) (w : ListWorld) (items : List Item) → IsOrdered w.bones → AllByRecursion IsOrdered (map bones_of (worlds items)) → IsOrdered (world_at k w items).bones
stopped_ordered k w [] ordered all = ordered
stopped_ordered k w (Refuses line ∷ items) ordered all = stopped_ordered k w items ordered all
stopped_ordered zero w (Settles world text ∷ items) ordered all = ordered
stopped_ordered (suc k) w (Settles world text ∷ items) ordered all = stopped_ordered k world items all.0 all.1

-- behind those of a run until a stop come those from the world that it left
stopped_follow : (k : ℕ) (w : ListWorld) (items : List Item) (more : Settlings) → Follow w.bones (map left_by (take k (settled_of items))) → Follow (world_at k w items).bones (map left_by more)
    → Follow w.bones (map left_by (take k (settled_of items) ++ more))
stopped_follow zero w [] more follow rest = rest
stopped_follow (suc k) w [] more follow rest = rest
stopped_follow k w (Refuses line ∷ items) more follow rest = stopped_follow k w items more follow rest
stopped_follow zero w (Settles world text ∷ items) more follow rest = rest
stopped_follow (suc k) w (Settles world text ∷ items) more follow rest =
    let behind : Follow world.bones (map left_by (take k (settled_of items) ++ more)) = stopped_follow k world items more (record { each = follow.each.1; ordered = follow.ordered.1 }) rest in
    record { each = (follow.each.0, behind.each); ordered = (follow.ordered.0, behind.ordered) }

runs_follow : (l : Language) (w : ListWorld) (runs : List StoppedRun) → IsOrdered w.bones → Follow w.bones (map left_by (settled_by l w runs))
runs_follow l w [] ordered = record { each = tt; ordered = tt }
runs_follow l w (r ∷ runs) ordered =
    let all : AllByRecursion IsOrdered (map bones_of (worlds (trace l w r.script))) = runs_ordered l w r.script ordered in
    stopped_follow r.settles w (trace l w r.script) (settled_by l (world_at r.settles w (trace l w r.script)) runs)
    (taken_follow r.settles w.bones (trace l w r.script) (record { each = (runs_stable l w r.script ordered).numbers; ordered = all }))
    (runs_follow l (world_at r.settles w (trace l w r.script)) runs (stopped_ordered r.settles w (trace l w r.script) ordered all))

pub runs_stay_stable : (l : Language) (w : ListWorld) (runs : List StoppedRun) → IsOrdered w.bones → IsStable w.bones (map left_by (settled_by l w runs))
runs_stay_stable l w runs ordered = let follow : Follow w.bones (map left_by (settled_by l w runs)) = runs_follow l w runs ordered in stable w.bones (map left_by (settled_by l w runs)) ordered follow.ordered follow.each

pub runs_stay_ordered : (l : Language) (w : ListWorld) (runs : List StoppedRun) → IsOrdered w.bones → AllByRecursion IsOrdered (map left_by (settled_by l w runs))
runs_stay_ordered l w runs ordered = (runs_follow l w runs ordered).ordered
