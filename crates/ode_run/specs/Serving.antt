-- What is known of a context's keeper and of the host's faults where nothing is known of the records.
use Rattle.std.specs.Prelude.{◌≡◌, Bool, true, Result, IsErrOf}
use Rattle.ode_host.specs.Causes.{RoseIf}
use Rattle.ode_host.specs.Host.{Looks}
use Rattle.ode_host.specs.View.{View}
use Rattle.ode_interpreter.specs.Seen.{Leaves}
use Rattle.ode_interpreter.specs.declared.stop.Stop.{Stop}
use Rattle.ode_interpreter.specs.declared.stop.Stop.TheVariants as stop
use Rattle.ode_run.specs.Knowing.{Known, Lent}
use Rattle.ode_run.specs.declared.work.Work.{Work}

-- the keeper may be used, the host only looked, and the disk didn't fail
pub record Serves (live : Bool) (began now : View) : Type 0 where
  pub usable : live ≡ true
  pub looks : Looks began now
  pub faults : now.disk_faults ≡ began.disk_faults

-- the host only looked, and the disk failed exactly where that is the stop
pub record Stops (began now : View) (why : Stop) : Type 0 where
  pub looks : Looks began now
  pub faults : RoseIf (why ≡ stop.DiskFault) began.disk_faults now.disk_faults

-- ---- of a transaction that runs

abbrev pub IsServing : {H K : Type 0} → (H → View) → (K → Bool) → H → Work H K → Type 0
IsServing seen live began w = Serves (live w.heap.now) (seen began) (seen w.host.now)

-- It still has what it was lent. Of what is known only the names and the host as it began count here.
pub record GoesOn {H K : Type 0} (seen : H → View) (live : K → Bool) (w : Work H K) (k : Known H) : Type 0 where
  pub lent : Lent k w
  pub serves : IsServing seen live k.began w

pub record Halts {H K : Type 0} (seen : H → View) (w : Work H K) (k : Known H) (why : Stop) : Type 0 where
  pub lent : Lent k w
  pub stops : Stops (seen k.began) (seen w.host.now) why

-- ---- what a call leaves

-- The keeper may be used, unless the disk failed or a record is damaged; the host only looked, and the disk failed exactly where that is
-- the stop.
pub record LeavesUsable {R : Type 0} (result : Result R Stop) (live : Bool) (before after : View) : Type 0 where
  pub usable : Leaves result (live ≡ true) (λ why. Unit {0})
  pub looks : Looks before after
  pub faults : RoseIf (IsErrOf result stop.DiskFault) before.disk_faults after.disk_faults
