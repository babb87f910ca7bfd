-- What is known of a transaction behind an act.
use Rattle.std.proofs.Common.{Bool, Result, Ok, Err}
use Rattle.ode_host.specs.View.{View}
use Rattle.ode_interpreter.specs.Seen.{Leaves}
use Rattle.ode_interpreter.specs.declared.stop.Stop.{Stop}
use Rattle.ode_interpreter.specs.declared.stop.Stop.TheVariants as stop
use Rattle.ode_keep.specs.Entries.{Entries}
use Rattle.ode_run.specs.Knowing.{Failed, Fails, IsRunning, Known, Knows, Lent}
use Rattle.ode_run.specs.declared.work.Work.{Work}
use Rattle.ode_schema.specs.Parts.{Parts}

module _ {H K : Type 0} (seen : H → View) (held : K → View → Entries → Type 0) (live : K → Bool) where
  -- where the act leaves it running, and it still has what it was lent
  pub known_behind : {R : Type 0} (result : Result R Stop) (w w' : Work H K) (p : Parts) (k : Known H) → Knows seen held live w p k → (Lent k w → Lent k w')
      → Leaves result (IsRunning seen held live w' k) (Failed seen w'.host.now k) → Leaves result (Knows seen held live w' p k) (Fails seen w' k)
  known_behind (Ok v) w w' p k knows lent left = record { lent = lent knows.lent; runs = left; classes = knows.classes }
  known_behind (Err (stop.Abort why)) w w' p k knows lent left = record { lent = lent knows.lent; runs = left; classes = knows.classes }
  known_behind (Err stop.Memory) w w' p k knows lent left = record { lent = lent knows.lent; runs = left; classes = knows.classes }
  known_behind (Err stop.DiskFault) w w' p k knows lent left = record { lent = lent knows.lent; failed = left }
  known_behind (Err (stop.Damaged key)) w w' p k knows lent left = record { lent = lent knows.lent; failed = left }
