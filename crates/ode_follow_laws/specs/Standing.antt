-- Where a standby is that follows a run.
use Rattle.std.specs.Prelude.{◌≤◌, ℕ, List}
use Rattle.ode_keep.specs.Entries.{Entries}
use Rattle.ode_language.specs.Languages.{ode}
use Rattle.ode_machine.specs.Runs.{Item, world_at}
use Rattle.ode_ship.specs.Frames.{Frame}
use Rattle.ode_standby.specs.Courses.{Course}
use Rattle.ode_standby.specs.Primary.{CameTo, reach}
use Rattle.ode_transact.specs.Logging.{AreOf}
use Rattle.ode_transact.specs.Resting.{HoldsBy}
use Rattle.ode_transact.specs.Settling.{Meaning}
use Rattle.ode_value.specs.Language.{ListWorld}

-- It came to the place behind the frames that are whole in the bytes, and its records hold the world that the run settled there.
pub record IsStanding (w : ListWorld) (items : List Item) (fs : List Frame) (entries : Entries) (j : ℕ) (places bytes rest : List ℕ) (d : Course) : Type 0 where
  pub came : CameTo fs entries j places bytes rest d
  pub holds : AreOf ode d.entries (world_at (reach j came.whole) w items)

-- An image holds the world behind some of so many settled transactions, no fewer than these.
pub record HoldsSome (means : Meaning) (w : ListWorld) (items : List Item) (most j : ℕ) (image : List ℕ) : Type 0 where
  pub k : ℕ
  pub from : j ≤ k
  pub within : k ≤ most
  pub held : HoldsBy ode means image (world_at k w items)
