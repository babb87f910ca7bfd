-- What a stop leaves of a run that ships.
use Rattle.std.specs.Prelude.{ℕ, List}
use Rattle.ode_keep.specs.Entries.{Entries}
use Rattle.ode_keeper.specs.Files.{FileMeans}
use Rattle.ode_machine.specs.Runs.{Item, world_at}
use Rattle.ode_trace.specs.Shipping.{IsShippedSoFar}
use Rattle.ode_value.specs.Language.{ListWorld}
use Rattle.ode_begin.specs.Holds.{Holds}

-- A run that ships is at one of its moments: the image holds the world after some of the settled transactions.
pub record ShipsSoFar (items : List Item) (w : ListWorld) (entries : Entries) (text image out : List ℕ) : Type 0 where
  pub moment : IsShippedSoFar FileMeans items w entries text image out
  pub holds : Holds image (world_at moment.settled w items)
