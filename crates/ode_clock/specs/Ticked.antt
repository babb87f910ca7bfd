-- How far a clock command has come.
use Rattle.std.specs.Prelude.{◌≡◌, ℕ, List, ◌++◌}
use Rattle.ode_machine.specs.Works.{clock_run}
use Rattle.ode_value.specs.Draining.{world_after}
use Rattle.ode_value.specs.Language.{ListWorld, Settlings}
use Rattle.ode_value.specs.Pasts.{lists}
use Rattle.ode_value.specs.Worlds.{Position}

-- Of all these positions these are left, and so many entries may still run: what came before them settled these, and left this world.
pub record IsTicked (all due : List Position) (last : Position) (most left : ℕ) (first now : ListWorld) (settled : Settlings) : Type 0 where
  pub whole : clock_run lists all last most first ≡ settled ++ clock_run lists due last left now
  pub world : world_after first settled ≡ now
