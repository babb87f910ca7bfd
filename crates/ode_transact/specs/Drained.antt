-- How far a drain has come.
use Rattle.std.specs.Prelude.{◌≡◌, ◌-◌, ℕ, ◌++◌, length}
use Rattle.ode_value.specs.Draining.{drain, world_after}
use Rattle.ode_value.specs.Language.{ListWorld, Settlings}
use Rattle.ode_value.specs.Pasts.{lists}

-- of at most so many entries so many ran, which settled these and left this world
pub record IsDrained (most ran : ℕ) (first now : ListWorld) (settled : Settlings) : Type 0 where
  pub whole : drain lists most first ≡ settled ++ drain lists (most - ran) now
  pub world : world_after first settled ≡ now
  pub count : length settled ≡ ran
