-- The worlds of settled transactions.
use Rattle.ode_value.specs.Language.{ListWorld}
use Rattle.ode_value.specs.Objects.{Histories, Starts}
use Rattle.ode_value.specs.Settling.{Settled}

-- the world behind a settled transaction
abbrev pub world_of : Settled Histories Starts → ListWorld
world_of s = s.0
