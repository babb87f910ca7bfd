-- The numbers of open sessions.
use Rattle.std.specs.Prelude.{List, map}
use Rattle.ode_machine.specs.Interleaving.{Open}
use Rattle.ode_value.specs.GoodWorlds.{RiseFrom}

-- they rise
abbrev pub AreRising : List Open → Type 0
AreRising sessions = RiseFrom 0 (map (λ (o : Open). o.session) sessions)
