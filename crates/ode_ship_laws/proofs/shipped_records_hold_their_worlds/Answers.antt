use Rattle.ode_language.specs.Languages.{ode}
use Rattle.ode_ship_laws.proofs.Holding.{after_all, holds_after}
use Rattle.ode_ship_laws.proofs.shipped_records_hold_their_worlds.Goals as goal

pub returns-clause-holds : goal.returns-clause-holds
returns-clause-holds c = λ w entries settled kept k before are few. holds_after ode k w entries settled kept before are few

pub returns-clause-last : goal.returns-clause-last
returns-clause-last c = after_all
