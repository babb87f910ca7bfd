use Rattle.ode_ship_laws.proofs.Forming.{kept_shipped}
use Rattle.ode_ship_laws.proofs.kept_transactions_are_shipped.Goals as goal

pub returns : goal.returns
returns c = λ w entries settled kept before are up fit. kept_shipped c.held_worlds_tell_their_next_number.ensures c.held_records_decode.ensures w entries settled kept before are up fit
