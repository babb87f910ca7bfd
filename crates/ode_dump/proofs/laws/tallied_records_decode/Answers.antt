use Rattle.ode_dump.proofs.Tallied.{tallied_are_records}
use Rattle.ode_dump.proofs.laws.tallied_records_decode.Goals as goal

pub returns : goal.returns
returns g = tallied_are_records
