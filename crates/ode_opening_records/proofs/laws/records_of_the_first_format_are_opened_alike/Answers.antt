use Rattle.ode_opening_records.proofs.AnyFormat.{opened_alike}
use Rattle.ode_opening_records.proofs.laws.records_of_the_first_format_are_opened_alike.Goals as goal

pub returns : goal.returns
returns c = opened_alike
