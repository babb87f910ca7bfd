use Rattle.ode_value.proofs.LengthLaws.{length-version}
use Rattle.ode_value.proofs.laws.lengths_are_counts.Goals as goal

pub returns-clause-version : goal.returns-clause-version
returns-clause-version c = length-version
