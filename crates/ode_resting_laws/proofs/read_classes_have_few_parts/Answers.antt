use Rattle.ode_resting_laws.proofs.Few.{are_few}
use Rattle.ode_resting_laws.proofs.read_classes_have_few_parts.Goals as goal

pub returns : goal.returns
returns c = are_few c.parameters_of_classes_are_few.ensures
