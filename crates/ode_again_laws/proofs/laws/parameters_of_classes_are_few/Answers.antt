use Rattle.ode_again_laws.proofs.Parameters.{few_parameters}
use Rattle.ode_again_laws.proofs.laws.parameters_of_classes_are_few.Goals as goal

pub returns : goal.returns
returns c = few_parameters
