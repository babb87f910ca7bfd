use Rattle.ode_declared_laws.proofs.Counting.{few_parts}
use Rattle.ode_declared_laws.proofs.checked_classes_have_few_parts.Goals as goal

pub returns : goal.returns
returns c = few_parts
