use Rattle.ode_changed_laws.proofs.FewParts.{new-few, parts-few}
use Rattle.ode_changed_laws.proofs.changed_classes_have_few_parts.Goals as goal

pub returns-clause-parts : goal.returns-clause-parts
returns-clause-parts c = parts-few

pub returns-clause-fields : goal.returns-clause-fields
returns-clause-fields c = new-few
