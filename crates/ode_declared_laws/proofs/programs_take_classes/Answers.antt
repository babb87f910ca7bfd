use Rattle.ode_declared_laws.proofs.Placing.{program_agrees, program_aligned, program_fits}
use Rattle.ode_declared_laws.proofs.programs_take_classes.Goals as goal

pub returns-clause-fit : goal.returns-clause-fit
returns-clause-fit c = program_fits

pub returns-clause-aligned : goal.returns-clause-aligned
returns-clause-aligned c = program_aligned

pub returns-clause-agrees : goal.returns-clause-agrees
returns-clause-agrees c = program_agrees
