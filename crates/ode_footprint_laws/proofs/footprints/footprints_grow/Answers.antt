use Rattle.ode_footprint_laws.proofs.FootprintLaws as laws
use Rattle.ode_footprint_laws.proofs.footprints.footprints_grow.Goals as goal

pub returns-clause-statement : goal.returns-clause-statement
returns-clause-statement c = laws.statements_grow

pub returns-clause-completion : goal.returns-clause-completion
returns-clause-completion c = laws.completion_grows

pub returns-clause-settling : goal.returns-clause-settling
returns-clause-settling c = laws.posted_grows
