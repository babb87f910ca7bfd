use Rattle.ode_footprint_laws.proofs.FootprintLaws as laws
use Rattle.ode_footprint_laws.proofs.footprints.numbers_stay_drawn.Goals as goal

pub returns-clause-statement : goal.returns-clause-statement
returns-clause-statement c = laws.statement_drawn

pub returns-clause-completion : goal.returns-clause-completion
returns-clause-completion c = laws.completion_drawn
