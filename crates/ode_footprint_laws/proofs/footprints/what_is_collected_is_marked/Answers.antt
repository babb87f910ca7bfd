use Rattle.ode_footprint_laws.proofs.FootprintLaws as laws
use Rattle.ode_footprint_laws.proofs.footprints.what_is_collected_is_marked.Goals as goal

pub returns-clause-command : goal.returns-clause-command
returns-clause-command c = laws.command_collects

pub returns-clause-completion : goal.returns-clause-completion
returns-clause-completion c = laws.completion_collects

pub returns-clause-settling : goal.returns-clause-settling
returns-clause-settling c = laws.posted_collects
