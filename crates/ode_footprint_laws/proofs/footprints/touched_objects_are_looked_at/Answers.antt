use Rattle.ode_footprint_laws.proofs.FootprintLaws as laws
use Rattle.ode_footprint_laws.proofs.footprints.touched_objects_are_looked_at.Goals as goal

pub returns-clause-command : goal.returns-clause-command
returns-clause-command c = laws.command_touches

pub returns-clause-completion : goal.returns-clause-completion
returns-clause-completion c = laws.completion_touches
