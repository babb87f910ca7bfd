use Rattle.ode_footprint_laws.proofs.FootprintLaws as laws
use Rattle.ode_footprint_laws.proofs.footprints.transactions_change_what_they_look_at.Goals as goal

pub returns-clause-statement : goal.returns-clause-statement
returns-clause-statement c = laws.statement_stays

pub returns-clause-command : goal.returns-clause-command
returns-clause-command c = laws.command_stays

pub returns-clause-firing : goal.returns-clause-firing
returns-clause-firing c = laws.firing_stays

pub returns-clause-completion : goal.returns-clause-completion
returns-clause-completion c = laws.completion_stays

pub returns-clause-settling : goal.returns-clause-settling
returns-clause-settling c = laws.posted_stays
