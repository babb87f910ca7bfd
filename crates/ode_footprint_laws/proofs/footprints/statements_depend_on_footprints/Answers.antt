use Rattle.ode_footprint_laws.proofs.FootprintLaws as laws
use Rattle.ode_footprint_laws.proofs.footprints.statements_depend_on_footprints.Goals as goal

pub returns-clause-statement : goal.returns-clause-statement
returns-clause-statement c = laws.statement_depends

pub returns-clause-command : goal.returns-clause-command
returns-clause-command c = laws.command_depends

pub returns-clause-firing : goal.returns-clause-firing
returns-clause-firing c = laws.firing_depends

pub returns-clause-look : goal.returns-clause-look
returns-clause-look c = laws.look_depends
