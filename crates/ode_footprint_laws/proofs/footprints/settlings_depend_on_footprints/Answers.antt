use Rattle.ode_footprint_laws.proofs.FootprintLaws as laws
use Rattle.ode_footprint_laws.proofs.footprints.settlings_depend_on_footprints.Goals as goal

pub returns-clause-commit : goal.returns-clause-commit
returns-clause-commit c = laws.commit_depends

pub returns-clause-abort : goal.returns-clause-abort
returns-clause-abort c = laws.abort_depends
