use Rattle.ode_language_laws.proofs.LanguageRuns.{fresh_runs_well, runs_well}
use Rattle.ode_language_laws.proofs.laws.runs_of_the_language_stay_good.Goals as goal

pub returns-clause-fresh : goal.returns-clause-fresh
returns-clause-fresh c script = fresh_runs_well script

pub returns-clause-good : goal.returns-clause-good
returns-clause-good c w good ones script = runs_well w good ones script
