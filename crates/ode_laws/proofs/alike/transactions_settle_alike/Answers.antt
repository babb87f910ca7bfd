use Rattle.ode_laws.proofs.AlikeSettling.{commits_run, aborts_run, transactions_run, entry_settles, drains_run}
use Rattle.ode_laws.proofs.alike.transactions_settle_alike.Goals as goal

pub returns-clause-commit : goal.returns-clause-commit
returns-clause-commit c = commits_run

pub returns-clause-abort : goal.returns-clause-abort
returns-clause-abort c = aborts_run

pub returns-clause-whole : goal.returns-clause-whole
returns-clause-whole c = transactions_run

pub returns-clause-entry : goal.returns-clause-entry
returns-clause-entry c = entry_settles

pub returns-clause-drain : goal.returns-clause-drain
returns-clause-drain c = drains_run
