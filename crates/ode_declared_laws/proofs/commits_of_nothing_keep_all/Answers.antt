use Rattle.ode_declared_laws.proofs.SettlingNothing.{commits_nothing}
use Rattle.ode_declared_laws.proofs.commits_of_nothing_keep_all.Goals as goal

pub returns : goal.returns
returns c = commits_nothing
