use Rattle.ode_commit_laws.proofs.CleanLast.{commit_same}
use Rattle.ode_commit_laws.proofs.commits_may_clean_last.Goals as goal
use Rattle.ode_value.specs.Pasts.{numbers}

pub returns : goal.returns
returns c = λ tables y numbered. commit_same (numbers tables) y numbered
