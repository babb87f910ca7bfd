use Rattle.ode_same.proofs.HistoryLaws.{same-on-histories}
use Rattle.ode_same.proofs.laws.same_is_same_on_histories.Goals as goal

pub returns : goal.returns
returns c = same-on-histories
