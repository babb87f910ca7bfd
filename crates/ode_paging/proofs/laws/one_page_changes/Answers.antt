use Rattle.ode_paging.proofs.Replaced.{replaced}
use Rattle.ode_paging.proofs.laws.one_page_changes.Goals as goal

pub returns : goal.returns
returns c pages key value page are leads within = replaced pages key value page are leads within
