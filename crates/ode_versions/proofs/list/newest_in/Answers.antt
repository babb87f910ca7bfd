use Rattle.ode_versions.proofs.Current.{greatest, newest_at}
use Rattle.ode_versions.proofs.list.newest_in.Goals as goal

pub returns-clause-greatest : goal.returns-clause-greatest
returns-clause-greatest c = greatest _ _ c.requires.some c.requires.rising

pub returns-clause-newest : goal.returns-clause-newest
returns-clause-newest c = newest_at _ _ c.requires.some
