use Rattle.ode_paging.specs.OneMap.{one_map, rising}
use Rattle.ode_paging.proofs.laws.one_map.Goals as goal

pub returns-clause-alone : goal.returns-clause-alone
returns-clause-alone c image entries others first second = one_map image entries others first second

pub returns-clause-rising : goal.returns-clause-rising
returns-clause-rising c image entries means = rising image entries means
