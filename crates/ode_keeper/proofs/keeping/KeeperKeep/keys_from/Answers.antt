use Rattle.ode_keeper.proofs.keeping.KeeperKeep.keys_from.Goals as goal

pub returns-in-Areas-clause-holds : goal.returns-in-Areas-clause-holds
returns-in-Areas-clause-holds g c = rw c.in-Areas.is c.keys_from.ensures.holds
