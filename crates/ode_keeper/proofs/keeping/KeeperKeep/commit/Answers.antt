use Rattle.ode_host.proofs.Moments.{weaker}
use Rattle.ode_keeper.proofs.Held.{pages_left}
use Rattle.ode_keeper.proofs.keeping.KeeperKeep.commit.Goals as goal

pub returns-in-Areas-clause-done : goal.returns-in-Areas-clause-done
returns-in-Areas-clause-done g c = rw c.in-Areas.is c.commit.ensures.done

pub returns-in-Pages-clause-any_moment : goal.returns-in-Pages-clause-any_moment
returns-in-Pages-clause-any_moment g c =
    rw c.in-Pages.is
    (λ entries h. weaker _ _ _ _ (pages_left _ entries c.args.batch.now (g.H.Host.view c.args.host.now)) (c.commit-in-Pages.ensures.any_moment entries h))
