use Rattle.ode_host.proofs.Moments.{looks_joined}
use Rattle.ode_opening.proofs.trees.read_trees.Goals as goal

-- two walks
pub returns-clause-looks : goal.returns-clause-looks
returns-clause-looks g c = looks_joined _ _ _ c.walk.ensures.looks c.read_added.ensures.looks
