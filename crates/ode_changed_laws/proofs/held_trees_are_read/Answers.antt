use Rattle.ode_changed_laws.proofs.TreesRead.{known-trees}
use Rattle.ode_changed_laws.proofs.held_trees_are_read.Goals as goal

pub returns : goal.returns
returns c = known-trees c.one_spelling.ensures.again c.held_worlds_hold_classes.ensures
