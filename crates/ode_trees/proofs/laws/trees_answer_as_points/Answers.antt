use Rattle.ode_trees.proofs.TreeAnswers.{answers-fires}
use Rattle.ode_trees.proofs.laws.trees_answer_as_points.Goals as goal

pub returns : goal.returns
returns c = answers-fires
