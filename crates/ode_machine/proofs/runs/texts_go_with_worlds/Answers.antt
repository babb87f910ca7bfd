use Rattle.ode_machine.proofs.Stable.{one_world}
use Rattle.ode_machine.proofs.runs.texts_go_with_worlds.Goals as goal

pub returns-clause-stable : goal.returns-clause-stable
returns-clause-stable c = one_world
