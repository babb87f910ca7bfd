use Rattle.ode_trees.proofs.ListMachineLaws.{by-mark}
use Rattle.ode_trees.proofs.machine.step.Goals as goal

pub returns : goal.returns
returns c = by-mark _ c.args.e.now c.args.mark.now c.args.s.now c.step_listed.ensures
